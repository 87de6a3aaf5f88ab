-- `sets::read_set_within` meets its contract: the rows of the head decide, and where those are passed the rows of the limits. Assumes nothing.
use mathlib.Core.Path.{◌≡◌, refl, sym, ap, ◌∙◌}
use mathlib.Core.List.{List}
use Prim.Native.Nat.{ℕ}
use native.Mathlib.Omega.{arith}
use Rattle.std.specs.Prelude.{Result}
use Rattle.std.proofs.lemmas.Result.{err_from_is_err_and}
use Rattle.layout.specs.declared.Refused.{Refused}
use Rattle.layout.specs.Refusal.{Tested, passed, first}
use Rattle.layout.specs.Refused.{says}
use Rattle.layout.proofs.Rows.{refused_before, passed_before}
use Rattle.meaning.specs.declared.LimitSet.{LimitSet}
use Rattle.sets.specs.Bytes.{set_of}
use Rattle.sets.specs.Rows.{head_rows, test_rows, set_rows}
use Rattle.sets.specs.Read.{set_in, set_when, ReadAs}
use Rattle.sets.proofs.Accepted.{Head, passed_head}
use Rattle.sets.proofs.read_set_within.Goals.{In_ok-test_head}
use Rattle.sets.proofs.read_set_within.Goals as goal

module _ (w : ℕ) (b : List ℕ) where
  -- with the head passed, the limits decide
  tested : (l : LimitSet) (u : Tested) → first (head_rows b) ≡ passed → u ≡ first (test_rows w l) → l ≡ set_of b → first (set_rows w b) ≡ u
  tested l u e f g = passed_before (head_rows b) (test_rows w (set_of b)) e ∙ sym (f ∙ ap (λ z. first (test_rows w z)) g)

  -- an answer that says what the rows do, and whose set is theirs
  read_as : (t : Tested) (r : Result LimitSet Refused) → first (set_rows w b) ≡ t → says r ≡ t → set_in r ≡ set_when t b → ReadAs w b r
  read_as t r q e s = record { answer = e ∙ sym q; set = s ∙ sym (ap (λ z. set_when z b) q) }

at_limits : (c : In_ok-test_head) → first (head_rows c.args.bytes.now) ≡ passed
at_limits c = sym c.in_ok-test_head.ensures

head : (c : In_ok-test_head) → Head c.args.bytes.now
head c = passed_head c.args.bytes.now (at_limits c)

pub returns-in_err-test_head : goal.returns-in_err-test_head
returns-in_err-test_head c =
    let w = c.args.widest in
    let b = c.args.bytes.now in
    let p = err_from_is_err_and c.from_residual.result c.from_residual.ensures.1 in
    rw (p.1, p.2)
    (read_as w b _ _ (refused_before (head_rows b) (test_rows w (set_of b)) (sym c.in_err-test_head.ensures)) refl refl)

pub bounds-bytes-5 : goal.bounds-bytes-5
bounds-bytes-5 c = let h = head (goal.at.bounds-bytes-5 c).In_ok-test_head in omega arith

pub take_limits-set-requires : goal.take_limits-set-requires
take_limits-set-requires c = let h = head (goal.at.take_limits-set-requires c).In_ok-test_head in (c.wide.ensures.0, omega arith, omega arith)

pub test_limits-requires : goal.test_limits-requires
test_limits-requires c = let h = head (goal.at.test_limits-requires c).In_ok-test_head in omega (arith, ap (λ z. z.count) c.take_limits-set.ensures)

pub returns-in_err-test_limits : goal.returns-in_err-test_limits
returns-in_err-test_limits c =
    let w = c.args.widest in
    let b = c.args.bytes.now in
    let p = err_from_is_err_and c.from_residual-in_err-test_limits.result c.from_residual-in_err-test_limits.ensures.1 in
    rw (p.1, p.2)
    (read_as w b _ _ (tested w b _ _ (at_limits (goal.at.returns-in_err-test_limits c).In_ok-test_head) c.in_err-test_limits.ensures c.take_limits-set.ensures) refl refl)

pub returns : goal.returns
returns c =
    let w = c.args.widest in
    let b = c.args.bytes.now in
    let g = c.take_limits-set.ensures in
    read_as w b passed _ (tested w b _ _ (at_limits (goal.at.returns c).In_ok-test_head) c.in_ok-test_limits.ensures g) refl g
