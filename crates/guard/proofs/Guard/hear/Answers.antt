-- `Guard::hear`: by what looking at the guard's state gives, and then by 13 and 17. Assumes nothing.
use mathlib.Core.Path.{◌≡◌, sym, ap, ◌∙◌}
use mathlib.Core.List.{List, [], ◌∷◌}
use Prim.Native.Nat.{ℕ, ◌≤◌}
use borrow.Author.Tests.{lt-ltb, le-ltb, le-leb, lt-leb}
use lib.Dec.{leb, ltb}
use Rattle.std.specs.Prelude.{⊤, Result, Ok, Err}
use Rattle.std.proofs.lemmas.Result.{err_from_is_err_and}
use Rattle.layout.specs.declared.Refused.{Refused}
use Rattle.layout.specs.declared.Refused.TheVariants.{Outcome, Count}
use Rattle.layout.specs.Refused.{says}
use Rattle.table.specs.Shared.{row, passed, first, outcome}
use Rattle.table.specs.Bytes.{machine_of}
use Rattle.table.specs.Rows.{look_rows}
use Rattle.table.specs.Check.{move_by}
use Rattle.table.proofs.Shared.{first_here, first_skip, refused_before, passed_before}
use Rattle.table.proofs.Answers.{moves_are_next}
use Rattle.guard.specs.declared.Guard.{Guard}
use Rattle.guard.specs.Guard.{most_told, after_by, tell_rows, told_when, ToldAs}
use Rattle.guard.proofs.Guard.hear.Goals as goal

module _ (b : List ℕ) (g : Guard) (byte : ℕ) where
  -- the guard after a tell is the one that its answer calls for
  decided : (a : Result ⊤ Refused) → first (tell_rows b g byte) ≡ says a → ToldAs b g byte a (told_when (says a) (machine_of b) g (outcome byte))
  decided a e = record { refusal = sym e; guard = sym (ap (λ t. told_when t (machine_of b) g (outcome byte)) e) }

  -- where looking was passed, 13 and then 17 are left
  looked : first (look_rows b g.state) ≡ passed → first (tell_rows b g byte) ≡ first (row 13 (ltb 1 byte) 0 ∷ row 17 (leb most_told g.count) 0 ∷ [])
  looked p = passed_before (look_rows b g.state) (row 13 (ltb 1 byte) 0 ∷ row 17 (leb most_told g.count) 0 ∷ []) p

  heeded : first (look_rows b g.state) ≡ passed → byte ≤ 1 → first (tell_rows b g byte) ≡ first (row 17 (leb most_told g.count) 0 ∷ [])
  heeded p h = looked p ∙ first_skip 13 0 (ltb 1 byte) (row 17 (leb most_told g.count) 0 ∷ []) (le-ltb _ _ h)

pub returns-in_err-moves : goal.returns-in_err-moves
returns-in_err-moves c =
    let a = c.args in
    let r = sym c.in_err-moves.ensures.refusal in
    let p = err_from_is_err_and c.from_residual.result c.from_residual.ensures.1 in
    rw (p.1, p.2) (decided a.table.now a.self.now a.outcome (Err _) (refused_before _ _ r))

pub returns-then-outcome-gt1 : goal.returns-then-outcome-gt1
returns-then-outcome-gt1 c =
    let a = c.args in
    let p = sym c.in_ok-moves.ensures.refusal in
    decided a.table.now a.self.now a.outcome (Err (Outcome 0))
    (looked a.table.now a.self.now a.outcome p ∙ first_here 13 0 _ _ (lt-ltb _ _ c.if-outcome-gt1.true))

pub returns-then-self-ge-MOST_TOLD : goal.returns-then-self-ge-MOST_TOLD
returns-then-self-ge-MOST_TOLD c =
    let a = c.args in
    let p = sym c.in_ok-moves.ensures.refusal in
    decided a.table.now a.self.now a.outcome (Err Count)
    (heeded a.table.now a.self.now a.outcome p c.if-outcome-gt1.false ∙ first_here 17 0 _ _ (le-leb _ _ c.if-self-ge-MOST_TOLD.true))

pub returns : goal.returns
unfolding first
returns c =
    let a = c.args in
    let b = a.table.now in
    let g = a.self.now in
    let o = outcome a.outcome in
    let p = sym c.in_ok-moves.ensures.refusal in
    let e = c.in_ok-moves.ensures.moves in
    let f = c.moved.ensures ∙ ap (λ m. after_by (move_by m o) g o) e ∙ ap (λ n. after_by n g o) (moves_are_next b g.state o) in
    let d = decided b g a.outcome (Ok tt) (heeded b g a.outcome p c.if-outcome-gt1.false ∙ first_skip 17 0 (leb most_told g.count) [] (lt-leb _ _ c.if-self-ge-MOST_TOLD.false)) in
    record { refusal = d.refusal; guard = f ∙ d.guard }
