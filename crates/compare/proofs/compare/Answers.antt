-- `compare::compare`: each refusal is the first row that holds, of the first set and then of the second, and what is left is what `search` ensures. Assumes nothing.
use mathlib.Core.Path.{◌≡◌, refl, sym, ap, ap₂, ◌∙◌, subst}
use mathlib.Core.Bool.{true, true≢false}
use mathlib.Core.List.{List}
use Prim.Native.Nat.{ℕ}
use Rattle.std.specs.Prelude.{Result, Ok, Err, MatchResult}
use Rattle.std.specs.Result.{is_ok}
use Rattle.layout.specs.declared.Refused.{Refused}
use Rattle.layout.specs.Refusal.{first}
use Rattle.meaning.specs.declared.LimitSet.{LimitSet}
use Rattle.meaning.specs.Longest.{longest}
use Rattle.sets.specs.Bytes.{set_of}
use Rattle.sets.specs.Rows.{set_rows}
use Rattle.sets.proofs.Reading.{refused_rows, accepted_rows, accepted_set, accepted_set_allowed}
use Rattle.std.proofs.lemmas.Result.{err_from_is_err_and}
use Rattle.compare.specs.declared.RefusedSet.{RefusedSet}
use Rattle.compare.specs.declared.RefusedSet.TheVariants.{First, Second}
use Rattle.compare.specs.Compare.{says, in_turn, Compares, ComparedAs}
use Rattle.compare.proofs.compare.Goals.{In_ok-first, In_ok-second}
use Rattle.compare.proofs.compare.Goals as goal

-- what was read, by what its refusal is turned into
read_ok : (r : Result LimitSet Refused) (s : LimitSet) (No : Refused → Type 0) → MatchResult r (λ x. ◌≡◌ {A = Result LimitSet RefusedSet} (Ok s) (Ok x)) No → true ≡ is_ok r → r ≡ Ok s
read_ok (Ok x) s No e v = let f : s ≡ x = cc in ap Ok (sym f)
read_ok (Err x) s No e v = absurd (true≢false v)

read_err : (r : Result LimitSet Refused) (x : RefusedSet) (named : Refused → RefusedSet) → MatchResult r (λ s. ◌≡◌ {A = Result LimitSet RefusedSet} (Err x) (Ok s)) (λ e. x ≡ named e) → (e : Refused) × (r ≡ Err e) × (x ≡ named e)
read_err (Ok s) x named e = absurd (cc)
read_err (Err f) x named e = (f, refl, e)

first_read : (c : In_ok-first) → c.read_set.result ≡ Ok c.in_ok-first.first
first_read c = read_ok c.read_set.result c.in_ok-first.first _ c.in_ok-first.ensures.cases c.in_ok-first.ensures.variant

second_read : (c : In_ok-second) → c.read_set-2.result ≡ Ok c.in_ok-second.second
second_read c = read_ok c.read_set-2.result c.in_ok-second.second _ c.in_ok-second.ensures.cases c.in_ok-second.ensures.variant

refused_as : (a b : List ℕ) (x y : RefusedSet) → x ≡ y → in_turn (first (set_rows longest a)) (first (set_rows longest b)) ≡ says (Err y) → ComparedAs longest a b (Err x)
refused_as a b x y e f = record { refusal = ap (λ z. says (Err z)) e ∙ sym f; answer = tt }

pub of-requires : goal.of-requires
of-requires c =
    let s = c.args in (
      accepted_set_allowed longest s.first.now c.read_set.result c.read_set.ensures _ (first_read (goal.at.of-requires c).In_ok-first),
      accepted_set_allowed longest s.second.now c.read_set-2.result c.read_set-2.ensures _ (second_read (goal.at.of-requires c).In_ok-second),
    )

pub returns : goal.returns
returns c =
    let s = c.args in
    let a = s.first.now in
    let b = s.second.now in
    let e = first_read (goal.at.returns c).In_ok-first in
    let f = second_read (goal.at.returns c).In_ok-second in
    let x = c.search.result in
    record {
      refusal = sym (ap₂ in_turn (accepted_rows longest a c.read_set.result c.read_set.ensures _ e) (accepted_rows longest b c.read_set-2.result c.read_set-2.ensures _ f));
      answer = subst (λ z. Compares z (set_of b) x) (c.of.ensures.0 ∙ accepted_set longest a c.read_set.result c.read_set.ensures _ e)
          (subst (λ z. Compares c.of.result.first z x) (c.of.ensures.1 ∙ accepted_set longest b c.read_set-2.result c.read_set-2.ensures _ f) c.search.ensures);
    }

pub returns-in_err-first : goal.returns-in_err-first
returns-in_err-first c =
    let s = c.args in
    let (e, f, g) = read_err c.read_set.result c.in_err-first.field-0.0 First c.in_err-first.ensures.cases in
    let p = err_from_is_err_and c.from_residual.result c.from_residual.ensures.1 in
    rw (p.1, p.2) (refused_as s.first.now s.second.now _ (First e) g
    (ap (λ z. in_turn z (first (set_rows longest s.second.now))) (refused_rows longest s.first.now c.read_set.result c.read_set.ensures e f)))

pub returns-in_err-second : goal.returns-in_err-second
returns-in_err-second c =
    let s = c.args in
    let (e, f, g) = read_err c.read_set-2.result c.in_err-second.field-0.0 Second c.in_err-second.ensures.cases in
    let p = err_from_is_err_and c.from_residual-in_err-second.result c.from_residual-in_err-second.ensures.1 in
    rw (p.1, p.2) (refused_as s.first.now s.second.now _ (Second e) g
    (ap₂ in_turn (accepted_rows longest s.first.now c.read_set.result c.read_set.ensures _ (first_read (goal.at.returns-in_err-second c).In_ok-first))
    (refused_rows longest s.second.now c.read_set-2.result c.read_set-2.ensures e f)))
