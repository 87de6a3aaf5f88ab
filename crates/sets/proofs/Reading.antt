-- What those who read a set learn from each answer: a refusal is the first row that holds, an accepted set is the bytes' set and has allowed numbers. Assumes nothing.
use mathlib.Core.Path.{◌≡◌, sym, ap, ◌∙◌, subst}
use mathlib.Core.List.{List}
use Prim.Native.Nat.{ℕ}
use Rattle.std.specs.Prelude.{Result, Ok, Err}
use Rattle.layout.specs.declared.Refused.{Refused}
use Rattle.layout.specs.Refusal.{passed, first}
use Rattle.layout.specs.Refused.{row_of, says}
use Rattle.meaning.specs.declared.LimitSet.{LimitSet}
use Rattle.meaning.specs.Sets.{SetAllowed}
use Rattle.sets.specs.Bytes.{set_of}
use Rattle.sets.specs.Rows.{set_rows}
use Rattle.sets.specs.Read.{set_in, set_when, ReadAs}
use Rattle.sets.proofs.Accepted.{accepted_allowed}

module _ (w : ℕ) (b : List ℕ) (r : Result LimitSet Refused) (read : ReadAs w b r) where
  pub refused_rows : (e : Refused) → r ≡ Err e → first (set_rows w b) ≡ row_of e
  refused_rows e q = sym read.answer ∙ ap says q

  pub accepted_rows : (s : LimitSet) → r ≡ Ok s → first (set_rows w b) ≡ passed
  accepted_rows s q = sym read.answer ∙ ap says q

  pub accepted_set : (s : LimitSet) → r ≡ Ok s → s ≡ set_of b
  accepted_set s q = sym (ap set_in q) ∙ read.set ∙ ap (λ z. set_when z b) (accepted_rows s q)

  pub accepted_set_allowed : (s : LimitSet) → r ≡ Ok s → SetAllowed w s
  accepted_set_allowed s q = subst (λ z. SetAllowed w z) (sym (accepted_set s q)) (accepted_allowed w b (accepted_rows s q))
