-- Any two results that a contract allows are equal: an answer is known from what it says, and from the count or the moves that a contract allows beside it. Assumes nothing.
use mathlib.Core.Path.{◌≡◌, sym, subst, ◌∙◌}
use mathlib.Core.List.{List}
use Prim.Native.Nat.{ℕ}
use Rattle.std.specs.Prelude.{Result}
use Rattle.layout.specs.declared.Refused.{Refused}
use Rattle.layout.proofs.Refusals.{same_answer}
use Rattle.table.specs.declared.Moves.{Moves}
use Rattle.table.specs.Check.{Counts, CheckedAs, Shows, LookedAs}

pub checked_one_result : (b : List ℕ) (r r' : Result ℕ Refused) → CheckedAs b r → CheckedAs b r' → r ≡ r'
checked_one_result b r r' p q =
    same_answer r r' (p.refusal ∙ sym q.refusal) (λ n m e f. subst (Counts b) e p.states ∙ sym (subst (Counts b) f q.states))

pub looked_one_result : (b : List ℕ) (s : ℕ) (r r' : Result Moves Refused) → LookedAs b s r → LookedAs b s r' → r ≡ r'
looked_one_result b s r r' p q =
    same_answer r r' (p.refusal ∙ sym q.refusal) (λ m n e f. subst (Shows b s) e p.moves ∙ sym (subst (Shows b s) f q.moves))
