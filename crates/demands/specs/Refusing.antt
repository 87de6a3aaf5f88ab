-- RULES, Refusals: "A number is given in the case of its row and in no other." What demand 1 says of one answer: it is refused by a number exactly when that row of the entry's table is the first that holds, and the number is one of the entry's. The same of the flat fields `refused` and `at`.
use Rattle.std.specs.Prelude.{◌≡◌, ◌↔◌, ℕ, ◌≤◌, Option, Result, Err}
use Rattle.layout.specs.declared.Refused.{Refused}
use Rattle.layout.specs.Refusal.{Tested, passed, refused}
use Rattle.layout.specs.Refused.{row_of}
use Rattle.compare.specs.declared.Pattern.{Pattern}
use Rattle.compare.specs.declared.RefusedSet.{RefusedSet}
use Rattle.compare.specs.Compare.{one_refused, says}

-- r is a refusal, whose number is n with v beside it
abbrev pub RefusedBy : {A : Type 0} → Result A Refused → (n v : ℕ) → Type 0
RefusedBy r n v = (why : Refused) × (r ≡ Err why) × (row_of why ≡ refused n v)

-- r is the refusal of a comparison's first or second set, `which`
abbrev pub SetRefusedBy : Result (Option Pattern) RefusedSet → (which n v : ℕ) → Type 0
SetRefusedBy r which n v = (why : RefusedSet) × (r ≡ Err why) × (says (Err why) ≡ one_refused which n v)

-- r is an answer, `Number` the numbers of the entry, and t what the entry's tests say
pub record Refuses {A : Type 0} (Number : ℕ → Type 0) (t : Tested) (r : Result A Refused) : Type 0 where
  pub exactly : (n v : ℕ) → RefusedBy r n v ↔ (t ≡ refused n v)
  pub numbers : (n v : ℕ) → RefusedBy r n v → Number n

-- number is 0 where nothing is refused, and at is then 0 too
pub record RefusesFlat (Number : ℕ → Type 0) (t : Tested) (number at : ℕ) : Type 0 where
  pub accepts : (number ≡ 0) ↔ (t ≡ passed)
  pub nothing_beside : number ≡ 0 → at ≡ 0
  pub exactly : (n v : ℕ) → 1 ≤ n → ((number ≡ n) × (at ≡ v)) ↔ (t ≡ refused n v)
  pub numbers : (number ≡ 0 → ⊥) → Number number
