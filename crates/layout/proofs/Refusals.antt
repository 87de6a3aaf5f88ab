-- A refusal is known from its number and the value beside it, and an answer from what it says and its value. Assumes nothing.
use mathlib.Core.Path.{◌≡◌, refl, sym, ap, ap₂, ◌∙◌}
use Prim.Native.Nat.{ℕ}
use Rattle.std.specs.Prelude.{[], ◌∷◌, get_or, Result, Ok, Err}
use Rattle.layout.specs.declared.Refused.{Refused}
use Rattle.layout.specs.declared.Refused.TheVariants.{SetLength, SetVersion, LimitCount, LimitsLength, LimitKind, LimitK, LimitX, WorkLength, Room, TableLength, TableVersion, States, Outcome, Job, Log, UnusedBits, Count, Record, LostByte, OldRecord, LimitsNothing, Walk, PatternLength}
use Rattle.layout.specs.Refused.{number_of, beside, row_of, says}
use Rattle.layout.proofs.Rows.{passed_not_refused}

-- the refusals by their numbers, with the value beside
abbrev refusal : (number at : ℕ) → Refused
refusal number at = get_or (SetLength ∷ SetLength ∷ SetVersion ∷ LimitCount ∷ LimitsLength ∷ LimitKind at ∷ LimitK at ∷ LimitX at ∷ WorkLength ∷ Room at ∷ TableLength ∷ TableVersion ∷ States ∷ Outcome at ∷ Job ∷ Log ∷ UnusedBits ∷ Count ∷ Record ∷ LostByte ∷ OldRecord ∷ LimitsNothing ∷ Walk ∷ Walk ∷ Walk ∷ Walk ∷ []) number PatternLength

of_its_number : (r : Refused) → refusal (number_of r) (beside r) ≡ r
of_its_number SetLength = refl
of_its_number SetVersion = refl
of_its_number LimitCount = refl
of_its_number LimitsLength = refl
of_its_number (LimitKind at) = refl
of_its_number (LimitK at) = refl
of_its_number (LimitX at) = refl
of_its_number WorkLength = refl
of_its_number (Room at) = refl
of_its_number TableLength = refl
of_its_number TableVersion = refl
of_its_number States = refl
of_its_number (Outcome at) = refl
of_its_number Job = refl
of_its_number Log = refl
of_its_number UnusedBits = refl
of_its_number Count = refl
of_its_number Record = refl
of_its_number LostByte = refl
of_its_number OldRecord = refl
of_its_number LimitsNothing = refl
of_its_number Walk = refl
of_its_number PatternLength = refl

pub same_refusal : (r r' : Refused) → row_of r ≡ row_of r' → r ≡ r'
same_refusal r r' e =
    let n : number_of r ≡ number_of r' = cc in
    let v : beside r ≡ beside r' = cc in
    sym (of_its_number r) ∙ ap₂ refusal n v ∙ of_its_number r'

-- two answers are the same where they say the same and where their values, if they have some, are the same
pub same_answer : {A : Type 0} (r r' : Result A Refused) → says r ≡ says r' → ((x y : A) → r ≡ Ok x → r' ≡ Ok y → x ≡ y) → r ≡ r'
same_answer (Ok x) (Ok y) e v = ap Ok (v x y refl refl)
same_answer (Ok x) (Err r) e v = absurd (passed_not_refused e)
same_answer (Err r) (Ok y) e v = absurd (passed_not_refused (sym e))
same_answer (Err r) (Err r') e v = ap Err (same_refusal r r' e)
