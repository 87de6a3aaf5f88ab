-- The test for 13, place by place: a byte that is 0 or 1 hands on to the next, any other is the answer; and one place is told by what it says of a pattern. An outcome and its byte, each from the other. Assumes nothing.
use mathlib.Core.Path.{◌≡◌, refl, sym, ap, ap₂, ◌∙◌}
use mathlib.Core.Logic.{◌↔◌}
use mathlib.Core.Bool.{Bool, true, false}
use mathlib.Core.List.{List, [], ◌∷◌, map}
use Prim.Native.Nat.{ℕ, zero, suc, ◌+◌, ◌≤◌, ◌<◌}
use native.Mathlib.Numerals.{add-one}
use native.Mathlib.Omega.{arith}
use mir.Val.{bool_byte}
use borrow.Author.Tests.{lt-ltb, le-ltb, ltb-false}
use lib.Dec.{ltb}
use lib.ListN.{length, get_or, drop, drop_of_length-le}
use lib.Seq.{drop-cons}
use Rattle.layout.specs.Refusal.{row, passed, refused, first}
use Rattle.layout.proofs.Rows.{first_here, first_skip, passed_first, passed_not_refused}
use Rattle.std.specs.Prelude.{Option, Some, None}
use Rattle.patterns.specs.Outcome.{outcome, outcomes, bit, AllOutcomes, outcome_rows}
use Rattle.patterns.specs.Tested.{bad_place}
use Rattle.patterns.proofs.Numbers.{bit_le}

module _ (b : List ℕ) (i : ℕ) where
  pub outcome_good : i < length b → get_or b i 0 ≤ 1 → first (outcome_rows (drop i b) i) ≡ first (outcome_rows (drop (i + 1) b) (i + 1))
  unfolding outcome_rows
  outcome_good h g =
      ap (λ z. first (outcome_rows z i)) (drop-cons b i 0 h)
      ∙ first_skip 13 i (ltb 1 (get_or b i 0)) _ (le-ltb 1 (get_or b i 0) g)
      ∙ ap (λ z. first (outcome_rows (drop z b) z)) (sym (add-one i))

  pub outcome_bad : i < length b → 1 < get_or b i 0 → first (outcome_rows (drop i b) i) ≡ refused 13 i
  unfolding outcome_rows
  outcome_bad h g =
      ap (λ z. first (outcome_rows z i)) (drop-cons b i 0 h)
      ∙ first_here 13 i (ltb 1 (get_or b i 0)) _ (lt-ltb 1 (get_or b i 0) g)

  pub outcome_end : length b ≤ i → first (outcome_rows (drop i b) i) ≡ passed
  unfolding outcome_rows first
  outcome_end h = ap (λ z. first (outcome_rows z i)) (drop_of_length-le b {i = i} h)

-- nothing is refused exactly where every byte is 0 or 1
pub outcomes_passed : (b : List ℕ) (k : ℕ) → (first (outcome_rows b k) ≡ passed) ↔ AllOutcomes b
unfolding outcome_rows first
outcomes_passed [] k = (λ e i h. absurd (omega arith), λ h. refl)
outcomes_passed (x ∷ b) k = (
  λ e. let (good, rest) = passed_first (row 13 (ltb 1 x) k) (outcome_rows b (suc k)) e in each good ((outcomes_passed b (suc k)).0 rest),
  λ h. first_skip 13 k (ltb 1 x) (outcome_rows b (suc k)) (le-ltb 1 x (h 0 (omega arith))) ∙ (outcomes_passed b (suc k)).1 (λ i l. h (suc i) (omega arith)),
)
  where
    each : ltb 1 x ≡ false → AllOutcomes b → AllOutcomes (x ∷ b)
    each good rest zero l = ltb-false 1 x good
    each good rest (suc i) l = rest i (omega arith)

-- a truth value as the code makes a byte of it
pub cast_bit : (o : Bool) → bool_byte o ≡ bit o
cast_bit true = refl
cast_bit false = refl

-- the outcome of an outcome's byte, and the byte of a byte's outcome
pub outcome_bit : (o : Bool) → outcome (bit o) ≡ o
outcome_bit true = refl
outcome_bit false = refl

pub bit_outcome : (x : ℕ) → x ≤ 1 → bit (outcome x) ≡ x
bit_outcome zero h = refl
bit_outcome (suc zero) h = refl
bit_outcome (suc (suc x)) h = absurd (omega arith)

-- the same of a pattern and its bytes, which 13 lets pass
pub outcomes_bits : (p : List Bool) → outcomes (map bit p) ≡ p
outcomes_bits [] = refl
outcomes_bits (o ∷ p) = ap₂ (λ a l. a ∷ l) (outcome_bit o) (outcomes_bits p)

pub bits_outcomes : (b : List ℕ) → AllOutcomes b → map bit (outcomes b) ≡ b
bits_outcomes [] h = refl
bits_outcomes (x ∷ b) h = ap₂ (λ a l. a ∷ l) (bit_outcome x (h 0 (omega arith))) (bits_outcomes b (λ i l. h (suc i) (omega arith)))

pub bits_passed : (p : List Bool) (i : ℕ) → first (outcome_rows (map bit p) i) ≡ passed
unfolding outcome_rows first
bits_passed [] i = refl
bits_passed (o ∷ p) i = first_skip 13 i _ (outcome_rows (map bit p) (suc i)) (le-ltb 1 (bit o) (bit_le o)) ∙ bits_passed p (suc i)

-- two answers that say the same of a pattern are one
pub bad_place_one_result : (r t : Option ℕ) → bad_place r ≡ bad_place t → r ≡ t
bad_place_one_result None None e = refl
bad_place_one_result None (Some i) e = absurd (passed_not_refused e)
bad_place_one_result (Some i) None e = absurd (passed_not_refused (sym e))
bad_place_one_result (Some i) (Some j) e = cc
