-- How many outcomes bytes hold, and which: the outcomes read one by one are those at their places. Assumes nothing.
use mathlib.Core.Path.{◌≡◌, refl, sym, ap, ◌∙◌}
use mathlib.Core.List.{List}
use Prim.Native.Nat.{ℕ, zero, suc, ◌+◌, ◌<◌}
use native.Mathlib.Nat.{zero-add, add-zero}
use native.Mathlib.Omega.{arith}
use lib.ListN.{length}
use Rattle.night_log.specs.Bytes.{outcome_at, count_of, outcome_in, outcomes_in, outcomes_of}

module _ (b : List ℕ) where
  in_length : (i n : ℕ) → length (outcomes_in b i n) ≡ n
  unfolding outcomes_in
  in_length i zero = refl
  in_length i (suc n) = ap suc (in_length (suc i) n)

  in_at : (i n k : ℕ) → k < n → outcome_at (outcomes_in b i n) k ≡ outcome_in b (i + k)
  unfolding outcomes_in
  in_at i zero k h = absurd (omega arith)
  in_at i (suc n) zero h = ap (outcome_in b) (sym (add-zero i))
  in_at i (suc n) (suc k) h = let e : suc i + k ≡ i + suc k = omega arith in in_at (suc i) n k (omega arith) ∙ ap (outcome_in b) e

  pub outcomes_length : length (outcomes_of b) ≡ count_of b
  outcomes_length = in_length 0 (count_of b)

  pub outcomes_at : (i : ℕ) → i < count_of b → outcome_at (outcomes_of b) i ≡ outcome_in b i
  outcomes_at i h = in_at 0 (count_of b) i h ∙ ap (outcome_in b) (zero-add i)
