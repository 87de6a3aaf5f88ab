-- RULES, Outcomes and patterns: "A job has one outcome, a byte: 1, a hit, if it met its deadline, and 0, a miss, if it didn't. A pattern is any finite number of outcomes in the order in which they happened: the oldest comes first and the newest last."
-- A hit is true and a miss is false.
use Rattle.std.specs.Prelude.{Bool, true, false, not, List, [], ◌∷◌, map, ℕ, suc, ◌≤◌, ◌<◌, eqb, ltb, length, get_or}
use Rattle.layout.specs.Refusal.{Row, row}

-- the outcome that a byte says
abbrev pub outcome : ℕ → Bool
outcome byte = not (eqb byte 0)

abbrev pub outcomes : List ℕ → List Bool
outcomes bytes = map outcome bytes

-- the byte of an outcome
abbrev pub bit : Bool → ℕ
bit true = 1
bit false = 0

-- RULES, Refusals, 13: "an outcome is more than 1", with "its number among the outcomes, from 0": the bytes from place i on
unfoldable pub outcome_rows : List ℕ → ℕ → List Row
outcome_rows [] i = []
outcome_rows (byte ∷ bytes) i = row 13 (ltb 1 byte) i ∷ outcome_rows bytes (suc i)

-- the bytes that 13 lets pass
abbrev pub AllOutcomes : List ℕ → Type 0
AllOutcomes b = (i : ℕ) → i < length b → get_or b i 0 ≤ 1
