-- RULES, Outcomes and patterns: "the newest outcome is its lowest bit. With each new outcome the bits move up by one, the outcome becomes the lowest bit, and a mask drops what is older than the history is long."
-- The history length m is a variable everywhere.
use Rattle.std.specs.Prelude.{Bool, List, [], ◌∷◌, ℕ, zero, suc, ◌+◌, ◌*◌, ◌/◌, ◌%◌, ◌^◌, eqb}
use Rattle.std.specs.Int.Bits.{bit_and}
use Rattle.patterns.specs.Outcome.{bit}
use Rattle.patterns.specs.Number.{number}
use Rattle.meaning.specs.Window.{recent}

-- the history after a pattern: its last m outcomes, hits where it has fewer
unfoldable pub history_of : ℕ → List Bool → ℕ
history_of m p = number (recent p m)

-- the history after one more outcome: shifted left, the new outcome in the low bit, masked
unfoldable pub shifted : (mask h : ℕ) → Bool → ℕ
shifted mask h o = bit_and (h * 2 + bit o) mask

-- the same where the last m outcomes are kept: what a mask of m ones leaves
abbrev pub pushed : ℕ → ℕ → Bool → ℕ
pushed m h o = (h * 2 + bit o) % 2 ^ m

-- the newest n outcomes of a history, newest first
unfoldable pub newest : ℕ → ℕ → List Bool
newest zero h = []
newest (suc n) h = eqb (h % 2) 1 ∷ newest n (h / 2)
