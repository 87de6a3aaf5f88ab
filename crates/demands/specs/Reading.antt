-- RULES, The reader of a log: "hands out one outcome a call, the oldest first", in the flat fields `answer` and `place` of a call on an accepted log that holds the outcomes p: 0 and 1 are the outcome at the place, 2 is the end, and the place goes on with an outcome alone.
use Rattle.std.specs.Prelude.{◌≡◌, ◌↔◌, Bool, true, false, List, ℕ, ◌+◌, ◌≤◌, ◌<◌, length}
use Rattle.night_log.specs.Bytes.{outcome_at}

pub record ByOutcomes (p : List Bool) (place answer next : ℕ) : Type 0 where
  pub miss : (answer ≡ 0) ↔ ((place < length p) × (outcome_at p place ≡ false))
  pub hit : (answer ≡ 1) ↔ ((place < length p) × (outcome_at p place ≡ true))
  pub end : (answer ≡ 2) ↔ (length p ≤ place)
  pub goes_on : place < length p → next ≡ place + 1
  pub stays : length p ≤ place → next ≡ place
