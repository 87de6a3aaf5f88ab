-- What one more outcome does to a history. RULES, Lost: "among those that don't keep this beginning, the one with the lowest number": a hit keeps, and a miss is blocked by limit n first or by none.
use Rattle.std.specs.Prelude.{◌≡◌, Bool, true, false, List, ℕ, ◌+◌, ◌-◌, ◌^◌, ◌<◌, length, get_or, take, pos, ◌-ℤ◌, Result, Ok, Err}
use Rattle.meaning.specs.declared.LimitSet.{LimitSet}
use Rattle.meaning.specs.Longest.{longest}
use Rattle.meaning.specs.Sets.{KeptBy, rule_at}
use Rattle.history.specs.History.{history_of, pushed}
use Rattle.history.specs.MayMiss.{Blocks}
use Rattle.history.specs.Reaches.{Reaches}
use Rattle.verdict.specs.declared.Loss.{Loss}

-- the history that is left, or the limit that blocks
abbrev pub Turned : LimitSet → (h : ℕ) → Bool → Result ℕ ℕ → Type 0
Turned s h true (Ok h') = h' ≡ pushed (longest - 1) h true
Turned s h true (Err n) = ⊥
Turned s h false (Ok h') = Blocks s h s.count × (h' ≡ pushed (longest - 1) h false)
Turned s h false (Err n) = Blocks s h n × (n < s.count)

-- what is said where limit n blocks the miss of job i + 1: that job, the limit, and the first job of the earliest window that the miss breaks, `back` jobs before it
abbrev pub SaysLost : LimitSet → (h i n : ℕ) → Loss → Type 0
SaysLost s h i n r = (back : ℕ) × Reaches (rule_at s n) h back × (r ≡ record { job = i + 1; limit = n; first = pos (i + 1) -ℤ pos back })

-- where a judge stands in a pattern: the first i outcomes are kept, and h is their history
pub record Stands (s : LimitSet) (p : List Bool) (i h : ℕ) : Type 0 where
  pub kept : KeptBy s (take i p)
  pub history : h ≡ history_of (longest - 1) (take i p)
  pub within : h < 2 ^ (longest - 1)

-- what is given for each place of a pattern is the outcome there
abbrev pub Gives : (ℕ → Bool → Type 0) → List Bool → Type 0
Gives given p = (i : ℕ) (hit : Bool) → i < length p → given i hit → get_or p i false ≡ hit
