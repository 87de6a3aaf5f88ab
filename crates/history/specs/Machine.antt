-- The history machine of a set: its states are the histories of m outcomes, all hits at the start.
use Rattle.std.proofs.Math.Option.{Option, none, some}
use Rattle.std.specs.Prelude.{Bool, true, false, cond, ℕ, ◌-◌, ◌^◌}
use Rattle.machines.specs.Machine.{Machine}
use Rattle.meaning.specs.declared.LimitSet.{LimitSet}
use Rattle.history.specs.History.{pushed}
use Rattle.history.specs.MayMiss.{may_miss}

-- a hit is always possible, a miss where it may follow
abbrev pub history_next : LimitSet → ℕ → ℕ → Bool → Option ℕ
history_next s m h true = some (pushed m h true)
history_next s m h false = cond (may_miss s h) (some (pushed m h false)) none

abbrev pub history_machine : LimitSet → ℕ → Machine
history_machine s m = record { states = 2 ^ m; start = 2 ^ m - 1; next = history_next s m }
