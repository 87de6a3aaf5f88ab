-- RULES, What each entry tests, table check: "10, 11, 12: n and the length field, then the entries of all states", and else "n". And what looking at one state gives.
use Rattle.std.specs.Prelude.{◌≡◌, Bool, true, false, cond, List, ℕ, eqb, Some, None, Result, Ok, Err}
use Rattle.std.specs.Prelude.{Option as Given}
use Rattle.std.proofs.Math.Option.{Option, none, some}
use Rattle.layout.specs.Refusal.{first}
use Rattle.layout.specs.declared.Refused.{Refused}
use Rattle.layout.specs.Refused.{says}
use Rattle.table.specs.declared.Moves.{Moves}
use Rattle.table.specs.Bytes.{state_count, miss_entry, hit_entry, no_miss}
use Rattle.table.specs.Rows.{table_rows, look_rows}

-- what an answer that isn't a refusal says of the table: how many states it has
abbrev pub Counts : List ℕ → Result ℕ Refused → Type 0
Counts b (Ok n) = n ≡ state_count b
Counts b (Err r) = Unit {0}

pub record CheckedAs (b : List ℕ) (r : Result ℕ Refused) : Type 0 where
  pub refusal : says r ≡ first (table_rows b)
  pub states : Counts b r

-- the moves that an entry says, and those of state s
abbrev pub miss_by : ℕ → Given ℕ
miss_by miss = cond (eqb miss no_miss) None (Some miss)

abbrev pub moves_by : (miss hit : ℕ) → Moves
moves_by miss hit = record { miss = miss_by miss; hit = hit }

abbrev pub moves_of : List ℕ → ℕ → Moves
moves_of b s = moves_by (miss_entry b s) (hit_entry b s)

-- where an outcome leads by those moves: nowhere on a miss that isn't allowed
abbrev pub reached : Given ℕ → Option ℕ
reached None = none
reached (Some t) = some t

abbrev pub move_by : Moves → Bool → Option ℕ
move_by m true = some m.hit
move_by m false = reached m.miss

-- what an answer that isn't a refusal says of state s: its moves
abbrev pub Shows : List ℕ → ℕ → Result Moves Refused → Type 0
Shows b s (Ok m) = m ≡ moves_of b s
Shows b s (Err r) = Unit {0}

pub record LookedAs (b : List ℕ) (s : ℕ) (r : Result Moves Refused) : Type 0 where
  pub refusal : says r ≡ first (look_rows b s)
  pub moves : Shows b s r
