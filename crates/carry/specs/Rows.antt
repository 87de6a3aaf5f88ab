-- RULES, Refusals, 18, 19, 20 and 25; What each entry tests, reading a record back: "18; then as reading a set, of the set's bytes in it; then 20; then 13 over its outcomes; then 19; then as the table check, the whole table; then 25"; and writing one: "as reading a set, of the set's bytes; then 9 with 29 and the bytes of the set".
use Rattle.std.proofs.Math.Option.{Option, none, some}
use Rattle.std.specs.Prelude.{Bool, true, false, not, List, [], ◌∷◌, ◌++◌, ℕ, suc, leb, ltb}
use Rattle.layout.specs.Refusal.{Row, row}
use Rattle.layout.specs.Head.{head_rows}
use Rattle.layout.specs.Write.{room_row}
use Rattle.patterns.specs.Outcome.{outcome_rows}
use Rattle.machines.specs.Machine.{walk}
use Rattle.meaning.specs.declared.LimitSet.{LimitSet}
use Rattle.meaning.specs.Limit.{width}
use Rattle.meaning.specs.Sets.{rule_at}
use Rattle.meaning.specs.Test.{every}
use Rattle.sets.specs.Bytes.{set_of}
use Rattle.sets.specs.Rows.{set_rows}
use Rattle.table.specs.Bytes.{machine_of}
use Rattle.table.specs.Rows.{table_rows}
use Rattle.carry.specs.Bytes.{version_for, many_in, around_set, size_of, set_in, outcome_bytes, outcomes_in, lost_byte}

abbrev pub write_rows : (widest h : ℕ) → (set out : List ℕ) → List Row
write_rows widest h set out = set_rows widest set ++ room_row out (size_of h set) ∷ []

-- some limit of the set has a window of more than so many jobs
abbrev pub wider : ℕ → LimitSet → Bool
wider most s = not (every s.count (λ i. leb (width (rule_at s i)) most))

-- the rows that look at the record alone, of a version with h outcomes. 20: "a record of version 1 has a set with a window of more than 12 jobs": its outcomes and one job more don't fill that window. (A set that the rows before take has no window that the new version's outcomes don't fill.)
abbrev pub version_rows : (widest v h : ℕ) → List ℕ → List Row
version_rows widest v h r =
    head_rows (around_set h) v 18 18 r
    ++ (set_rows widest (set_in h r)
    ++ (row 20 (wider (suc h) (set_of (set_in h r))) 0
    ∷ (outcome_rows (outcome_bytes h r) 0
    ++ (row 19 (ltb 1 (lost_byte r)) 0 ∷ []))))

-- by the version that the record says, where a guard holds n outcomes
abbrev pub record_rows : (widest n : ℕ) → List ℕ → List Row
record_rows widest n r = version_rows widest (version_for r) (many_in n r) r

-- where the outcomes of a record lead from state 0, if they can be walked
abbrev pub led_to : (n h : ℕ) → (r table : List ℕ) → Option ℕ
led_to n h r b = walk (machine_of b) 0 (outcomes_in n h r)

abbrev pub leads_nowhere : Option ℕ → Bool
leads_nowhere none = true
leads_nowhere (some s) = false

abbrev pub read_rows : (widest n v h : ℕ) → (r table : List ℕ) → List Row
read_rows widest n v h r b = version_rows widest v h r ++ (table_rows b ++ row 25 (leads_nowhere (led_to n h r b)) 0 ∷ [])
