-- `Entries::test`: the rows of all entries are those from the current state on. Assumes nothing.
use mathlib.Core.Path.{◌≡◌}
use Prim.Native.Nat.{◌-◌}
use Rattle.layout.specs.Refusal.{first}
use Rattle.table.specs.Rows.{entries_rows}
use Rattle.table.proofs.Entries.test.Given as goal

abbrev pub invariant-loop-state : goal.invariant-loop-state
invariant-loop-state l = first (entries_rows l.self.bytes.now 0 l.self.states) ≡ first (entries_rows l.self.bytes.now l.state (l.self.states - l.state))
