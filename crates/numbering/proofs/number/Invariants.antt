-- `numbering::number`: before row i the entries at earlier places are read, and after the last row all are. Assumes nothing.
use mathlib.Core.Bool.{false}
use Prim.Native.Nat.{◌-◌, ◌≤◌}
use Rattle.machines.specs.Numbering.{place}
use Rattle.numbering.specs.Work.{Kept}
use Rattle.numbering.specs.Rows.{Numbering}
use Rattle.numbering.specs.Stores.{Stores}
use Rattle.numbering.proofs.number.Given as goal

abbrev pub invariant-loop-i : goal.invariant-loop-i
invariant-loop-i l =
    (l.i ≤ l.numbers.count) × Stores (λ n w w' count r. Numbering n w' r (place l.i false) × Kept n w w') l.initial.numbers l.numbers

abbrev pub decreases-loop-i : goal.decreases-loop-i
decreases-loop-i l = l.numbers.n - l.i
