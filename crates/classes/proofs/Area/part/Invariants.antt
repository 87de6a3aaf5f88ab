-- `classes::Area::part`: the entries below h are parted, and those from h on are as they were. Assumes nothing.
use mathlib.Core.Path.{◌≡◌}
use Prim.Native.Nat.{ℕ, ◌≤◌, ◌<◌}
use lib.ListN.{get_or}
use Rattle.classes.specs.Stage.{parted_of}
use Rattle.classes.proofs.Area.part.Given as goal

abbrev pub invariant-loop-entry : goal.invariant-loop-entry
invariant-loop-entry l =
    ((g : ℕ) → g < l.entry-index → get_or l.entry-items g 0 ≡ parted_of l.first (get_or l.fn.self.work.now g 0) l.other) × ((g : ℕ) → g < l.fn.self.n → l.entry-index ≤ g → get_or l.entry-items g 0 ≡ get_or l.fn.self.work.now g 0)
