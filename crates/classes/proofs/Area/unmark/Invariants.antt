-- `classes::Area::unmark`: the entries below h are what the limit leaves of them, and those from h on are as they were. Assumes nothing.
use mathlib.Core.Path.{◌≡◌}
use Prim.Native.Nat.{ℕ, ◌≤◌, ◌<◌}
use lib.ListN.{get_or}
use Rattle.classes.specs.Stage.{left_in}
use Rattle.classes.proofs.Area.unmark.Given as goal

abbrev pub invariant-loop-h : goal.invariant-loop-h
invariant-loop-h l =
    ((g : ℕ) → g < l.h → get_or l.entry-items g 0 ≡ left_in l.limit l.fn.self.work.now g) × ((g : ℕ) → g < l.fn.self.n → l.h ≤ g → get_or l.entry-items g 0 ≡ get_or l.fn.self.work.now g 0)
