-- `verdict::judge_each` meets its contract: the invariant is that the outcomes so far stand. Assumes nothing.
use mathlib.Core.Path.{◌≡◌}
use mathlib.Core.Bool.{Bool}
use mathlib.Core.List.{List}
use Prim.Native.Nat.{◌-◌, ◌^◌, ◌<◌}
use lib.ListN.{length}
use Rattle.meaning.specs.Longest.{longest}
use Rattle.verdict.specs.Turn.{Stands, Gives}
use Rattle.verdict.proofs.judge_each.Given as goal

abbrev pub invariant-loop-i : goal.invariant-loop-i
invariant-loop-i g l = record {
  within : l.history < 2 ^ (longest - 1);
  stands : (p : List Bool) → length p ≡ l.count → Gives (goal.F-post g l.outcome) p → Stands l.set p l.i l.history;
}
