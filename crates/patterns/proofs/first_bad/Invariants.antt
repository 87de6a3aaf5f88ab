-- `patterns::first_bad`: what the test says of all bytes it says of those from i on. Assumes nothing.
use mathlib.Core.Path.{◌≡◌}
use lib.ListN.{drop}
use Rattle.layout.specs.Refusal.{first}
use Rattle.patterns.specs.Outcome.{outcome_rows}
use Rattle.patterns.proofs.first_bad.Given as goal

abbrev pub invariant-loop-i : goal.invariant-loop-i
invariant-loop-i l = first (outcome_rows l.pattern 0) ≡ first (outcome_rows (drop l.i l.pattern) l.i)
