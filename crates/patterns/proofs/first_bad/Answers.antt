-- `patterns::first_bad` meets its contract: a good byte hands on to the next, a bad one decides, and so does the end. Assumes nothing.
use mathlib.Core.Path.{◌∙◌}
use native.Mathlib.Omega.{arith}
use Rattle.patterns.proofs.Outcomes.{outcome_good, outcome_bad, outcome_end}
use Rattle.patterns.proofs.first_bad.Goals as goal

pub returns-then-byte-gt1-clause-tested : goal.returns-then-byte-gt1-clause-tested
returns-then-byte-gt1-clause-tested c = let l = c.loop-i in l.invariant ∙ outcome_bad c.args.pattern.now l.i (omega arith) c.if-byte-gt1.true

pub loop-i-preserved : goal.loop-i-preserved
loop-i-preserved c = let l = c.loop-i in l.invariant ∙ outcome_good c.args.pattern.now l.i (omega arith) (omega arith)

pub returns-clause-tested : goal.returns-clause-tested
returns-clause-tested c = let l = c.loop-i in l.invariant ∙ outcome_end c.args.pattern.now l.i (omega arith)
