-- The last job of the longest pattern is a number of an i64, and the job after it isn't. Assumes nothing.
use Prim.Native.Nat.{suc}
use native.Mathlib.Omega.{arith}
use lib.Dec.{lit<}
use lib.IntN.{pos}
use mir.Syntax.{w64}
use mir.Val.{SFits}
use Rattle.verdict.specs.Judge.{most_jobs}

-- why 26 begins where it does
pub last_job_fits : SFits w64 (pos most_jobs)
last_job_fits = record { sfits = lit< tt }

pub next_job_does_not : SFits w64 (pos (suc most_jobs)) → ⊥
next_job_does_not f = omega (arith, f.sfits)
