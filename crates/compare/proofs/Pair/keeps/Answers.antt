-- `compare::Pair::keeps`: what is left of the history is kept exactly when all of it is. Assumes nothing.
use mathlib.Core.Path.{refl, sym, ◌∙◌}
use mathlib.Core.Logic.Iff
use mathlib.Core.Bool.{false≢true}
use native.Mathlib.Omega.{arith}
use Rattle.compare.proofs.Back.{WalkedBack, walked_back, all_hits_kept}
use Rattle.compare.proofs.Pair.keeps.Goals.{In-loop-rest, else-rest-eq0-via-then-rest-eq0+else-not-allows_miss, else-rest-eq0-via-else-rest-eq0}
use Rattle.compare.proofs.Pair.keeps.Goals as goal

-- one step back, where what is left isn't hits alone
back : (c : In-loop-rest) → WalkedBack c.args.self.now.first c.args.self.now.m c.count_of-all.result c.loop-rest.rest
back c =
    let p = c.args.self.now in
    walked_back p.first p.m p.enough_for_first c.count_of-all.result c.loop-rest.rest c.count_of-all.ensures.power c.loop-rest.invariant.0
    (λ e. c.loop-rest-test.true (omega arith))

pub returns-then-not-allows_miss : goal.returns-then-not-allows_miss
returns-then-not-allows_miss c = (
  λ e. absurd (false≢true e),
  λ k. absurd ((back (goal.at.returns-then-not-allows_miss c).In-loop-rest).blocked c.if-rest-eq0.true (sym c.allows_miss.ensures ∙ c.if-not-allows_miss.true) (c.loop-rest.invariant.1.0 k)),
)

pub loop-rest-smaller : goal.loop-rest-smaller
loop-rest-smaller c = omega (arith, (back (goal.at.loop-rest-smaller c).In-loop-rest).more, (back (goal.at.loop-rest-smaller c).In-loop-rest).within)

pub loop-rest-preserved : goal.loop-rest-preserved
loop-rest-preserved c =
    let walked = back (goal.at.loop-rest-preserved c).In-loop-rest in (
      walked.within,
      Iff.trans c.loop-rest.invariant.1
          (elim c.else-rest-eq0.branch [
            | else-rest-eq0-via-then-rest-eq0+else-not-allows_miss w ↦ walked.miss w.if-rest-eq0.true (sym w.allows_miss.ensures ∙ w.if-not-allows_miss.false)
            | else-rest-eq0-via-else-rest-eq0 w ↦ walked.hit w.if-rest-eq0.false
          ]),
    )

pub returns : goal.returns
returns c =
    let l = c.loop-rest in
    let p = c.args.self.now in
    (λ e. l.invariant.1.1 (all_hits_kept p.first p.m p.enough_for_first l.rest (omega (arith, c.count_of-all.ensures.some_history, c.count_of-all.ensures.power))), λ k. refl)
