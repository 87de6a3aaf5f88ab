-- `compare::Pair::scan`: what `find` says of the histories that it passed. Assumes nothing.
use Rattle.std.proofs.Common.{arith, rules, tests}
use Rattle.std.proofs.lemmas.Iterator.{first_from_Range}
use Rattle.compare.specs.Splits.{Splits}
use Rattle.compare.proofs.Pair.scan.Goals as goal

pub returns : goal.returns
returns c =
    let p = c.args.self.now in
    first_from_Range _ _ _ _ (Splits p.first p.second p.m) (λ h. Splits p.first p.second p.m h → ⊥) c.find.ensures.ran
    (λ h q k. search rules)
    (λ h q k. (search rules, λ s. grind (arith, tests)))
