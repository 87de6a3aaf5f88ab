-- `history::length_for`: the limits passed ask for no more than the length so far. Assumes nothing.
use mathlib.Core.Path.{◌≡◌, ap, ◌∙◌}
use Prim.Native.Nat.{◌+◌, ◌<◌}
use native.Mathlib.Omega.{arith}
use borrow.Author.Count.{below_more}
use Rattle.std.proofs.Common.{rules}
use Rattle.std.specs.Prelude.{max}
use Rattle.std.proofs.lemmas.List.{get_or-take, length-take}
use Rattle.meaning.specs.Limit.{rule_of, width}
use Rattle.meaning.specs.Sets.{zero_limit, rule_at}
use Rattle.meaning.proofs.Widths.{width_allowed}
use Rattle.history.proofs.length_for.Goals as goal

pub loop-limit-preserved : goal.loop-limit-preserved
loop-limit-preserved c =
    let s = c.args.set in
    let l = c.loop-limit in
    let i = l.limit-index in
    let here : i < s.count = omega (arith, c.loop-limit-test.true, length-take s.count s.limits) in
    let asked : c.reach.result + 1 ≡ width (rule_at s i) = c.reach.ensures ∙ ap (λ z. width (rule_of z)) (get_or-take s.count s.limits i zero_limit here) in
    let longer : c.max-length.result ≡ max l.length c.reach.result = search rules in (
      λ w a. omega (arith, l.invariant.0 w a, asked, longer, (width_allowed w (rule_at s i) (a.each i here).rule_allowed).1),
      below_more _ _ (λ j h. omega (arith, l.invariant.1 j h, longer)) (omega (arith, asked, longer)),
    )
