-- `carry::write::put_guard` meets its contract: the outcomes, eight bytes after them, and one more. Assumes nothing.
use mathlib.Core.Path.{◌≡◌, refl, ap, ◌∙◌}
use mathlib.Core.List.{map}
use Prim.Native.Nat.{◌+◌}
use native.Mathlib.Omega.{arith}
use borrow.Author.Rules.{rules}
use lib.ListN.{length, set, length-set, length-map}
use Rattle.layout.specs.Bytes.{eight_bytes}
use Rattle.patterns.specs.Outcome.{bit}
use Rattle.patterns.proofs.Outcomes.{cast_bit}
use Rattle.carry.specs.Bytes.{carried}
use Rattle.carry.proofs.Writing.{tail_written}
use Rattle.carry.proofs.write.put_guard.Goals.{Start}
use Rattle.carry.proofs.write.put_guard.Goals as goal

-- a guard in memory holds its outcomes
held : (s : Start) → length s.args.guard.outcomes ≡ carried
held s = search rules

pub shape_of-out : goal.shape_of-out
shape_of-out c =
    length-set c.put_eight.new.out _ _ ∙ c.put_eight.auto.out ∙ c.put_outcomes.auto.out

pub returns : goal.returns
returns c =
    let d = c.args.out.now in
    let g = c.args.guard in
    ap (set c.put_eight.new.out (c.args.at + carried + 8)) (cast_bit g.lost)
    ∙ tail_written d c.put_outcomes.new.out c.put_eight.new.out (map bit g.outcomes) (eight_bytes g.count) c.args.at carried 8 (bit g.lost)
    (omega arith) (length-map g.outcomes bit ∙ held (goal.at.returns c).Start) refl c.put_outcomes.ensures c.put_eight.ensures
