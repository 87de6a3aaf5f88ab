-- `night_log::write::Checked::put_outcomes` meets its contract. The invariant: past byte 9 stand the first j packed bytes, and then what stood there. Assumes nothing.
use mathlib.Core.Path.{sym, ◌∙◌}
use Prim.Native.Nat.{◌<◌}
use native.Mathlib.Omega.{arith}
use lib.ListN.{length}
use Rattle.layout.proofs.Runs.{pasted_turn, pasted_all}
use Rattle.patterns.specs.Outcome.{outcomes}
use Rattle.night_log.specs.Bytes.{packed_size}
use Rattle.night_log.proofs.Packing.{packed_length, packed_byte}
use Rattle.night_log.proofs.write.Checked.put_outcomes.Goals as goal

pub loop-j-preserved : goal.loop-j-preserved
loop-j-preserved c =
    let p = outcomes c.args.self.pattern.now in
    let n = packed_size (length c.args.self.pattern.now) in
    let h : c.loop-j.j < n = omega (arith, c.packed_size-j-end.ensures) in
    pasted_turn c.loop-j.invariant _ (omega (arith, c.requires)) (omega (arith, packed_length p 0 n)) (c.byte_from.ensures ∙ sym (packed_byte p n c.loop-j.j h))

pub returns : goal.returns
returns c =
    let s = c.args in
    let n = packed_size (length s.self.pattern.now) in
    pasted_all c.loop-j.invariant n (omega (arith, c.packed_size-j-end.ensures)) (packed_length (outcomes s.self.pattern.now) 0 n)
