-- `builder::write::put_row`: two bytes, and two after them. Assumes nothing.
use mathlib.Core.Path.{◌≡◌, refl, ap, ◌∙◌}
use mathlib.Core.List.{[], ◌++◌, append_assoc}
use Prim.Native.Nat.{◌+◌}
use native.Mathlib.Omega.{arith}
use lib.ListN.{take, drop}
use Rattle.layout.proofs.Runs.{put_then}
use Rattle.table.specs.Bytes.{pair_bytes}
use Rattle.builder.proofs.write.put_row.Goals as goal

pub returns : goal.returns
returns c =
    let a = c.args in
    let d = a.out.now in
    let four : a.at + 2 + 2 ≡ a.at + 4 = omega arith in
    c.put_two-2.ensures
    ∙ ap (λ z. take (a.at + 2) z ++ pair_bytes a.hit (drop (a.at + 2 + 2) z)) c.put_two.ensures
    ∙ (simp append_assoc at (put_then d (pair_bytes a.miss []) (pair_bytes a.hit []) a.at 2 2 (omega arith) refl))
    ∙ ap (λ k. take a.at d ++ pair_bytes a.miss (pair_bytes a.hit (drop k d))) four
