-- `verdict::turn` meets its contract: a hit keeps, and a miss goes by the limit that blocks it. Assumes nothing.
use mathlib.Core.Path.{◌≡◌, refl, sym, ap, ◌∙◌, subst}
use mathlib.Core.Bool.{true, false}
use Prim.Native.Nat.{◌-◌}
use Rattle.std.specs.Prelude.{Ok}
use Rattle.meaning.specs.Longest.{longest}
use Rattle.history.specs.History.{pushed}
use Rattle.history.proofs.Shifted.{shifted_pushed}
use Rattle.verdict.specs.Turn.{Turned}
use Rattle.verdict.proofs.turn.Goals as goal
use Rattle.verdict.proofs.turn.Goals.{then-not-hit+in_default, else-not-hit}

pub returns : goal.returns
returns c =
    let s = c.args in
    let h = s.history in
    let r = c.push.result in
    let left : r ≡ pushed (longest - 1) h s.hit = c.push.ensures.0 ∙ shifted_pushed (longest - 1) _ h _ refl in
    elim c.if-not-hit.branch [
      | then-not-hit+in_default w ↦
          let miss : s.hit ≡ false = w.if-not-hit.true in
          let t : Turned s.set.now h false (Ok r) = (w.in_default.ensures, left ∙ ap (pushed (longest - 1) h) miss) in
          subst (λ o. Turned s.set.now h o (Ok r)) (sym miss) t
      | else-not-hit w ↦
          let hit : s.hit ≡ true = w.if-not-hit.false in
          let t : Turned s.set.now h true (Ok r) = left ∙ ap (pushed (longest - 1) h) hit in
          subst (λ o. Turned s.set.now h o (Ok r)) (sym hit) t
    ]
