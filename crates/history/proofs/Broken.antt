-- The window that a history reaches to is the earliest one that the miss breaks: its newest outcomes are the pattern's last. Assumes nothing.
use mathlib.Core.Path.{◌≡◌, sym, ap, ap₂, ◌∙◌, subst}
use mathlib.Core.Bool.{Bool, true, false}
use mathlib.Core.List.{List, [], ◌∷◌, ◌++◌, reverse, reverse-reverse}
use Prim.Native.Nat.{ℕ, suc, ◌+◌, ◌-◌}
use native.Mathlib.Omega.{arith}
use lib.ListN.{length, replicate}
use lib.IntN.{pos, ◌-ℤ◌}
use Rattle.meaning.specs.Limit.{Rule, RuleAllowed, width}
use Rattle.meaning.specs.Holds.{Holds}
use Rattle.meaning.specs.Window.{recent}
use Rattle.meaning.specs.Kept.{Kept}
use Rattle.meaning.specs.Broken.{EarliestBroken}
use Rattle.meaning.proofs.Widths.{width_allowed}
use Rattle.meaning.proofs.Earliest.{earliest_over}
use Rattle.history.specs.History.{history_of}
use Rattle.history.specs.Reaches.{over_miss, Reaches}
use Rattle.history.proofs.Histories.{newest_history}

module _ (m : ℕ) (p : List Bool) (l : Rule) (ok : RuleAllowed (suc m) l) where
  over_miss_lem : (a b : ℕ) → width l ≡ a + suc b → over_miss (width l) a (history_of m p) ≡ recent p a ++ (false ∷ replicate b true)
  over_miss_lem a b e =
      let rest : width l - suc a ≡ b = omega arith in
      let before = ap reverse (newest_history m p a (omega (arith, (width_allowed (suc m) l ok).1))) ∙ reverse-reverse (recent p a) in
      ap₂ (λ w r. w ++ (false ∷ replicate r true)) before rest

  pub reaches_earliest : (n : ℕ) → Kept l p → Reaches l (history_of m p) n → EarliestBroken l (p ++ false ∷ []) (pos (length p) -ℤ pos n)
  reaches_earliest n kept r =
      let b = width l - suc n in
      let e : width l ≡ n + suc b = omega (arith, r.within) in
      earliest_over l p kept n b e (λ h. r.broken (subst (Holds l) (sym (over_miss_lem n b e)) h))
      (λ a c h f. subst (Holds l) (over_miss_lem a c f) (r.farthest a h (omega arith)))
