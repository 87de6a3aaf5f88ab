-- The laws of kept, said of a whole set: two-way endless sequences, empty, hits, parts. Each follows from the same law of one limit. Assumes nothing.
use mathlib.Core.Path.{◌≡◌, refl, sym, ap, ◌∙◌, subst}
use mathlib.Core.Logic.{◌↔◌}
use mathlib.Core.Bool.{Bool, true}
use mathlib.Core.List.{List, [], ◌∷◌, ◌++◌}
use Prim.Native.Nat.{ℕ, zero, suc, ◌<◌}
use native.Mathlib.Omega.{arith}
use lib.ListN.{take, drop, replicate, take-append-drop}
use lib.IntN.{ℤ, pos, negsuc, suc_ℤ, ◌+ℤ◌, +ℤ_idl, +ℤ-suc_ℤ, suc_ℤ-+ℤ}
use Rattle.meaning.specs.declared.LimitSet.{LimitSet}
use Rattle.meaning.specs.Limit.{Rule, any_hit, row_hit, any_miss, row_miss, RuleAllowed, width}
use Rattle.meaning.specs.Window.{around, window}
use Rattle.meaning.specs.Holds.{Holds, misses}
use Rattle.meaning.specs.Kept.{Always, Kept, Occurs}
use Rattle.meaning.specs.Sets.{SetAllowed, KeptBy, rule_at}
use Rattle.meaning.proofs.Monotone.{Up}
use Rattle.meaning.proofs.TwoKinds.{row_miss_hit}
use Rattle.meaning.proofs.TwoWay.{kept_of, kept_occurs, occurs_around, kept_part, kept_hit}
use Rattle.meaning.proofs.MissMore.{hits_replicate, run_hits}

pub window_empty : (i : ℤ) (k : ℕ) → window (around []) i k ≡ replicate k true
window_empty i zero = refl
window_empty (pos n) (suc k) = ap {B = List Bool} (λ z. true ∷ z) (window_empty (pos (suc n)) k)
window_empty (negsuc n) (suc k) = ap {B = List Bool} (λ z. true ∷ z) (window_empty (suc_ℤ (negsuc n)) k)

misses_replicate : (k : ℕ) → misses (replicate k true) ≡ zero
misses_replicate zero = refl
misses_replicate (suc k) = misses_replicate k

pub all_hits_hold : (w : ℕ) (l : Rule) → RuleAllowed w l → Holds l (replicate (width l) true)
all_hits_hold w (any_hit x k) (a, b, c) = omega (arith, hits_replicate k)
all_hits_hold w (row_hit x k) (a, b, c) = run_hits x k c
all_hits_hold w (any_miss x k) (a, b, c) = omega (arith, misses_replicate k)
all_hits_hold w (row_miss x) (a, b) = (row_miss_hit x (replicate x true)).1 (omega (arith, hits_replicate x))

-- RULES, Kept: "The empty pattern is kept by every set."
pub kept_empty : (w : ℕ) (l : Rule) → RuleAllowed w l → Kept l []
kept_empty w l a i = subst (λ z. Holds l z) (sym (window_empty i (width l))) (all_hits_hold w l a)

-- a hit before a pattern changes nothing
before_hit : (p : List Bool) (i : ℤ) → Up (around p (negsuc zero +ℤ i)) (around (true ∷ p) i)
before_hit p (negsuc n) = λ e. refl
before_hit p (pos zero) = λ e. refl
before_hit p (pos (suc n)) =
    let q : negsuc zero +ℤ pos (suc n) ≡ pos n = +ℤ-suc_ℤ (negsuc zero) (pos n) ∙ sym (suc_ℤ-+ℤ (negsuc zero) (pos n)) ∙ +ℤ_idl (pos n) in
    λ e. ap (around p) (sym q) ∙ e

pub kept_hit_before : (l : Rule) (p : List Bool) → Kept l p → Kept l (true ∷ p)
kept_hit_before l p h = kept_of l (around p) (negsuc zero) (true ∷ p) (before_hit p) h

module _ (s : LimitSet) where
  -- RULES, Kept: "a set keeps a pattern exactly if the pattern stands somewhere in a two-way endless sequence, any at all, in which every window of every limit holds"
  pub kept_by_occurs : (p : List Bool) → KeptBy s p ↔ ((q : ℤ → Bool) × Occurs p q × ((i : ℕ) → i < s.count → Always (rule_at s i) q))
  kept_by_occurs p = (
    λ k. (around p, occurs_around p, k),
    λ (q, at, h) i l. (kept_occurs (rule_at s i) p).1 (q, at, h i l),
  )

  pub kept_by_empty : (w : ℕ) → SetAllowed w s → KeptBy s []
  kept_by_empty w a i h = kept_empty w (rule_at s i) (a.each i h).rule_allowed

  pub kept_by_part : (a p b : List Bool) → KeptBy s (a ++ (p ++ b)) → KeptBy s p
  kept_by_part a p b k i h = kept_part (rule_at s i) a p b (k i h)

  pub kept_by_prefix : (p b : List Bool) → KeptBy s (p ++ b) → KeptBy s p
  kept_by_prefix p b = kept_by_part [] p b

  pub kept_by_take : (n : ℕ) (p : List Bool) → KeptBy s p → KeptBy s (take n p)
  kept_by_take n p k = kept_by_prefix (take n p) (drop n p) (subst (λ z. KeptBy s z) (sym (take-append-drop n p)) k)

  pub kept_by_hit : (p : List Bool) → KeptBy s p → KeptBy s (p ++ true ∷ [])
  kept_by_hit p k i h = (kept_hit (rule_at s i) p).0 (k i h)

  pub kept_by_hit_before : (p : List Bool) → KeptBy s p → KeptBy s (true ∷ p)
  kept_by_hit_before p k i h = kept_hit_before (rule_at s i) p (k i h)
