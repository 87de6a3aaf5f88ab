-- Whether a set keeps a pattern is decided by a test; where it doesn't, the limit that breaks is found, and the beginning where it is lost. Assumes nothing.
use mathlib.Core.Path.{◌≡◌, refl, sym, ◌∙◌, subst}
use mathlib.Core.Logic.{◌↔◌}
use mathlib.Core.Bool.{Bool, true, false}
use mathlib.Core.List.{List, [], ◌∷◌, ◌++◌, append_assoc, append-nil}
use Prim.Native.Nat.{ℕ, zero, suc, ◌<◌}
use native.Mathlib.Omega.{arith}
use lib.Dec.{T}
use Rattle.meaning.specs.declared.LimitSet.{LimitSet}
use Rattle.meaning.specs.Kept.{Kept}
use Rattle.meaning.specs.Sets.{KeptBy, rule_at}
use Rattle.meaning.specs.Test.{every, kept_test, kept_by_test}
use Rattle.meaning.proofs.Decide.{and_T, T_of, kept_iff, every_at, every_from}
use Rattle.meaning.proofs.SetLaws.{kept_by_hit}

-- a test that fails somewhere below n fails at a least number
pub least_false : (n : ℕ) (f : ℕ → Bool) → (T (every n f) → ⊥) → (j : ℕ) × (j < n) × (T (f j) → ⊥) × ((i : ℕ) → i < j → T (f i))
least_false zero f h = absurd (h tt)
least_false (suc n) f h = go (every n f) refl (least_false n f)
  where
    go : (b : Bool) → every n f ≡ b → ((T (every n f) → ⊥) → (j : ℕ) × (j < n) × (T (f j) → ⊥) × ((i : ℕ) → i < j → T (f i))) → (j : ℕ) × (j < suc n) × (T (f j) → ⊥) × ((i : ℕ) → i < j → T (f i))
    go true e r = let t = T_of (every n f) e in (n, omega arith, λ g. h ((and_T (f n) (every n f)).1 (g, t)), every_at n f t)
    go false e r = let (j, l, g, b) = r (λ t. subst (λ z. T z) e t) in (j, omega arith, g, b)

pub kept_by_iff : (s : LimitSet) (p : List Bool) → T (kept_by_test s p) ↔ KeptBy s p
kept_by_iff s p = (
  λ t i h. (kept_iff (rule_at s i) p).0 (every_at s.count (λ i. kept_test (rule_at s i) p) t i h),
  λ k. every_from s.count (λ i. kept_test (rule_at s i) p) (λ i h. (kept_iff (rule_at s i) p).1 (k i h)),
)

pub kept_by_dec : (s : LimitSet) (p : List Bool) → Dec (KeptBy s p)
kept_by_dec s p = go (kept_by_test s p) refl
  where
    go : (b : Bool) → kept_by_test s p ≡ b → Dec (KeptBy s p)
    go true e = yes ((kept_by_iff s p).0 (subst (λ z. T z) (sym e) tt))
    go false e = no (λ k. subst (λ z. T z) e ((kept_by_iff s p).1 k))

-- a limit that breaks
pub breaking_limit : (s : LimitSet) (p : List Bool) → (KeptBy s p → ⊥) → (i : ℕ) × (i < s.count) × (Kept (rule_at s i) p → ⊥)
breaking_limit s p h =
    let (i, l, f, _) = least_false s.count (λ i. kept_test (rule_at s i) p) (λ t. h ((kept_by_iff s p).0 t)) in
    (i, l, λ k. f ((kept_iff (rule_at s i) p).1 k))

-- a pattern that isn't kept has a kept beginning after which a miss loses it
pub first_loss : (s : LimitSet) (q r : List Bool) → KeptBy s q → (KeptBy s (q ++ r) → ⊥) → (a : List Bool) × (b : List Bool) × (q ++ r ≡ a ++ (false ∷ b)) × KeptBy s a × (KeptBy s (a ++ false ∷ []) → ⊥)
first_loss s q [] k h = absurd (h (subst (λ z. KeptBy s z) (sym (append-nil q)) k))
first_loss s q (true ∷ r) k h =
    let e = append_assoc q (true ∷ []) r in
    let (a, b, f, ka, ha) = first_loss s (q ++ true ∷ []) r (kept_by_hit s q k) (λ z. h (subst (λ z. KeptBy s z) e z)) in
    (a, b, sym e ∙ f, ka, ha)
first_loss s q (false ∷ r) k h = go (kept_by_dec s (q ++ false ∷ [])) (first_loss s (q ++ false ∷ []) r)
  where
    e : (q ++ false ∷ []) ++ r ≡ q ++ (false ∷ r)
    e = append_assoc q (false ∷ []) r

    go : Dec (KeptBy s (q ++ false ∷ [])) → (KeptBy s (q ++ false ∷ []) → (KeptBy s ((q ++ false ∷ []) ++ r) → ⊥) → (a : List Bool) × (b : List Bool) × ((q ++ false ∷ []) ++ r ≡ a ++ (false ∷ b)) × KeptBy s a × (KeptBy s (a ++ false ∷ []) → ⊥)) → (a : List Bool) × (b : List Bool) × (q ++ (false ∷ r) ≡ a ++ (false ∷ b)) × KeptBy s a × (KeptBy s (a ++ false ∷ []) → ⊥)
    go (no n) rec = (q, r, refl, k, n)
    go (yes y) rec =
        let (a, b, f, ka, ha) = rec y (λ z. h (subst (λ z. KeptBy s z) e z)) in
        (a, b, sym e ∙ f, ka, ha)
