-- AnyMiss(x,k) is AnyHit(k-x,k), and RowMiss(x) is AnyHit(1,x), on each window. Assumes nothing.
use mathlib.Core.Path.{◌≡◌, refl, sym, ap, ◌∙◌, subst}
use mathlib.Core.Logic.{◌↔◌}
use mathlib.Core.Bool.{Bool, true, false}
use mathlib.Core.List.{List, [], ◌∷◌}
use Prim.Native.Nat.{ℕ, zero, suc, ◌+◌, ◌-◌, ◌≤◌}
use native.Mathlib.Omega.{arith}
use lib.ListN.{length, replicate}
use lib.IntN.{ℤ, suc_ℤ}
use Rattle.meaning.specs.Limit.{Rule, any_hit, any_miss, row_miss, width}
use Rattle.meaning.specs.Window.{around, window}
use Rattle.meaning.specs.Holds.{hits, misses, Holds}
use Rattle.meaning.specs.Kept.{Kept}

pub hits_misses : (w : List Bool) → hits w + misses w ≡ length w
hits_misses [] = omega arith
hits_misses (true ∷ w) = let h = hits_misses w in omega arith
hits_misses (false ∷ w) = let h = hits_misses w in omega arith

pub length_window : (s : ℤ → Bool) (i : ℤ) (k : ℕ) → length (window s i k) ≡ k
length_window s i zero = refl
length_window s i (suc k) = ap suc (length_window s (suc_ℤ i) k)

-- at most x misses of k are at least k - x hits
pub any_miss_hit : (x k : ℕ) (w : List Bool) → x ≤ k → length w ≡ k → Holds (any_miss x k) w ↔ Holds (any_hit (k - x) k) w
any_miss_hit x k w h e = let g = hits_misses w in (λ m. omega arith, λ m. omega arith)

no_hits : (w : List Bool) → hits w ≡ zero → w ≡ replicate (length w) false
no_hits [] e = refl
no_hits (true ∷ w) e = absurd (omega arith)
no_hits (false ∷ w) e = ap {B = List Bool} (λ z. false ∷ z) (no_hits w e)

pub hits_of_misses : (n : ℕ) → hits (replicate n false) ≡ zero
hits_of_misses zero = refl
hits_of_misses (suc n) = hits_of_misses n

pub row_miss_hit : (x : ℕ) (w : List Bool) → Holds (row_miss x) w ↔ Holds (any_hit 1 x) w
row_miss_hit x w = (λ m. some (hits w) refl m, λ m e. let g : hits w ≡ zero = ap hits e ∙ hits_of_misses (length w) in omega arith)
  where
    some : (n : ℕ) → hits w ≡ n → Holds (row_miss x) w → 1 ≤ hits w
    some zero e m = absurd (m (no_hits w e))
    some (suc n) e m = omega arith

-- two rules of one width that say the same of each window keep the same patterns
kept_same : (l m : Rule) → width l ≡ width m → ((w : List Bool) → length w ≡ width l → Holds l w ↔ Holds m w) → (p : List Bool) → Kept l p ↔ Kept m p
kept_same l m e f p = (
  λ h i. subst (λ z. Holds m (window (around p) i z)) e ((f (window (around p) i (width l)) (length_window (around p) i (width l))).0 (h i)),
  λ h i. (f (window (around p) i (width l)) (length_window (around p) i (width l))).1 (subst (λ z. Holds m (window (around p) i z)) (sym e) (h i)),
)

pub any_miss_kept : (x k : ℕ) → x ≤ k → (p : List Bool) → Kept (any_miss x k) p ↔ Kept (any_hit (k - x) k) p
any_miss_kept x k h = kept_same (any_miss x k) (any_hit (k - x) k) refl (λ w e. any_miss_hit x k w h e)

pub row_miss_kept : (x : ℕ) (p : List Bool) → Kept (row_miss x) p ↔ Kept (any_hit 1 x) p
row_miss_kept x = kept_same (row_miss x) (any_hit 1 x) refl (λ w e. row_miss_hit x w)
