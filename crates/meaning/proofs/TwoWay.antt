-- A pattern is kept if and only if it occurs in an endless sequence that always holds; parts of kept patterns are kept. Assumes nothing.
use mathlib.Core.Path.{◌≡◌, refl, sym, ap, ◌∙◌, subst, fun_ext}
use mathlib.Core.Logic.{◌↔◌}
use mathlib.Core.Bool.{Bool, true}
use mathlib.Core.List.{List, [], ◌∷◌, ◌++◌}
use Prim.Native.Nat.{ℕ, zero, suc, ◌+◌, ◌<◌}
use native.Mathlib.Omega.{arith}
use lib.ListN.{length, get_or, drop, drop_of_length-le}
use lib.Seq.{drop-cons, get_or-append-add}
use lib.IntN.{ℤ, pos, negsuc, suc_ℤ, ◌+ℤ◌, +ℤ_idr, +ℤ-suc_ℤ, suc_ℤ-+ℤ}
use Rattle.meaning.specs.Limit.{Rule, width}
use Rattle.meaning.specs.Window.{around, window}
use Rattle.meaning.specs.Holds.{Holds}
use Rattle.meaning.specs.Kept.{Always, Kept, Occurs}
use Rattle.meaning.proofs.Monotone.{Up, always_mono}

-- a sequence seen from j on
window_shift : (s : ℤ → Bool) (j i : ℤ) (k : ℕ) → window s (j +ℤ i) k ≡ window (λ n. s (j +ℤ n)) i k
window_shift s j i zero = refl
window_shift s j i (suc k) =
    ap {B = List Bool} (λ z. s (j +ℤ i) ∷ z) (ap (λ z. window s z k) (sym (+ℤ-suc_ℤ j i)) ∙ window_shift s j (suc_ℤ i) k)

always_shift : (l : Rule) (s : ℤ → Bool) (j : ℤ) → Always l s → Always l (λ n. s (j +ℤ n))
always_shift l s j h i = subst (λ z. Holds l z) (window_shift s j i (width l)) (h (j +ℤ i))

-- what stands in a sequence that always holds, but for misses that are turned into hits, is kept
pub kept_of : (l : Rule) (s : ℤ → Bool) (j : ℤ) (p : List Bool) → ((i : ℤ) → Up (s (j +ℤ i)) (around p i)) → Always l s → Kept l p
kept_of l s j p u h = always_mono l (λ n. s (j +ℤ n)) (around p) u (always_shift l s j h)

pub window_drop : (p : List Bool) (k n : ℕ) → n + k ≡ length p → window (around p) (pos n) k ≡ drop n p
window_drop p zero n e = sym (drop_of_length-le p {i = n} (omega arith))
window_drop p (suc k) n e =
    let h : n < length p = omega arith in
    rw (drop-cons p n true) (ap {B = List Bool} (λ z. get_or p n true ∷ z) (window_drop p k (suc n) (omega arith)))

get_d_window : (s : ℤ → Bool) (j : ℤ) (k n : ℕ) → Up (s (j +ℤ pos n)) (get_or (window s j k) n true)
get_d_window s j zero n = λ e. refl
get_d_window s j (suc k) zero = λ e. ap s (sym (+ℤ_idr j)) ∙ e
get_d_window s j (suc k) (suc n) = λ e. get_d_window s (suc_ℤ j) k n (ap s (suc_ℤ-+ℤ j (pos n) ∙ sym (+ℤ-suc_ℤ j (pos n))) ∙ e)

occurs_up : (p : List Bool) (s : ℤ → Bool) (j : ℤ) → window s j (length p) ≡ p → (i : ℤ) → Up (s (j +ℤ i)) (around p i)
occurs_up p s j e (negsuc n) = λ t. refl
occurs_up p s j e (pos n) = λ t. ap (λ z. get_or z n true) (sym e) ∙ get_d_window s j (length p) n t

pub occurs_around : (p : List Bool) → Occurs p (around p)
occurs_around p = (pos zero, window_drop p (length p) zero (omega arith))

-- RULES, Kept, for one limit: the pattern "stands somewhere in a two-way endless sequence, any at all" in which every window holds
pub kept_occurs : (l : Rule) (p : List Bool) → Kept l p ↔ ((s : ℤ → Bool) × Occurs p s × Always l s)
kept_occurs l p = (
  λ h. (around p, occurs_around p, h),
  λ (s, (j, e), h). kept_of l s j p (occurs_up p s j e) h,
)

up_front : (p b : List Bool) (n : ℕ) → Up (get_or (p ++ b) n true) (get_or p n true)
up_front [] b n = λ e. refl
up_front (x ∷ p) b zero = λ e. e
up_front (x ∷ p) b (suc n) = up_front p b n

up_part : (a p b : List Bool) (i : ℤ) → Up (around (a ++ (p ++ b)) (pos (length a) +ℤ i)) (around p i)
up_part a p b (negsuc n) = λ e. refl
up_part a p b (pos n) = λ e. up_front p b n (sym (get_or-append-add a (p ++ b) n true) ∙ e)

-- a contiguous part of a kept pattern is kept
pub kept_part : (l : Rule) (a p b : List Bool) → Kept l (a ++ (p ++ b)) → Kept l p
kept_part l a p b h = kept_of l (around (a ++ (p ++ b))) (pos (length a)) p (up_part a p b) h

get_d_hit : (p : List Bool) (n : ℕ) → get_or (p ++ true ∷ []) n true ≡ get_or p n true
get_d_hit [] zero = refl
get_d_hit [] (suc n) = refl
get_d_hit (x ∷ p) zero = refl
get_d_hit (x ∷ p) (suc n) = get_d_hit p n

around_hit : (p : List Bool) (i : ℤ) → around (p ++ true ∷ []) i ≡ around p i
around_hit p (pos n) = get_d_hit p n
around_hit p (negsuc n) = refl

-- a hit changes nothing
pub kept_hit : (l : Rule) (p : List Bool) → Kept l p ↔ Kept l (p ++ true ∷ [])
kept_hit l p = (
  λ h. subst (λ z. Always l z) (sym (fun_ext (around_hit p))) h,
  λ h. subst (λ z. Always l z) (fun_ext (around_hit p)) h,
)
