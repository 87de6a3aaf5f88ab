-- A test that says whether a pattern is kept, and that it is right. Assumes nothing.
use mathlib.Core.Path.{◌≡◌, refl, sym, ap, ◌∙◌, subst}
use mathlib.Core.Logic.{◌↔◌, ◌⊎◌, inl, inr, ⊎_elim, dite}
use mathlib.Core.Bool.{Bool, true, false, cond, ◌&&◌, ◌||◌}
use mathlib.Core.List.{List, [], ◌∷◌, ◌++◌}
use Prim.Native.Nat.{ℕ, zero, suc, ◌+◌, ◌-◌, ◌≤◌, ◌<◌}
use native.Mathlib.Decide.{dec_le, dec_lt}
use native.Mathlib.Omega.{arith}
use lib.Dec.{T, leb→le, le→leb}
use borrow.Author.Tests.{le-ltb}
use lib.ListN.{length, replicate}
use lib.IntN.{ℤ, pos, negsuc, ◌-ℤ◌, +ℤ-neg_ℤ_cancel}
use Rattle.meaning.specs.Limit.{Rule, any_hit, row_hit, any_miss, row_miss, width}
use Rattle.meaning.specs.Window.{around, window}
use Rattle.meaning.specs.Holds.{hits, misses, Run, Holds}
use Rattle.meaning.specs.Kept.{Kept}
use Rattle.meaning.specs.Test.{every, starts_with, has_run, holds_test, window_test, kept_test}
use Rattle.meaning.proofs.TwoKinds.{row_miss_hit}
use Rattle.meaning.proofs.MissMore.{window_after, run_before}

pub and_T : (a b : Bool) → T (a && b) ↔ (T a × T b)
and_T true b = (λ t. (tt, t), λ t. t.1)
and_T false b = (λ t. absurd t, λ t. t.0)

or_left : (a b : Bool) → T a → T (a || b)
or_left true b t = tt
or_left false b t = absurd t

or_right : (a b : Bool) → T b → T (a || b)
or_right true b t = tt
or_right false b t = t

pub or_case : (a b : Bool) → T (a || b) → T a ⊎ T b
or_case true b t = inl tt
or_case false b t = inr t

pub T_of : (b : Bool) → b ≡ true → T b
T_of b e = subst (λ z. T z) (sym e) tt

pub not_T_false : (b : Bool) → (T b → ⊥) → b ≡ false
not_T_false true f = absurd (f tt)
not_T_false false f = refl

pub T_true : (b : Bool) → T b → b ≡ true
T_true true t = refl
T_true false t = absurd t

starts_to : (x : ℕ) (w : List Bool) → T (starts_with x w) → (b : List Bool) × (w ≡ replicate x true ++ b)
starts_to zero w t = (w, refl)
starts_to (suc x) [] t = absurd t
starts_to (suc x) (a ∷ w) t =
    let (ta, tw) = (and_T a (starts_with x w)).0 t in
    let (b, e) = starts_to x w tw in
    (b, cc (T_true a ta))

starts_from : (x : ℕ) (b : List Bool) → T (starts_with x (replicate x true ++ b))
starts_from zero b = tt
starts_from (suc x) b = starts_from x b

run_to : (x : ℕ) (w : List Bool) → T (has_run x w) → Run x w
run_to x [] t = let (b, e) = starts_to x [] t in ([], b, e)
run_to x (a ∷ w) t =
    ⊎_elim (λ s. let (b, e) = starts_to x (a ∷ w) s in ([], b, e)) (λ r. run_before x (a ∷ []) w (run_to x w r))
    (or_case (starts_with x (a ∷ w)) (has_run x w) t)

run_here : (x : ℕ) (w : List Bool) → T (starts_with x w) → T (has_run x w)
run_here x [] t = t
run_here x (a ∷ w) t = or_left (starts_with x (a ∷ w)) (has_run x w) t

run_from : (x : ℕ) (a b : List Bool) → T (has_run x (a ++ (replicate x true ++ b)))
run_from x [] b = run_here x (replicate x true ++ b) (starts_from x b)
run_from x (c ∷ a) b = or_right (starts_with x (c ∷ (a ++ (replicate x true ++ b)))) _ (run_from x a b)

pub run_iff : (x : ℕ) (w : List Bool) → T (has_run x w) ↔ Run x w
run_iff x w = (run_to x w, λ (a, b, e). subst (λ z. T (has_run x z)) (sym e) (run_from x a b))

pub holds_iff : (l : Rule) (w : List Bool) → T (holds_test l w) ↔ Holds l w
holds_iff (any_hit x k) w = (leb→le x (hits w), le→leb x (hits w))
holds_iff (row_hit x k) w = run_iff x w
holds_iff (any_miss x k) w = (leb→le (misses w) x, le→leb (misses w) x)
holds_iff (row_miss x) w = (λ t. (row_miss_hit x w).1 (leb→le 1 (hits w) t), λ h. le→leb 1 (hits w) ((row_miss_hit x w).0 h))

pub every_at : (n : ℕ) (f : ℕ → Bool) → T (every n f) → (j : ℕ) → j < n → T (f j)
every_at zero f t j h = absurd (omega arith)
every_at (suc n) f t j h =
    dite (dec_lt j n) (λ lt. every_at n f ((and_T (f n) (every n f)).0 t).1 j lt)
    (λ nlt. let e : n ≡ j = omega arith in subst (λ z. T (f z)) e ((and_T (f n) (every n f)).0 t).0)

pub every_from : (n : ℕ) (f : ℕ → Bool) → ((j : ℕ) → j < n → T (f j)) → T (every n f)
every_from zero f h = tt
every_from (suc n) f h = (and_T (f n) (every n f)).1 (h n (omega arith), every_from n f (λ j l. h j (omega arith)))

pub window_early : (p : List Bool) (k n : ℕ) → k ≤ suc n → window (around p) (negsuc n) k ≡ replicate k true
window_early p zero n h = refl
window_early p (suc k) zero h = let e : k ≡ zero = omega arith in rw e
window_early p (suc k) (suc n) h = ap {B = List Bool} (λ z. true ∷ z) (window_early p k n (omega arith))

pub neg_back : (n k : ℕ) → suc n ≤ k → pos (k - suc n) -ℤ pos k ≡ negsuc n
neg_back n k h =
    ap (λ z. z -ℤ pos k) (sym (ap (λ b. cond b (negsuc (suc n - suc k)) (pos (k - suc n))) (le-ltb k (suc n) h)))
    ∙ +ℤ-neg_ℤ_cancel (negsuc n) (pos k)

module _ (l : Rule) (p : List Bool) (t : T (kept_test l p)) where
  at_test : (j : ℕ) (i : ℤ) → j ≤ width l + length p → pos j -ℤ pos (width l) ≡ i → Holds l (window (around p) i (width l))
  at_test j i h e =
      subst (λ z. Holds l (window (around p) z (width l))) e
      ((holds_iff l _).0 (every_at (suc (width l + length p)) (window_test l p) t j (omega arith)))

  at_pos : (n : ℕ) → n ≤ length p → Holds l (window (around p) (pos n) (width l))
  at_pos n h = at_test (n + width l) (pos n) (omega arith) (+ℤ-neg_ℤ_cancel (pos n) (pos (width l)))

  at_hits : (i : ℤ) → window (around p) i (width l) ≡ replicate (width l) true → Holds l (window (around p) i (width l))
  at_hits i e =
      subst (λ z. Holds l z) (window_after p (width l) (length p) (omega arith) ∙ sym e) (at_pos (length p) (omega arith))

  kept_of_test : Kept l p
  kept_of_test (pos n) =
      dite (dec_le n (length p)) (at_pos n) (λ h. at_hits (pos n) (window_after p (width l) n (omega arith)))
  kept_of_test (negsuc n) =
      dite (dec_le (suc n) (width l)) (λ h. at_test (width l - suc n) (negsuc n) (omega arith) (neg_back n (width l) h))
      (λ h. at_hits (negsuc n) (window_early p (width l) n (omega arith)))

pub kept_iff : (l : Rule) (p : List Bool) → T (kept_test l p) ↔ Kept l p
kept_iff l p = (
  kept_of_test l p,
  λ h. every_from (suc (width l + length p)) (window_test l p)
      (λ j b. (holds_iff l _).1 (h (pos j -ℤ pos (width l)))),
)
