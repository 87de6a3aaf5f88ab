-- Turning misses into hits keeps what holds. Assumes nothing.
use mathlib.Core.Path.{◌≡◌, refl, sym, ap, ◌∙◌, subst}
use mathlib.Core.Bool.{Bool, true, false, false≢true}
use mathlib.Core.List.{List, [], ◌∷◌, ◌++◌}
use Prim.Native.Nat.{ℕ, zero, suc, ◌≤◌}
use native.Mathlib.Omega.{arith}
use lib.ListN.{length, replicate}
use lib.IntN.{ℤ, pos, negsuc, suc_ℤ}
use Rattle.meaning.specs.Limit.{Rule, any_hit, row_hit, any_miss, row_miss, width}
use Rattle.meaning.specs.Window.{around, window}
use Rattle.meaning.specs.Holds.{hits, misses, Run, Holds}
use Rattle.meaning.specs.Kept.{Always, Kept}

-- b is a, or a hit
abbrev pub Up : Bool → Bool → Type 0
Up a b = a ≡ true → b ≡ true

-- w with some of its misses turned into hits is v
pub data Better : List Bool → List Bool → Type 0 where
  none : Better [] []
  also : {a b : Bool} {w v : List Bool} → Up a b → Better w v → Better (a ∷ w) (b ∷ v)

pub better_refl : (w : List Bool) → Better w w
better_refl [] = none
better_refl (a ∷ w) = also (λ e. e) (better_refl w)

pub better_length : {w v : List Bool} → Better w v → length w ≡ length v
better_length none = refl
better_length (also e r) = ap suc (better_length r)

hits_up : (a b : Bool) (w v : List Bool) → Up a b → hits w ≤ hits v → hits (a ∷ w) ≤ hits (b ∷ v)
hits_up true true w v u h = omega arith
hits_up true false w v u h = absurd (false≢true (u refl))
hits_up false true w v u h = omega arith
hits_up false false w v u h = h

pub hits_mono : {w v : List Bool} → Better w v → hits w ≤ hits v
hits_mono none = omega arith
hits_mono (also {a} {b} {w} {v} u r) = hits_up a b w v u (hits_mono r)

misses_up : (a b : Bool) (w v : List Bool) → Up a b → misses v ≤ misses w → misses (b ∷ v) ≤ misses (a ∷ w)
misses_up true true w v u h = h
misses_up true false w v u h = absurd (false≢true (u refl))
misses_up false true w v u h = omega arith
misses_up false false w v u h = omega arith

pub misses_mono : {w v : List Bool} → Better w v → misses v ≤ misses w
misses_mono none = omega arith
misses_mono (also {a} {b} {w} {v} u r) = misses_up a b w v u (misses_mono r)

-- a split of w is one of v
better_split : (a b : List Bool) {v : List Bool} → Better (a ++ b) v → (c : List Bool) × (d : List Bool) × (v ≡ c ++ d) × Better a c × Better b d
better_split [] b {v} r = ([], v, refl, none, r)
better_split (x ∷ a) b (also {b = y} u r) =
    let (c, d, e, s, t) = better_split a b r in
    (y ∷ c, d, ap {B = List Bool} (λ z. y ∷ z) e, also u s, t)

better_hits : (x : ℕ) {v : List Bool} → Better (replicate x true) v → v ≡ replicate x true
better_hits zero none = refl
better_hits (suc x) (also u r) = cc (better_hits x r, u refl)

run_mono : (x : ℕ) {w v : List Bool} → Better w v → Run x w → Run x v
run_mono x {w} {v} r (a, b, e) =
    let (c, d, e₁, s, t) = better_split a (replicate x true ++ b) (subst (λ z. Better z v) e r) in
    let (f, g, e₂, s₂, t₂) = better_split (replicate x true) b t in
    (c, g, e₁ ∙ ap (λ z. c ++ z) (e₂ ∙ ap (λ z. z ++ g) (better_hits x s₂)))

up_miss : (a b : Bool) → Up a b → b ≡ false → a ≡ false
up_miss true b u e = absurd (false≢true (sym e ∙ u refl))
up_miss false b u e = refl

all_miss : {w v : List Bool} → Better w v → v ≡ replicate (length v) false → w ≡ replicate (length w) false
all_miss none e = refl
all_miss (also {a} {b} {w} {v} u r) e =
    let p : b ≡ false = cc in
    let q : v ≡ replicate (length v) false = cc in
    cc (up_miss a b u p, all_miss r q)

pub holds_mono : (l : Rule) {w v : List Bool} → Better w v → Holds l w → Holds l v
holds_mono (any_hit x k) r h = let m = hits_mono r in omega arith
holds_mono (row_hit x k) r h = run_mono x r h
holds_mono (any_miss x k) r h = let m = misses_mono r in omega arith
holds_mono (row_miss x) r h = λ e. h (all_miss r e)

pub window_mono : (s t : ℤ → Bool) → ((i : ℤ) → Up (s i) (t i)) → (i : ℤ) (k : ℕ) → Better (window s i k) (window t i k)
window_mono s t u i zero = none
window_mono s t u i (suc k) = also (u i) (window_mono s t u (suc_ℤ i) k)

pub always_mono : (l : Rule) (s t : ℤ → Bool) → ((i : ℤ) → Up (s i) (t i)) → Always l s → Always l t
always_mono l s t u h i = holds_mono l (window_mono s t u i (width l)) (h i)

around_mono : {p q : List Bool} → Better p q → (i : ℤ) → Up (around p i) (around q i)
around_mono r (negsuc n) = λ e. refl
around_mono none (pos n) = λ e. refl
around_mono (also u r) (pos zero) = u
around_mono (also u r) (pos (suc n)) = around_mono r (pos n)

-- turning misses into hits keeps a pattern kept
pub kept_mono : (l : Rule) {p q : List Bool} → Better p q → Kept l p → Kept l q
kept_mono l {p} {q} r h = always_mono l (around p) (around q) (around_mono r) h
