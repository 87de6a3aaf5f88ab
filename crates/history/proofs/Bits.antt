-- What the processor counts in a history, over the number and the width: the ones of its low bits are the hits among its newest outcomes, the zeros at its end its newest misses, and the zeros at the end of its inverse its newest run of hits. Assumes nothing.
use mathlib.Core.Path.{◌≡◌, refl, sym, ap, ◌∙◌}
use mathlib.Core.Logic.{dite}
use mathlib.Core.Bool.{Bool, true, false, not}
use mathlib.Core.List.{List, ◌∷◌, ◌++◌}
use Prim.Native.Nat.{ℕ, zero, suc, ◌+◌, ◌-◌, ◌/◌, ◌%◌, ◌^◌, ◌≤◌, ◌<◌}
use native.Mathlib.Decide.{ℕ_discrete}
use native.Mathlib.Nat.{pow-suc}
use native.Mathlib.Numerals.{add-one}
use native.Mathlib.Omega.{arith}
use borrow.Author.Tests.{eq-eqb, ne_eqb}
use lib.Count.{ones, ones_step, count_trailing_zeros}
use lib.Dec.{eqb}
use lib.ListN.{replicate}
use lib.Pow.{field, mod-mod-pow, shr-shr, pow_pos, pow_mono}
use Rattle.meaning.specs.Holds.{hits}
use Rattle.history.specs.History.{newest}

hits_bit : (r : ℕ) (w : List Bool) → hits (eqb (r % 2) 1 ∷ w) ≡ r % 2 + hits w
hits_bit r w =
    dite (ℕ_discrete (r % 2) 1) (λ e. rw (eq-eqb (r % 2) 1 e) (omega arith)) (λ e. rw (ne_eqb (r % 2) 1 e) (omega arith))

low_end : (n h : ℕ) → (h % 2 ^ suc n % 2 ≡ h % 2) × (h % 2 ^ suc n / 2 ≡ h / 2 % 2 ^ n)
low_end n h =
    let e = sym (add-one n) in
    (ap (λ z. h % 2 ^ z % 2) e ∙ mod-mod-pow h n 1, ap (λ z. h % 2 ^ z / 2) e ∙ field h n 1)

-- the newest n outcomes stand in the n low bits
pub newest_low : (n h : ℕ) → newest n (h % 2 ^ n) ≡ newest n h
unfolding newest
newest_low zero h = refl
newest_low (suc n) h = rw ((low_end n h).0, (low_end n h).1) (ap (λ w. eqb (h % 2) 1 ∷ w) (newest_low n (h / 2)))

-- the ones among the n low bits are the hits among the newest n outcomes
pub ones_hits : (n h : ℕ) → ones (h % 2 ^ n) ≡ hits (newest n h)
unfolding newest ones
ones_hits zero h = let e : h % 1 ≡ 0 = omega arith in ap ones e
ones_hits (suc n) h =
    let e = low_end n h in
    omega (arith, ones_step (h % 2 ^ suc n), e.0, ap ones e.1, ones_hits n (h / 2), hits_bit h (newest n (h / 2)))

-- the newest d outcomes of r begin with z outcomes b, and the bit above them is another: the next outcome, or the 0 above all of them
pub record Begins (b : Bool) (d r z : ℕ) : Type 0 where
  pub within : z ≤ d
  pub front : newest d r ≡ replicate z b ++ newest (d - z) (r / 2 ^ z)
  pub next : eqb (r / 2 ^ z % 2) 1 ≡ not b

begins_none : (b : Bool) (d r : ℕ) → eqb (r % 2) 1 ≡ not b → Begins b d r 0
begins_none b d r e =
    let one : r / 1 ≡ r = omega arith in
    let all : d - 0 ≡ d = omega arith in
    record { within = omega arith; front = rw (one, all) refl; next = rw one e }

begins_more : (b : Bool) (d r z : ℕ) → eqb (r % 2) 1 ≡ b → Begins b d (r / 2) z → Begins b (suc d) r (suc z)
unfolding newest
begins_more b d r z e s =
    let more : 1 + z ≡ suc z = omega arith in
    let less : suc d - suc z ≡ d - z = omega arith in
    let half : r / 2 / 2 ^ z ≡ r / 2 ^ suc z = shr-shr r 1 z ∙ ap (λ y. r / 2 ^ y) more in
    record { within = omega (arith, s.within); front = rw (sym half, e, less) (ap (λ w. b ∷ w) s.front); next = rw (sym half) s.next }

-- an inverse's lowest digit, and what stands above it
invert_end : (k r : ℕ) → r < 2 ^ suc k → (((2 ^ suc k - 1) - r) % 2 ≡ 1 - r % 2) × (((2 ^ suc k - 1) - r) / 2 ≡ (2 ^ k - 1) - r / 2)
invert_end k r h = (omega (arith, pow-suc 2 k), omega (arith, pow-suc 2 k))

-- the zeros at the end are the newest misses, where a hit follows them
pub trailing_misses : (k d r : ℕ) → r < 2 ^ d → d ≤ k → 0 < r → Begins false d r (count_trailing_zeros k r)
unfolding count_trailing_zeros
trailing_misses zero zero r h l p = absurd (omega arith)
trailing_misses zero (suc d) r h l p = absurd (omega arith)
trailing_misses (suc k) zero r h l p = absurd (omega arith)
trailing_misses (suc k) (suc d) r h l p =
    dite (ℕ_discrete (r % 2) 0)
    (λ e. rw e (begins_more false d r (count_trailing_zeros k (r / 2)) (rw e refl) (trailing_misses k d (r / 2) (omega (arith, pow-suc 2 d)) (omega arith) (omega arith))))
    (λ e. let o : r % 2 ≡ 1 = omega arith in rw o (begins_none false (suc d) r (rw o refl)))

-- the zeros at the end of the inverse are the newest run of hits
pub trailing_run : (k d r : ℕ) → r < 2 ^ d → d ≤ k → Begins true d r (count_trailing_zeros k ((2 ^ k - 1) - r))
unfolding count_trailing_zeros
trailing_run zero zero r h l = let even : r % 2 ≡ 0 = omega arith in begins_none true zero r (rw even refl)
trailing_run zero (suc d) r h l = absurd (omega arith)
trailing_run (suc k) zero r h l =
    let low : ((2 ^ suc k - 1) - r) % 2 ≡ 1 = omega (arith, pow-suc 2 k, pow_pos k) in
    let even : r % 2 ≡ 0 = omega arith in
    rw low (begins_none true zero r (rw even refl))
trailing_run (suc k) (suc d) r h l =
    let i = invert_end k r (omega (arith, pow_mono {i = suc d} {j = suc k} l)) in
    dite (ℕ_discrete (r % 2) 1)
    (λ e. let low : ((2 ^ suc k - 1) - r) % 2 ≡ 0 = omega arith in
    rw (low, i.1) (begins_more true d r (count_trailing_zeros k ((2 ^ k - 1) - r / 2)) (rw e refl) (trailing_run k d (r / 2) (omega (arith, pow-suc 2 d)) (omega arith))))
    (λ e. let low : ((2 ^ suc k - 1) - r) % 2 ≡ 1 = omega arith in
    let even : r % 2 ≡ 0 = omega arith in
    rw low (begins_none true (suc d) r (rw even refl)))
