-- A history holds the last outcomes of its pattern: at the start all hits, after one more outcome that outcome pushed, and its newest bits are the newest outcomes. Assumes nothing.
use mathlib.Core.Path.{◌≡◌, refl, sym, ap, ◌∙◌, subst}
use mathlib.Core.Bool.{Bool, true, false}
use mathlib.Core.List.{List, [], ◌∷◌, ◌++◌, reverse, reverse-cons}
use Prim.Native.Nat.{ℕ, zero, suc, ◌+◌, ◌-◌, ◌*◌, ◌/◌, ◌%◌, ◌^◌, ◌≤◌, ◌<◌}
use native.Mathlib.Nat.{pow-suc, zero-add, suc-add}
use native.Mathlib.Omega.{arith}
use lib.Dec.{eqb}
use lib.Arith.{digits_mod}
use lib.Bits.{block_half, block_odd}
use lib.ListN.{length}
use lib.IntN.{pos, ◌-ℤ◌}
use Rattle.patterns.specs.Outcome.{bit}
use Rattle.patterns.specs.Number.{number}
use Rattle.patterns.proofs.Numbers.{number_lt, number_snoc, number_hits}
use Rattle.meaning.specs.Window.{around, recent}
use Rattle.meaning.proofs.SetLaws.{window_empty}
use Rattle.meaning.proofs.TwoKinds.{length_window}
use Rattle.meaning.proofs.MissMore.{recent_suc, recent_snoc}
use Rattle.history.specs.History.{history_of, pushed, newest}

pub length_recent : (p : List Bool) (n : ℕ) → length (recent p n) ≡ n
length_recent p n = length_window (around p) (pos (length p) -ℤ pos n) n

pub history_start : (m : ℕ) → history_of m [] ≡ 2 ^ m - 1
unfolding history_of
history_start m = omega (arith, number_hits m, ap number (window_empty (pos 0 -ℤ pos m) m))

pub history_lt : (m : ℕ) (p : List Bool) → history_of m p < 2 ^ m
unfolding history_of
history_lt m p = subst (λ z. number (recent p m) < 2 ^ z) (length_recent p m) (number_lt (recent p m))

pub history_push : (m : ℕ) (p : List Bool) (b : Bool) → history_of m (p ++ b ∷ []) ≡ pushed m (history_of m p) b
unfolding history_of
history_push m p b =
    let q = p ++ b ∷ [] in
    let a = around q (pos (length q) -ℤ pos (suc m)) in
    let lt : number (recent q m) < 2 ^ m = unfold history_of in history_lt m q in
    let e : number (recent q (suc m)) ≡ bit a * 2 ^ m + number (recent q m) = ap number (recent_suc q m) ∙ ap (λ z. bit a * 2 ^ z + number (recent q m)) (length_recent q m) in
    sym (digits_mod (bit a) lt) ∙ ap (λ z. z % 2 ^ m) (sym e ∙ ap number (recent_snoc p b m) ∙ number_snoc (recent p m) b)

odd_bit : (a : Bool) → eqb (bit a % 2) 1 ≡ a
odd_bit true = refl
odd_bit false = refl

pub newest_top : (n v : ℕ) (a : Bool) → v < 2 ^ n → newest (suc n) (bit a * 2 ^ n + v) ≡ newest n v ++ a ∷ []
unfolding newest
newest_top zero v a h =
    let e : bit a * 1 + v ≡ bit a = omega arith in
    ap {B = List Bool} (λ z. eqb (z % 2) 1 ∷ []) e ∙ ap {B = List Bool} (λ z. z ∷ []) (odd_bit a)
newest_top (suc n) v a h =
    rw (block_half (bit a) n v, block_odd (bit a) n v)
    (ap {B = List Bool} (λ z. eqb (v % 2) 1 ∷ z) (newest_top n (v / 2) a (omega (arith, pow-suc 2 n))))

newest_skip : (n d v : ℕ) (a : Bool) → newest n (bit a * 2 ^ (n + d) + v) ≡ newest n v
unfolding newest
newest_skip zero d v a = refl
newest_skip (suc n) d v a =
    rw (suc-add, block_half (bit a) (n + d) v, block_odd (bit a) (n + d) v)
    (ap {B = List Bool} (λ z. eqb (v % 2) 1 ∷ z) (newest_skip n d (v / 2) a))

pub newest_number : (w : List Bool) → newest (length w) (number w) ≡ reverse w
unfolding newest
newest_number [] = refl
newest_number (a ∷ w) = unfold newest in newest_top (length w) (number w) a (number_lt w) ∙ ap (λ z. z ++ a ∷ []) (newest_number w) ∙ sym (reverse-cons a w)

newest_recent : (p : List Bool) (d n : ℕ) → newest n (number (recent p (d + n))) ≡ reverse (recent p n)
newest_recent p zero n =
    ap (λ z. newest n (number (recent p z))) (zero-add n)
    ∙ subst (λ z. newest z (number (recent p n)) ≡ reverse (recent p n)) (length_recent p n) (newest_number (recent p n))
newest_recent p (suc d) n =
    let a = around p (pos (length p) -ℤ pos (suc (d + n))) in
    let w = recent p (d + n) in
    let e : length w ≡ n + d = omega (arith, length_recent p (d + n)) in
    ap (λ z. newest n (number (recent p z))) (suc-add d n)
    ∙ ap (λ z. newest n (number z)) (recent_suc p (d + n))
    ∙ ap (λ z. newest n (bit a * 2 ^ z + number w)) e
    ∙ newest_skip n d (number w) a
    ∙ newest_recent p d n

pub newest_history : (m : ℕ) (p : List Bool) (n : ℕ) → n ≤ m → newest n (history_of m p) ≡ reverse (recent p n)
unfolding history_of
newest_history m p n h = let e : m ≡ (m - n) + n = omega arith in ap (λ z. newest n (number (recent p z))) e ∙ newest_recent p (m - n) n
