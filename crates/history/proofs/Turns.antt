-- What a turn of `Latest::has_row` leaves: the run that it looked at is the row, or what is left has the row exactly when all outcomes have it, and one run less. Assumes nothing.
use mathlib.Core.Path.{◌≡◌, refl, sym, ap, ◌∙◌, subst}
use mathlib.Core.Bool.{Bool, true, false, false≢true}
use mathlib.Core.List.{◌++◌}
use Prim.Native.Nat.{ℕ, zero, suc, ◌+◌, ◌-◌, ◌/◌, ◌%◌, ◌^◌, ◌≤◌, ◌<◌}
use native.Mathlib.Nat.{mod-lt, div-one, zero-add, suc-add, pow-suc}
use native.Mathlib.Omega.{arith}
use borrow.Author.Tests.{ne_eqb}
use lib.Count.{count_trailing_zeros}
use lib.Dec.{eqb}
use lib.ListN.{replicate}
use lib.Pow.{pow_pos, shr_lt}
use Rattle.meaning.specs.Test.{starts_with, has_run}
use Rattle.history.specs.History.{newest}
use Rattle.history.proofs.Bits.{newest_low, Begins, trailing_misses, trailing_run}
use Rattle.history.proofs.Runs.{run_after_misses, run_long, run_short, rise, runs, runs_after_misses, runs_first}

-- the row is to be found in what is left, the at most `size` outcomes of r
pub record Left (x n h r : ℕ) : Type 0 where
  pub size : ℕ
  pub short : size < 32
  pub below : r < 2 ^ size
  pub same : has_run x (newest n h) ≡ has_run x (newest size r)

pub left_first : (x n h : ℕ) → n < 32 → Left x n h (h % 2 ^ n)
left_first x n h l = record { size = n; short = l; below = mod-lt h (pow_pos n); same = ap (has_run x) (sym (newest_low n h)) }

ends : (d r : ℕ) → eqb (r % 2) 1 ≡ false → starts_with 1 (newest d r) ≡ false
unfolding newest
ends zero r e = refl
ends (suc d) r e = rw e refl

no_hits : (x d : ℕ) → has_run x (newest d 0) ≡ eqb x 0
unfolding newest
no_hits zero zero = refl
no_hits (suc x) zero = sym (ne_eqb (suc x) 0 (λ e. omega arith))
no_hits zero (suc d) = refl
no_hits (suc x) (suc d) = no_hits (suc x) d

pub left_end : (x n h r : ℕ) → Left x n h r → r ≡ 0 → has_run x (newest n h) ≡ eqb x 0
left_end x n h r q e = q.same ∙ ap (λ z. has_run x (newest q.size z)) e ∙ no_hits x q.size

cut_lt : (d k v : ℕ) → k ≤ d → v < 2 ^ d → v / 2 ^ k < 2 ^ (d - k)
cut_lt d k v l b = let e : d ≡ (d - k) + k = omega arith in shr_lt (d - k) k (subst (λ y. v < 2 ^ y) e b)

-- how many runs of hits a word has
abbrev pub runs_in : ℕ → ℕ
runs_in r = runs false (newest 32 r)

runs_none : (b : Bool) (e : ℕ) → runs b (newest e 0) ≡ 0
unfolding newest runs
runs_none b zero = refl
runs_none true (suc e) = runs_none false e
runs_none false (suc e) = runs_none false e

-- misses above its highest bit have none
runs_above : (b : Bool) (d e r : ℕ) → r < 2 ^ d → runs b (newest (d + e) r) ≡ runs b (newest d r)
unfolding newest runs
runs_above b zero e r h =
    let none : r ≡ 0 = omega arith in
    ap (λ y. runs b (newest y r)) (zero-add e) ∙ ap (λ y. runs b (newest e y)) none ∙ runs_none b e
runs_above b (suc d) e r h =
    let o = eqb (r % 2) 1 in
    ap (λ y. runs b (newest y r)) (suc-add d e) ∙ ap (rise b o) (runs_above o d e (r / 2) (omega (arith, pow-suc 2 d)))

runs_wide : (d r : ℕ) → d ≤ 32 → r < 2 ^ d → runs_in r ≡ runs false (newest d r)
runs_wide d r l h = let e : 32 ≡ d + (32 - d) = omega arith in ap (λ y. runs false (newest y r)) e ∙ runs_above false d (32 - d) r h

module _ (x n h r : ℕ) (q : Left x n h r) (some : 0 < r) where
  -- the newest misses, the outcomes before them, and the run of hits that is newest there
  abbrev z : ℕ
  z = count_trailing_zeros 32 r

  abbrev s : ℕ
  s = r / 2 ^ z

  abbrev t : ℕ
  t = count_trailing_zeros 32 (4294967295 - s)

  misses : Begins false q.size r z
  misses = trailing_misses 32 q.size r q.below (omega (arith, q.short)) some

  s_lt : s < 2 ^ (q.size - z)
  s_lt = cut_lt q.size z r misses.within q.below

  run : Begins true (q.size - z) s t
  run = trailing_run 32 (q.size - z) s s_lt (omega (arith, q.short))

  pub misses_fit : z < 32
  misses_fit = omega (arith, misses.within, q.short)

  pub run_fits : t < 32
  run_fits = omega (arith, run.within, q.short)

  run_in_front : has_run x (newest n h) ≡ has_run x (replicate t true ++ newest (q.size - z - t) (s / 2 ^ t))
  run_in_front = q.same ∙ ap (has_run x) misses.front ∙ run_after_misses x z (newest (q.size - z) s) ∙ ap (has_run x) run.front

  pub left_found : x ≤ t → has_run x (newest n h) ≡ true
  left_found l = run_in_front ∙ run_long x t (newest (q.size - z - t) (s / 2 ^ t)) l

  pub left_more : t < x → Left x n h (s / 2 ^ t)
  left_more l =
      let w = newest (q.size - z - t) (s / 2 ^ t) in
      record {
        size = q.size - z - t;
        short = omega (arith, q.short);
        below = cut_lt (q.size - z) t s run.within s_lt;
        same = run_in_front ∙ run_short x t w l (ends (q.size - z - t) (s / 2 ^ t) run.next);
      }

  -- what begins with a hit begins with a run of one at least
  run_some : (y : ℕ) → t ≡ y → 0 < y
  run_some zero e =
      let whole : s / 2 ^ t ≡ s = ap (λ y. s / 2 ^ y) e ∙ div-one s in
      absurd (false≢true (sym run.next ∙ ap (λ y. eqb (y % 2) 1) whole ∙ misses.next))
  run_some (suc y) e = omega arith

  -- the run that was looked at is one less to look at
  pub left_less : runs_in (s / 2 ^ t) < runs_in r
  left_less =
      let d = q.size in
      let w = newest (d - z - t) (s / 2 ^ t) in
      let e : runs_in r ≡ suc (runs false w) =
      runs_wide d r (omega (arith, q.short)) q.below
      ∙ ap (runs false) misses.front ∙ runs_after_misses z (newest (d - z) s)
      ∙ ap (runs false) run.front ∙ runs_first t w (run_some t refl) (ends (d - z - t) (s / 2 ^ t) run.next) in
      omega (arith, runs_wide (d - z - t) (s / 2 ^ t) (omega (arith, q.short)) (cut_lt (d - z) t s run.within s_lt))
