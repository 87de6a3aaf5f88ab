-- Hits and runs of hits don't depend on the direction in which outcomes are read, and the run at the start has the row or has no part in it. Assumes nothing.
use mathlib.Core.Path.{◌≡◌, refl, sym, ap, ◌∙◌, subst}
use mathlib.Core.Bool.{Bool, true, false, false≢true}
use mathlib.Core.List.{List, [], ◌∷◌, ◌++◌, reverse, reverse-cons, reverse-append, reverse-reverse, append_assoc}
use Prim.Native.Nat.{ℕ, zero, suc, ◌≤◌, ◌<◌}
use native.Mathlib.Omega.{arith}
use native.Mathlib.Numerals.{add-one}
use lib.Dec.{T}
use lib.ListN.{replicate, replicate-append-replicate}
use Rattle.meaning.specs.Holds.{hits, Run}
use Rattle.meaning.specs.Test.{starts_with, has_run}
use Rattle.meaning.proofs.MissMore.{hits_append}
use Rattle.meaning.proofs.Decide.{T_true, not_T_false, run_iff}

pub hits_reverse : (w : List Bool) → hits (reverse w) ≡ hits w
hits_reverse [] = refl
hits_reverse (true ∷ w) = omega (arith, ap hits (reverse-cons true w), hits_append (reverse w) (true ∷ []), hits_reverse w)
hits_reverse (false ∷ w) = omega (arith, ap hits (reverse-cons false w), hits_append (reverse w) (false ∷ []), hits_reverse w)

replicate_snoc : (n : ℕ) (b : Bool) → replicate n b ++ b ∷ [] ≡ replicate (suc n) b
replicate_snoc n b = replicate-append-replicate n 1 b ∙ ap (λ z. replicate z b) (add-one n)

pub reverse_replicate : (n : ℕ) (b : Bool) → reverse (replicate n b) ≡ replicate n b
reverse_replicate zero b = refl
reverse_replicate (suc n) b = reverse-cons b (replicate n b) ∙ ap (λ z. z ++ b ∷ []) (reverse_replicate n b) ∙ replicate_snoc n b

pub run_reverse : (x : ℕ) (w : List Bool) → Run x w → Run x (reverse w)
run_reverse x w (a, b, e) = (
  reverse b,
  reverse a,
  ap reverse e ∙ reverse-append a (replicate x true ++ b)
      ∙ ap (λ z. z ++ reverse a) (reverse-append (replicate x true) b ∙ ap (λ z. reverse b ++ z) (reverse_replicate x true))
      ∙ append_assoc (reverse b) (replicate x true) (reverse a),
)

pub run_unreverse : (x : ℕ) (w : List Bool) → Run x (reverse w) → Run x w
run_unreverse x w r = subst (λ z. Run x z) (reverse-reverse w) (run_reverse x (reverse w) r)

pub row_reverse : (x : ℕ) (w : List Bool) → has_run x (reverse w) ≡ has_run x w
row_reverse x w = same (has_run x (reverse w)) (has_run x w) there back
  where
    same : (a b : Bool) → (T a → T b) → (T b → T a) → a ≡ b
    same true b f g = sym (T_true b (f tt))
    same false b f g = sym (not_T_false b g)

    there : T (has_run x (reverse w)) → T (has_run x w)
    there t = (run_iff x w).1 (run_unreverse x w ((run_iff x (reverse w)).0 t))

    back : T (has_run x w) → T (has_run x (reverse w))
    back t = (run_iff x (reverse w)).1 (run_reverse x w ((run_iff x w).0 t))

run_zero : (w : List Bool) → has_run zero w ≡ true
run_zero [] = refl
run_zero (b ∷ w) = refl

-- a row of no hits stands everywhere
pub row_some : (x : ℕ) (w : List Bool) → has_run x w ≡ false → 0 < x
row_some zero w e = absurd (false≢true (sym e ∙ run_zero w))
row_some (suc x) w e = omega arith

-- misses at the start belong to no run
pub run_after_misses : (x n : ℕ) (w : List Bool) → has_run x (replicate n false ++ w) ≡ has_run x w
run_after_misses x zero w = refl
run_after_misses zero (suc n) w = sym (run_zero w)
run_after_misses (suc x) (suc n) w = run_after_misses (suc x) n w

starts_long : (x n : ℕ) (w : List Bool) → x ≤ n → starts_with x (replicate n true ++ w) ≡ true
starts_long zero n w h = refl
starts_long (suc x) zero w h = absurd (omega arith)
starts_long (suc x) (suc n) w h = starts_long x n w (omega arith)

-- a run at the start that is long enough has the row
pub run_long : (x n : ℕ) (w : List Bool) → x ≤ n → has_run x (replicate n true ++ w) ≡ true
run_long zero n w h = run_zero (replicate n true ++ w)
run_long (suc x) zero w h = absurd (omega arith)
run_long (suc x) (suc n) w h = rw (starts_long x n w (omega arith)) refl

starts_short : (x n : ℕ) (w : List Bool) → n < x → starts_with 1 w ≡ false → starts_with x (replicate n true ++ w) ≡ false
starts_short zero n w h e = absurd (omega arith)
starts_short (suc x) zero [] h e = refl
starts_short (suc x) zero (true ∷ w) h e = absurd (false≢true (sym e))
starts_short (suc x) zero (false ∷ w) h e = refl
starts_short (suc x) (suc n) w h e = starts_short x n w (omega arith) e

-- one that is too short, and that a miss or the end follows, has no part in it
pub run_short : (x n : ℕ) (w : List Bool) → n < x → starts_with 1 w ≡ false → has_run x (replicate n true ++ w) ≡ has_run x w
run_short x zero w h e = refl
run_short zero (suc n) w h e = absurd (omega arith)
run_short (suc x) (suc n) w h e = rw (starts_short x n w (omega arith) e) (run_short (suc x) n w (omega arith) e)

-- one run more, where a hit doesn't come after a hit
abbrev pub rise : (before o : Bool) → ℕ → ℕ
rise false true n = suc n
rise true true n = n
rise true false n = n
rise false false n = n

-- how many runs of hits begin in w, told whether a hit stands before it
unfoldable pub runs : Bool → List Bool → ℕ
runs before [] = zero
runs before (o ∷ w) = rise before o (runs o w)

pub runs_after_misses : (n : ℕ) (w : List Bool) → runs false (replicate n false ++ w) ≡ runs false w
unfolding runs
runs_after_misses zero w = refl
runs_after_misses (suc n) w = runs_after_misses n w

runs_same : (w : List Bool) → starts_with 1 w ≡ false → runs true w ≡ runs false w
unfolding runs
runs_same [] e = refl
runs_same (true ∷ w) e = absurd (false≢true (sym e))
runs_same (false ∷ w) e = refl

runs_within : (n : ℕ) (w : List Bool) → starts_with 1 w ≡ false → runs true (replicate n true ++ w) ≡ runs false w
unfolding runs
runs_within zero w e = runs_same w e
runs_within (suc n) w e = runs_within n w e

-- the run at the start is one of them
pub runs_first : (n : ℕ) (w : List Bool) → 0 < n → starts_with 1 w ≡ false → runs false (replicate n true ++ w) ≡ suc (runs false w)
unfolding runs
runs_first zero w h e = absurd (omega arith)
runs_first (suc n) w h e = ap suc (runs_within n w e)
