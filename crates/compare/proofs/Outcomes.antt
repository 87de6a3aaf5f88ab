-- The outcomes of a history as a pattern: how many, what number they write, and that a short pattern with hits before it is what its history holds. Assumes nothing.
use mathlib.Core.Path.{◌≡◌, refl, sym, ap, ◌∙◌}
use mathlib.Core.Bool.{Bool, true}
use mathlib.Core.List.{List, [], ◌∷◌, ◌++◌, reverse, reverse-cons, reverse-reverse}
use Prim.Native.Nat.{ℕ, zero, suc, ◌+◌, ◌-◌, ◌/◌, ◌%◌, ◌^◌, ◌≤◌, ◌<◌}
use native.Mathlib.Nat.{pow-suc, zero-add, suc-add}
use native.Mathlib.Decide.{ℕ_discrete}
use native.Mathlib.Omega.{arith}
use mathlib.Core.Logic.{dite}
use borrow.Author.Tests.{eq-eqb, ne_eqb}
use lib.Dec.{eqb}
use lib.ListN.{length, replicate, length-append, length-replicate}
use lib.IntN.{pos, negsuc, ◌-ℤ◌}
use Rattle.patterns.specs.Outcome.{bit}
use Rattle.patterns.specs.Number.{number}
use Rattle.patterns.proofs.Numbers.{number_snoc, length_snoc}
use Rattle.meaning.specs.Window.{around, recent}
use Rattle.meaning.proofs.Decide.{neg_back}
use Rattle.meaning.proofs.MissMore.{recent_suc, from_end}
use Rattle.meaning.proofs.Witness.{window_itself}
use Rattle.history.specs.History.{history_of, newest}
use Rattle.history.proofs.Histories.{newest_number, newest_history}
use Rattle.compare.specs.Splits.{outcomes_of}

pub outcomes_suc : (n h : ℕ) → outcomes_of (suc n) h ≡ outcomes_of n (h / 2) ++ eqb (h % 2) 1 ∷ []
unfolding newest
outcomes_suc n h = reverse-cons (eqb (h % 2) 1) (newest n (h / 2))

pub outcomes_length : (n h : ℕ) → length (outcomes_of n h) ≡ n
unfolding newest
outcomes_length zero h = refl
outcomes_length (suc n) h = unfold newest in ap length (outcomes_suc n h) ∙ length_snoc (outcomes_of n (h / 2)) _ ∙ ap suc (outcomes_length n (h / 2))

pub odd_bit : (h : ℕ) → bit (eqb (h % 2) 1) ≡ h % 2
odd_bit h =
    dite (ℕ_discrete (h % 2) 1) (λ e. rw (eq-eqb (h % 2) 1 e) (omega arith)) (λ e. rw (ne_eqb (h % 2) 1 e) (omega arith))

pub outcomes_number : (n h : ℕ) → h < 2 ^ n → number (outcomes_of n h) ≡ h
unfolding newest
outcomes_number zero h l = omega arith
outcomes_number (suc n) h l =
    unfold newest in
    omega (arith, ap number (outcomes_suc n h), number_snoc (outcomes_of n (h / 2)) (eqb (h % 2) 1), odd_bit h, outcomes_number n (h / 2) (omega (arith, pow-suc 2 n)))

pub number_outcomes : (p : List Bool) → outcomes_of (length p) (number p) ≡ p
number_outcomes p = ap reverse (newest_number p) ∙ reverse-reverse p

-- the last outcomes of endless hits and then q, where q is no longer than they
pub recent_filled : (q : List Bool) (d : ℕ) → recent q (d + length q) ≡ replicate d true ++ q
recent_filled q zero =
    ap (recent q) (zero-add (length q))
    ∙ sym (from_end q (pos zero) (length q) (ap pos (zero-add (length q))))
    ∙ window_itself q
recent_filled q (suc d) =
    let n = d + length q in
    let e : suc n - suc d ≡ length q = omega arith in
    let i : pos (length q) -ℤ pos (suc n) ≡ negsuc d = ap (λ z. pos z -ℤ pos (suc n)) (sym e) ∙ neg_back d (suc n) (omega arith) in
    ap (recent q) (suc-add d (length q))
    ∙ recent_suc q n
    ∙ ap {B = List Bool} (λ z. z ∷ recent q n) (ap (around q) i)
    ∙ ap {B = List Bool} (λ z. true ∷ z) (recent_filled q d)

-- hits before a pattern add the largest number that has room above it
pub number_filled : (d : ℕ) (q : List Bool) → number (replicate d true ++ q) + 2 ^ length q ≡ 2 ^ (d + length q) + number q
number_filled zero q = omega (arith, ap (λ z. 2 ^ z) (zero-add (length q)))
number_filled (suc d) q =
    let l : length (replicate d true ++ q) ≡ d + length q = omega (arith, length-append (replicate d true) q, length-replicate d true) in
    omega (arith, number_filled d q, ap (λ z. 2 ^ z) l, ap (λ z. 2 ^ z) (suc-add d (length q)), pow-suc 2 (d + length q))

module _ (m : ℕ) (q : List Bool) (short : length q ≤ m) where
  fill : m ≡ (m - length q) + length q
  fill = omega arith

  pub recent_short : recent q m ≡ replicate (m - length q) true ++ q
  recent_short = ap (recent q) fill ∙ recent_filled q (m - length q)

  pub history_short : history_of m q + 2 ^ length q ≡ 2 ^ m + number q
  unfolding history_of
  history_short = omega (arith, ap number recent_short, number_filled (m - length q) q, ap (λ z. 2 ^ z) fill)

  pub outcomes_history : outcomes_of m (history_of m q) ≡ replicate (m - length q) true ++ q
  outcomes_history = ap reverse (newest_history m q m (omega arith)) ∙ reverse-reverse (recent q m) ∙ recent_short

  pub outcomes_history_short : outcomes_of (length q) (history_of m q) ≡ q
  outcomes_history_short =
      ap reverse (newest_history m q (length q) short)
      ∙ reverse-reverse (recent q (length q))
      ∙ ap (recent q) (sym (zero-add (length q)))
      ∙ recent_filled q zero
