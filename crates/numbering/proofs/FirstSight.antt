-- A class that has no number gets the first one not used, which is below the number of histories since a class without a number is counted as free. Assumes nothing.
use mathlib.Core.Path.{◌≡◌, ap, ◌∙◌}
use mathlib.Core.Logic.{◌≢◌, dite}
use mathlib.Core.List.{List}
use Prim.Native.Nat.{ℕ, ◌+◌, ◌-◌, ◌*◌, ◌≤◌, ◌<◌}
use native.Mathlib.Decide.{ℕ_discrete}
use native.Mathlib.Omega.{arith}
use borrow.Author.Count.{below_more}
use lib.ListN.{length, get_or, set, length-set}
use lib.Seq.{get_or-set_same, get_or-set_other}
use Rattle.classes.specs.Area.{used, class_at}
use Rattle.numbering.specs.Numbered.{number_at, class_of}
use Rattle.numbering.specs.Work.{Kept}
use Rattle.numbering.specs.Rows.{Ordered, Visited}
use Rattle.numbering.proofs.Zeros.{zeros_one_less}
use Rattle.numbering.proofs.Keeping.{kept_trans, kept_store, class_stays}

-- number v is stored for class c, and c in the order
module _ (n : ℕ) (w : List ℕ) (c v : ℕ) (long : used n ≤ length w) (below : c < n) (own : class_at w c ≡ c) (O : Ordered n w v)
    (free : number_at n w c ≡ 0) where
  pub number_below : v < n
  number_below =
      let g : ℕ → ℕ = λ k. number_at n (set w (2 * n + c) 1) k in
      let e : g c ≡ 1 = get_or-set_same w (2 * n + c) 1 0 (omega (arith, long)) in
      omega (
        arith,
        O.rest_free,
        zeros_one_less (number_at n w) g c n below free (omega arith)
            (λ k l d. get_or-set_other w (2 * n + c) (2 * n + k) 1 0 (omega arith)),
      )

  w₁ : List ℕ
  w₁ = set w (2 * n + c) (v + 1)

  w₂ : List ℕ
  unfolding w₁
  w₂ = set w₁ (3 * n + v) c

  at_other : (k : ℕ) → k ≢ 2 * n + c → k ≢ 3 * n + v → get_or w₂ k 0 ≡ get_or w k 0
  unfolding w₁ w₂
  at_other k d e = get_or-set_other w₁ (3 * n + v) k c 0 e ∙ get_or-set_other w (2 * n + c) k (v + 1) 0 d

  number_new : number_at n w₂ c ≡ v + 1
  unfolding w₁ w₂
  number_new =
      get_or-set_other w₁ (3 * n + v) (2 * n + c) c 0 (omega arith)
      ∙ get_or-set_same w (2 * n + c) (v + 1) 0 (omega (arith, long))

  order_new : class_of n w₂ v ≡ c
  unfolding w₁ w₂
  order_new = get_or-set_same w₁ (3 * n + v) c 0
      (omega (arith, length-set w (2 * n + c) (v + 1), number_below, long))

  kept_new : Kept n w w₂
  unfolding w₁ w₂
  kept_new = kept_trans
      (kept_store n w (2 * n + c) (v + 1) (omega arith) (omega arith))
      (kept_store n w₁ (3 * n + v) c (omega arith) (omega (arith, number_below)))

  number_stays : (k : ℕ) → k < n → k ≢ c → number_at n w₂ k ≡ number_at n w k
  number_stays k l d = at_other (2 * n + k) (omega arith) (omega arith)

  order_stays : (j : ℕ) → j < v → class_of n w₂ j ≡ class_of n w j
  order_stays j l = at_other (3 * n + j) (omega arith) (omega arith)

  -- a class in the order isn't c, which has no number
  not_c : (j : ℕ) → j < v → class_of n w j ≢ c
  not_c j l e = omega (arith, O.number_of_class j l, ap (number_at n w) e)

  -- what holds of the classes in the order, and of c, holds of the classes in the new order
  order_all : (P : ℕ → ℕ → Type 0) → ((j : ℕ) → j < v → P j (class_of n w j)) → P v c → (j : ℕ) → j < v + 1 → P j (class_of n w₂ j)
  order_all P old new = below_more (λ j. P j (class_of n w₂ j)) v
      (λ j l. rw (order_stays j l) (old j l)) (rw order_new new)

  number_all : (P : ℕ → ℕ → Type 0) → ((k : ℕ) → k < n → k ≢ c → P k (number_at n w k)) → P c (v + 1)
      → (k : ℕ) → k < n → P k (number_at n w₂ k)
  number_all P old new k l = dite (ℕ_discrete k c)
      (λ e. rw (e, number_new) new)
      (λ d. rw (number_stays k l d) (old k l d))

  ordered_new : Ordered n w₂ (v + 1)
  ordered_new = record {
    rest_free = omega (
      arith,
      O.rest_free,
      zeros_one_less (number_at n w) (number_at n w₂) c n below free (omega (arith, number_new)) number_stays,
    );
    histories = order_all (λ j b. b < n) O.histories below;
    own_class = order_all (λ j b. class_at w₂ b ≡ b)
        (λ j l. class_stays n w w₂ kept_new (class_of n w j) (O.histories j l) ∙ O.own_class j l)
        (class_stays n w w₂ kept_new c below ∙ own);
    number_of_class = order_all (λ j b. number_at n w₂ b ≡ j + 1)
        (λ j l. number_stays (class_of n w j) (O.histories j l) (not_c j l) ∙ O.number_of_class j l)
        number_new;
    no_more = number_all (λ b u. u ≤ v + 1) (λ b l d. omega (arith, O.no_more b l)) (omega arith);
    class_of_number = number_all (λ b u. 1 ≤ u → class_of n w₂ (u - 1) ≡ b)
        (λ b l d p. order_stays (number_at n w b - 1) (omega (arith, O.no_more b l)) ∙ O.class_of_number b l p)
        (λ p. let e : v + 1 - 1 ≡ v = omega arith in ap (class_of n w₂) e ∙ order_new);
  }

  pub visited_new : Visited n w (set (set w (2 * n + c) (v + 1)) (3 * n + v) c) c v (v + 1)
  unfolding w₁ w₂
  visited_new = record {
    kept = kept_new;
    ordered = ordered_new;
    grows = omega arith;
    order_stays = order_stays;
    numbers_stay = λ b l p. number_stays b l (λ e. omega (arith, ap (number_at n w) e));
    numbered = omega (arith, number_new);
    new_number = λ t a b. omega (arith, number_new);
  }
