-- The order of places: of two that differ one is the earlier, and it is so many steps before the other. Assumes nothing.
use mathlib.Core.Path.{◌≡◌, sym, ap, ◌∙◌}
use mathlib.Core.Logic.{◌⊎◌, inl, inr, ⊎_elim, dite}
use mathlib.Core.Bool.{cond}
use Prim.Native.Nat.{ℕ, suc, ◌+◌, ◌-◌, ◌≤◌, ◌<◌}
use native.Mathlib.Decide.{dec_lt}
use native.Mathlib.Omega.{arith}
use lib.Dec.{ltb→lt, lt→ltb}
use lib.IntN.{ℤ, pos, negsuc, nat_abs, ◌+ℤ◌, ◌-ℤ◌, +ℤ_assoc, +ℤ_comm, +ℤ-neg_ℤ_cancel, -ℤ-+ℤ_cancel}
use lib.Signed.{◌<ℤ◌, lt_z_yes}
use borrow.Author.Tests.{lt-ltb, le-ltb}

one_is_earlier : (a b : ℤ) → (a <ℤ b) ⊎ ((a ≡ b) ⊎ (b <ℤ a))
one_is_earlier (pos a) (pos b) =
    dite (dec_lt a b) (λ h. inl (lt_z_yes (lt→ltb a b h)))
    (λ h. inr (dite (dec_lt b a) (λ g. inr (lt_z_yes (lt→ltb b a g))) (λ g. let e : a ≡ b = omega arith in inl (ap pos e))))
one_is_earlier (pos a) (negsuc b) = inr (inr (lt_z_yes tt))
one_is_earlier (negsuc a) (pos b) = inl (lt_z_yes tt)
one_is_earlier (negsuc a) (negsuc b) =
    dite (dec_lt b a) (λ h. inl (lt_z_yes (lt→ltb b a h)))
    (λ h. inr (dite (dec_lt a b) (λ g. inr (lt_z_yes (lt→ltb a b g))) (λ g. let e : a ≡ b = omega arith in inl (ap negsuc e))))

-- neither is the earlier
pub same_place : (a b : ℤ) → (a <ℤ b → ⊥) → (b <ℤ a → ⊥) → a ≡ b
same_place a b f g = ⊎_elim (λ h. absurd (f h)) (⊎_elim (λ e. e) (λ h. absurd (g h))) (one_is_earlier a b)

pub earlier_by : (a b : ℤ) → a <ℤ b → (d : ℕ) × (a +ℤ pos (suc d) ≡ b)
earlier_by (pos a) (pos b) h =
    let l = ltb→lt a b h.lt in
    let e : a + suc (b - suc a) ≡ b = omega arith in
    (b - suc a, ap pos e)
earlier_by (pos a) (negsuc b) h = absurd h.lt
earlier_by (negsuc a) (pos b) h =
    let e : suc (a + b) - suc a ≡ b = omega arith in
    (a + b, ap (λ z. cond z (negsuc (suc a - suc (suc (a + b)))) (pos (suc (a + b) - suc a))) (le-ltb (suc (a + b)) (suc a) (omega arith)) ∙ ap pos e)
earlier_by (negsuc a) (negsuc b) h =
    let l = ltb→lt b a h.lt in
    let d = a - suc b in
    let e : suc a - suc (suc d) ≡ b = omega arith in
    (d, ap (λ z. cond z (negsuc (suc a - suc (suc d))) (pos (suc d - suc a))) (lt-ltb (suc d) (suc a) (omega arith)) ∙ ap negsuc e)

pub steps_swap : (a b c : ℤ) → a +ℤ b +ℤ c ≡ a +ℤ c +ℤ b
steps_swap a b c = +ℤ_assoc a b c ∙ ap (λ z. a +ℤ z) (+ℤ_comm b c) ∙ sym (+ℤ_assoc a c b)

-- the same number of steps from the same place
pub steps_from : (a : ℤ) (m n : ℕ) → a +ℤ pos m ≡ a +ℤ pos n → m ≡ n
steps_from a m n e =
    let back : (k : ℕ) → a +ℤ pos k -ℤ a ≡ pos k = λ k. ap (λ z. z -ℤ a) (+ℤ_comm a (pos k)) ∙ +ℤ-neg_ℤ_cancel (pos k) a in
    ap nat_abs (sym (back m) ∙ ap (λ z. z -ℤ a) e ∙ back n)

-- the same number of steps to the same place
steps_to : (a b : ℤ) (n : ℕ) → a +ℤ pos n ≡ b +ℤ pos n → a ≡ b
steps_to a b n e = sym (+ℤ-neg_ℤ_cancel a (pos n)) ∙ ap (λ z. z -ℤ pos n) e ∙ +ℤ-neg_ℤ_cancel b (pos n)

-- Place a lies d + 1 before j - k: it is where the test's window j - (d + 1) begins, and where there is none it lies more than k before place 0.
module _ (a : ℤ) (d j k : ℕ) (e : a +ℤ pos (suc d) ≡ pos j -ℤ pos k) where
  to_j : a +ℤ pos (suc d + k) ≡ pos j
  to_j = sym (+ℤ_assoc a (pos (suc d)) (pos k)) ∙ ap (λ z. z +ℤ pos k) e ∙ -ℤ-+ℤ_cancel (pos j) (pos k)

  pub place_counted : d < j → a ≡ pos (j - suc d) -ℤ pos k
  place_counted h =
      let whole : (j - suc d) + suc d ≡ j = omega arith in
      let turned : suc d + k ≡ k + suc d = omega arith in
      steps_to a (pos (j - suc d) -ℤ pos k) (suc d + k)
      (to_j ∙ sym (ap (λ z. (pos (j - suc d) -ℤ pos k) +ℤ pos z) turned
      ∙ sym (+ℤ_assoc (pos (j - suc d) -ℤ pos k) (pos k) (pos (suc d)))
      ∙ ap (λ z. z +ℤ pos (suc d)) (-ℤ-+ℤ_cancel (pos (j - suc d)) (pos k)) ∙ ap pos whole))

  pub place_before : j ≤ d → a ≡ negsuc (k + (d - j))
  place_before h =
      let n = k + (d - j) in
      let less : (suc d + k) - suc n ≡ j = omega arith in
      steps_to a (negsuc n) (suc d + k)
      (to_j ∙ sym (ap (λ z. cond z (negsuc (suc n - suc (suc d + k))) (pos ((suc d + k) - suc n))) (le-ltb (suc d + k) (suc n) (omega arith)) ∙ ap pos less))
