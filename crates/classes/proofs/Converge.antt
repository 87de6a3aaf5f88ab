-- Histories of m outcomes that m jobs don't tell apart are the same: each job makes one low bit more of the two equal, so after m jobs they are one history. Assumes nothing.
use mathlib.Core.Path.{◌≡◌, sym, ap, ◌∙◌, subst}
use mathlib.Core.Option.{none, some, none-ne-some, some-injective}
use mathlib.Core.Bool.{Bool, true, false, cond}
use Prim.Native.Nat.{ℕ, zero, suc, ◌+◌, ◌*◌, ◌/◌, ◌%◌, ◌^◌, ◌<◌}
use native.Mathlib.Nat.{mod-lt, mod-eq_of_lt}
use native.Mathlib.Omega.{arith}
use lib.Pow.{pow_pos, ones_lt, mod-pow-add, mod-mod-pow}
use Rattle.patterns.specs.Outcome.{bit}
use Rattle.patterns.proofs.Numbers.{bit_le}
use Rattle.machines.specs.Machine.{WellMade}
use Rattle.machines.specs.Same.{Same, SameTo}
use Rattle.machines.proofs.Rounds.{SameNext, both_blocked, both_move, same_step, same_all, same_to_refl}
use Rattle.meaning.specs.declared.LimitSet.{LimitSet}
use Rattle.history.specs.History.{pushed}
use Rattle.history.specs.MayMiss.{may_miss}
use Rattle.history.specs.Machine.{history_next, history_machine}

-- an outcome makes the low bits one more
pushed_low : (i j a : ℕ) (o : Bool) → pushed (j + (i + 1)) a o % 2 ^ (i + 1) ≡ (a % 2 ^ i) * 2 + bit o
pushed_low i j a o =
    let n = a * 2 + bit o in
    let e : n / 2 ≡ a = omega (arith, bit_le o) in
    let r : n % 2 ≡ bit o = omega (arith, bit_le o) in
    mod-mod-pow n j (i + 1) ∙ mod-pow-add n i 1 ∙ ap (λ z. (z % 2 ^ i) * 2 + n % 2) e ∙ ap (λ z. (a % 2 ^ i) * 2 + z) r

pub pushed_lt : (m a : ℕ) (o : Bool) → pushed m a o < 2 ^ m
pushed_lt m a o = mod-lt (a * 2 + bit o) (pow_pos m)

module _ (s : LimitSet) (m : ℕ) where
  next_pushed : (a c : ℕ) (o : Bool) → history_next s m a o ≡ some c → pushed m a o ≡ c
  next_pushed a c true e = some-injective (pushed m a true) c e
  next_pushed a c false e = go (may_miss s a) e
    where
      go : (b : Bool) → cond b (some (pushed m a false)) none ≡ some c → pushed m a false ≡ c
      go true e = some-injective (pushed m a false) c e
      go false e = absurd (none-ne-some c e)

  next_lt : (a c : ℕ) (o : Bool) → history_next s m a o ≡ some c → c < 2 ^ m
  next_lt a c o e = subst (λ z. z < 2 ^ m) (next_pushed a c o e) (pushed_lt m a o)

  pub history_well_made : WellMade (history_machine s m)
  history_well_made = record { start_below = ones_lt m; next_below = λ a c o h e. next_lt a c o e }

  next_low : (i j a b c d : ℕ) (o : Bool) → m ≡ suc j + i → a % 2 ^ i ≡ b % 2 ^ i
      → history_next s m a o ≡ some c → history_next s m b o ≡ some d → c % 2 ^ (i + 1) ≡ d % 2 ^ (i + 1)
  next_low i j a b c d o e q f g =
      ap (λ z. z % 2 ^ (i + 1)) (sym (next_pushed a c o f))
      ∙ at a
      ∙ ap (λ z. z * 2 + bit o) q
      ∙ sym (at b)
      ∙ ap (λ z. z % 2 ^ (i + 1)) (next_pushed b d o g)
    where
      at : (x : ℕ) → pushed m x o % 2 ^ (i + 1) ≡ (x % 2 ^ i) * 2 + bit o
      at x = let k : m ≡ j + (i + 1) = omega arith in ap (λ z. pushed z x o % 2 ^ (i + 1)) k ∙ pushed_low i j x o

  same_from_low : (j i a b : ℕ) → m ≡ j + i → a < 2 ^ m → b < 2 ^ m → a % 2 ^ i ≡ b % 2 ^ i
      → SameTo (history_machine s m) j a b → (n : ℕ) → SameTo (history_machine s m) n a b
  same_from_low zero i a b e ha hb q t n =
      let k : m ≡ i = omega arith in
      let at : (x : ℕ) → x < 2 ^ m → x % 2 ^ i ≡ x = λ x h. mod-eq_of_lt (subst (λ z. x < 2 ^ z) k h) in
      subst (λ z. SameTo (history_machine s m) n a z) (sym (at a ha) ∙ q ∙ at b hb) (same_to_refl (history_machine s m) n a)
  same_from_low (suc j) i a b e ha hb q t zero = λ p h. t p (omega arith)
  same_from_low (suc j) i a b e ha hb q t (suc n) =
      (same_step (history_machine s m) n a b).1 (λ o. go o ((same_step (history_machine s m) j a b).0 t o)
      (λ c d. same_from_low j (i + 1) c d (omega arith)))
    where
      go : (o : Bool) → SameNext (history_machine s m) j (history_next s m a o) (history_next s m b o)
          → ((c d : ℕ) → c < 2 ^ m → d < 2 ^ m → c % 2 ^ (i + 1) ≡ d % 2 ^ (i + 1)
          → SameTo (history_machine s m) j c d → (n : ℕ) → SameTo (history_machine s m) n c d)
          → SameNext (history_machine s m) n (history_next s m a o) (history_next s m b o)
      go o (both_blocked f g) ih = both_blocked f g
      go o (both_move c d f g u) ih =
          both_move c d f g (ih c d (next_lt a c o f) (next_lt b d o g) (next_low i j a b c d o e q f g) u n)

  pub same_in_m : (a b : ℕ) → a < 2 ^ m → b < 2 ^ m → SameTo (history_machine s m) m a b → Same (history_machine s m) a b
  same_in_m a b ha hb t = (same_all (history_machine s m) a b).0 (same_from_low m 0 a b (omega arith) ha hb (omega arith) t)
