-- How many values are 0, counted one by one: a store at a zero leaves one less. Assumes nothing.
use mathlib.Core.Path.{◌≡◌, refl, ap, ap₂, ◌∙◌, sym, subst}
use mathlib.Core.Logic.{◌≢◌, dite}
use Prim.Native.Nat.{ℕ, zero, suc, ◌+◌, ◌-◌, ◌<◌}
use native.Mathlib.Decide.{ℕ_discrete}
use native.Mathlib.Omega.{arith}
use Rattle.numbering.specs.Rows.{zeros}

zeros_same : (f g : ℕ → ℕ) (n : ℕ) → ((k : ℕ) → k < n → g k ≡ f k) → zeros g n ≡ zeros f n
unfolding zeros
zeros_same f g zero h = refl
zeros_same f g (suc n) h = ap₂ (λ a b. (1 - a) + b) (h n (omega arith)) (zeros_same f g n (λ k l. h k (omega arith)))

pub zeros_one_less : (f g : ℕ → ℕ) (c n : ℕ) → c < n → f c ≡ 0 → 0 < g c → ((k : ℕ) → k < n → k ≢ c → g k ≡ f k)
    → zeros f n ≡ zeros g n + 1
unfolding zeros
zeros_one_less f g c zero l z p h = absurd (omega arith)
zeros_one_less f g c (suc n) l z p h = dite (ℕ_discrete n c)
    (λ e.
    let zn : f n ≡ 0 = ap f e ∙ z in
    let pn : 0 < g n = subst (λ x. 0 < g x) (sym e) p in
    omega (arith, zeros_same f g n (λ k kl. h k (omega arith) (omega arith))))
    (λ d. omega (arith, zeros_one_less f g c n (omega arith) z p (λ k kl. h k (omega arith)), h n (omega arith) d))

pub zeros_all : (f : ℕ → ℕ) (n : ℕ) → ((k : ℕ) → k < n → f k ≡ 0) → zeros f n ≡ n
unfolding zeros
zeros_all f zero h = refl
zeros_all f (suc n) h = omega (arith, h n (omega arith), zeros_all f n (λ k l. h k (omega arith)))
