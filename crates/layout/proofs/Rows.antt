-- How the first row that holds is found: a row that holds is the answer, a row that doesn't hands on to the next; and which numbers a table of rows can give. Assumes nothing.
use mathlib.Core.Path.{◌≡◌, refl, sym, ap, ◌∙◌, subst}
use mathlib.Core.Bool.{Bool, true, false, cond, ◌||◌, true≢false}
use mathlib.Core.List.{List, [], ◌∷◌, ◌++◌}
use Prim.Native.Nat.{ℕ, ◌≤◌, ◌<◌}
use native.Mathlib.Omega.{arith}
use borrow.Author.Tests.{lt-ltb, le-ltb}
use lib.Dec.{ltb}
use Rattle.layout.specs.Refusal.{Row, row, Tested, passed, refused, first}

-- a first answer, and where it is passed a second
abbrev pub and_then : Tested → Tested → Tested
and_then passed t = t
and_then (refused n v) t = refused n v

pub first_here : (n v : ℕ) (h : Bool) (rows : List Row) → h ≡ true → first (row n h v ∷ rows) ≡ refused n v
unfolding first
first_here n v h rows e = rw e

pub first_skip : (n v : ℕ) (h : Bool) (rows : List Row) → h ≡ false → first (row n h v ∷ rows) ≡ first rows
unfolding first
first_skip n v h rows e = rw e

-- one row, and no other, that asks for a length
pub too_short : (number at has needs : ℕ) → has < needs → first (row number (ltb has needs) at ∷ []) ≡ refused number at
too_short number at has needs h = first_here number at _ [] (lt-ltb has needs h)

pub long_enough : (number at has needs : ℕ) → needs ≤ has → first (row number (ltb has needs) at ∷ []) ≡ passed
unfolding first
long_enough number at has needs h = first_skip number at _ [] (le-ltb has needs h)

pub passed_not_refused : {n v : ℕ} → passed ≡ refused n v → ⊥
passed_not_refused e = let z : ◌≡◌ {A = ℕ} 0 1 = cc in omega arith

-- where all rows have been passed, the first of them did not hold, and the others have been passed
pub passed_first : (r : Row) (rows : List Row) → first (r ∷ rows) ≡ passed → (r.holds ≡ false) × (first rows ≡ passed)
unfolding first
passed_first r rows e = go r.holds e
  where
    go : (h : Bool) → cond h (refused r.number r.at) (first rows) ≡ passed → (h ≡ false) × (first rows ≡ passed)
    go true q = absurd (passed_not_refused (sym q))
    go false q = (refl, q)

-- the rows of a and then those of b
pub first_append : (a b : List Row) → first (a ++ b) ≡ and_then (first a) (first b)
unfolding first
first_append [] b = refl
first_append (r ∷ a) b = go r.holds (first_append a b)
  where
    go : (h : Bool) → first (a ++ b) ≡ and_then (first a) (first b) → cond h (refused r.number r.at) (first (a ++ b)) ≡ and_then (cond h (refused r.number r.at) (first a)) (first b)
    go true e = refl
    go false e = e

-- what decides a first part decides all, and where it is passed the second part does
module _ (a b : List Row) where
  pub refused_before : {number at : ℕ} → first a ≡ refused number at → first (a ++ b) ≡ refused number at
  refused_before e = first_append a b ∙ ap (λ t. and_then t (first b)) e

  pub passed_before : first a ≡ passed → first (a ++ b) ≡ first b
  passed_before e = first_append a b ∙ ap (λ t. and_then t (first b)) e

pub both_passed : (a b : List Row) → first (a ++ b) ≡ passed → (first a ≡ passed) × (first b ≡ passed)
both_passed a b e = go (first a) refl (sym (first_append a b) ∙ e)
  where
    go : (t : Tested) → first a ≡ t → and_then (first a) (first b) ≡ passed → (first a ≡ passed) × (first b ≡ passed)
    go passed f g = (f, sym (ap (λ z. and_then z (first b)) f) ∙ g)
    go (refused n v) f g = absurd (passed_not_refused (sym g ∙ ap (λ z. and_then z (first b)) f))

-- a row of two conditions does not hold where neither does
pub or_none : (a b : Bool) → (a || b) ≡ false → (a ≡ false) × (b ≡ false)
or_none true b e = absurd (true≢false e)
or_none false b e = (refl, e)

-- the number of every row is one of P
abbrev pub Numbers : (ℕ → Type 0) → List Row → Type 0
Numbers P [] = Unit {0}
Numbers P (r ∷ rows) = P r.number × Numbers P rows

abbrev pub FromTo : (low high n : ℕ) → Type 0
FromTo low high n = (low ≤ n) × (n ≤ high)

-- the first row that holds is one of the rows
pub first_number : (P : ℕ → Type 0) (rows : List Row) (n v : ℕ) → Numbers P rows → first rows ≡ refused n v → P n
unfolding first
first_number P [] n v f e = absurd (passed_not_refused e)
first_number P (r ∷ rows) n v (p, f) e = go r.holds e (first_number P rows n v f)
  where
    go : (b : Bool) → cond b (refused r.number r.at) (first rows) ≡ refused n v → (first rows ≡ refused n v → P n) → P n
    go true q ih = let z : r.number ≡ n = cc in subst P z p
    go false q ih = ih q

pub numbers_append : (P : ℕ → Type 0) (a b : List Row) → Numbers P a → Numbers P b → Numbers P (a ++ b)
numbers_append P [] b f g = g
numbers_append P (r ∷ a) b (p, f) g = (p, numbers_append P a b f g)

pub numbers_among : (P Q : ℕ → Type 0) → ((n : ℕ) → P n → Q n) → (rows : List Row) → Numbers P rows → Numbers Q rows
numbers_among P Q t [] f = tt
numbers_among P Q t (r ∷ rows) (p, f) = (t r.number p, numbers_among P Q t rows f)
