-- What the work area holds while classes are numbered: the table is read row by row, each row the miss and then the hit, and the entries at places below p have been read.
use Rattle.std.specs.Prelude.{◌≡◌, Bool, true, false, List, ℕ, zero, suc, ◌+◌, ◌-◌, ◌≤◌, ◌<◌}
use Rattle.machines.specs.Numbering.{place}
use Rattle.classes.specs.Area.{class_at, next_class, may_at}
use Rattle.numbering.specs.Numbered.{number_at, class_of}
use Rattle.numbering.specs.Work.{Ready, Kept}

-- no class of n histories is numbered
pub record Cleared (n : ℕ) (w w' : List ℕ) : Type 0 where
  pub kept : Kept n w w'
  pub cleared : (c : ℕ) → c < n → number_at n w' c ≡ 0

-- how many of the first n values of f are 0
unfoldable pub zeros : (ℕ → ℕ) → ℕ → ℕ
zeros f zero = 0
zeros f (suc n) = (1 - f n) + zeros f n

-- count classes are numbered: the numbers and the order say the same
pub record Ordered (n : ℕ) (w : List ℕ) (count : ℕ) : Type 0 where
  pub rest_free : count + zeros (number_at n w) n ≡ n
  pub histories : (j : ℕ) → j < count → class_of n w j < n
  pub own_class : (j : ℕ) → j < count → class_at w (class_of n w j) ≡ class_of n w j
  pub number_of_class : (j : ℕ) → j < count → number_at n w (class_of n w j) ≡ j + 1
  pub no_more : (c : ℕ) → c < n → number_at n w c ≤ count
  pub class_of_number : (c : ℕ) → c < n → 1 ≤ number_at n w c → class_of n w (number_at n w c - 1) ≡ c

-- class c is numbered, where it wasn't with the first number not used yet
pub record Visited (n : ℕ) (w w' : List ℕ) (c count r : ℕ) : Type 0 where
  pub kept : Kept n w w'
  pub ordered : Ordered n w' r
  pub grows : count ≤ r
  pub order_stays : (j : ℕ) → j < count → class_of n w' j ≡ class_of n w j
  pub numbers_stay : (b : ℕ) → b < n → 1 ≤ number_at n w b → number_at n w' b ≡ number_at n w b
  pub numbered : 1 ≤ number_at n w' c
  pub new_number : (t : ℕ) → count ≤ t → t < r → number_at n w' c ≡ t + 1

-- whether outcome o is possible after history h
abbrev pub possible : List ℕ → ℕ → Bool → Bool
possible w h true = true
possible w h false = may_at w h

-- the class that outcome o leads to from row s, with n histories
abbrev pub class_after : (n : ℕ) → List ℕ → ℕ → Bool → ℕ
class_after n w s o = next_class w n (class_of n w s) o

-- row s leads to state t under outcome o
pub record Leads (n : ℕ) (w : List ℕ) (s t : ℕ) (o : Bool) : Type 0 where
  pub may : possible w (class_of n w s) o ≡ true
  pub there : number_at n w (class_after n w s o) ≡ t + 1

-- state t appears first in row s under outcome o: earlier entries lead to lower states
pub record Found (n : ℕ) (w : List ℕ) (p t s : ℕ) (o : Bool) : Type 0 where
  pub read : place s o < p
  pub row_before : s < t
  pub here : Leads n w s t o
  pub lower_before : (r u : ℕ) (x : Bool) → place r x < place s o → Leads n w r u x → u < t

pub record Numbering (n : ℕ) (w : List ℕ) (count p : ℕ) : Type 0 where
  pub ready : Ready n w
  pub ordered : Ordered n w count
  pub some_state : 1 ≤ count
  pub start : class_of n w 0 ≡ class_at w (n - 1)
  pub closed : (s : ℕ) (o : Bool) → s < count → place s o < p → possible w (class_of n w s) o ≡ true
      → 1 ≤ number_at n w (class_after n w s o)
  pub found : (t : ℕ) → 1 ≤ t → t < count → (s : ℕ) × (o : Bool) × Found n w p t s o

-- from count states to r, with the entries at places below p read
pub record ReadTo (n : ℕ) (w w' : List ℕ) (count r p : ℕ) : Type 0 where
  pub numbering : Numbering n w' r p
  pub kept : Kept n w w'
  pub grows : count ≤ r
