-- What the writer of the table asks of a numbered work area, with n histories.
use Rattle.std.specs.Prelude.{◌≡◌, true, false, List, ℕ, ◌≤◌, ◌<◌, length}
use Rattle.classes.specs.Area.{used, high, class_at, may_at}
use Rattle.numbering.specs.Numbered.{class_of, number_after}

-- the histories have classes among them, and the area has room
pub record Entries (n : ℕ) (w : List ℕ) : Type 0 where
  pub some_history : 1 ≤ n
  pub fits : n ≤ high
  pub room : used n ≤ length w
  pub no_greater : (h : ℕ) → h < n → class_at w h ≤ h

-- what the writer asks of the work area: every move of its count states leads to a numbered class
pub record Writable (n : ℕ) (w : List ℕ) (count : ℕ) : Type 0 where
  pub entries : Entries n w
  pub no_more : count ≤ n
  pub histories : (j : ℕ) → j < count → class_of n w j < n
  pub hits : (j : ℕ) → j < count → 1 ≤ number_after w n (class_of n w j) true
  pub misses : (j : ℕ) → j < count → may_at w (class_of n w j) ≡ true → 1 ≤ number_after w n (class_of n w j) false
