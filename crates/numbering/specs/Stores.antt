-- What a method stores in the area that it is lent.
use Rattle.std.specs.Prelude.{◌≡◌, List, ℕ}
use Rattle.numbering.specs.declared.Numbers.{Numbers}

-- it holds the same reference, for as many histories, and P tells of what stood there before and stands there now, and of how many classes were numbered and are
pub record Stores (P : (n : ℕ) → (w w' : List ℕ) → (count r : ℕ) → Type 0) (a a' : Numbers) : Type 0 where
  pub buffer : a'.work.ghost_name ≡ a.work.ghost_name
  pub histories : a'.n ≡ a.n
  pub stored : P a.n a.work.now a'.work.now a.count a'.count
