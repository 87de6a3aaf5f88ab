-- What numbering asks of the lent work area, and what it makes of it.
use Rattle.std.specs.Prelude.{◌≡◌, List, ℕ, ◌^◌, ◌≤◌, ◌<◌, get_or}
use Rattle.meaning.specs.declared.LimitSet.{LimitSet}
use Rattle.classes.specs.Area.{class_at, Within}
use Rattle.classes.specs.Classed.{Classed}
use Rattle.numbering.specs.Numbered.{Numbered}

-- n histories have the classes of some set
abbrev pub OfSomeSet : (n : ℕ) → List ℕ → Type 0
OfSomeSet n w = (s : LimitSet) × (m : ℕ) × (n ≡ 2 ^ m) × Classed s m w

-- each of n histories has a class no greater than it, which is its own class
pub record Ready (n : ℕ) (w : List ℕ) : Type 0 where
  pub no_greater : (h : ℕ) → h < n → class_at w h ≤ h
  pub own_class : (h : ℕ) → h < n → class_at w (class_at w h) ≡ class_at w h

-- numbering changes neither the classes of n histories nor anything past their four regions
pub record Kept (n : ℕ) (w w' : List ℕ) : Type 0 where
  pub within : Within n w w'
  pub classes_stay : (k : ℕ) → k < n → get_or w' k 0 ≡ get_or w k 0

-- whatever set the classes are of, its states are numbered
pub record NumberedFrom (n : ℕ) (w w' : List ℕ) (r : ℕ) : Type 0 where
  pub numbered : (s : LimitSet) (m : ℕ) → n ≡ 2 ^ m → Classed s m w → Numbered s m w' r
  pub kept : Kept n w w'
