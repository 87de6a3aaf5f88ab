-- RULES, Order of patterns: "The pattern with fewer jobs comes first. Where two have equally many, look at the first place at which they differ: the one with the miss there comes first."
use Rattle.std.specs.Prelude.{◌≡◌, Bool, true, false, List, ◌∷◌, ◌++◌, ◌<◌, length}

-- p has a miss, and q a hit, at the first place where they differ
abbrev pub MissFirst : List Bool → List Bool → Type 0
MissFirst p q =
    (same : List Bool) × (rest : List Bool) × (other : List Bool)
    × (p ≡ same ++ (false ∷ rest)) × (q ≡ same ++ (true ∷ other))

-- p is q, or comes before it
pub data NoLater (p q : List Bool) : Type 0 where
  same : p ≡ q → NoLater p q
  shorter : length p < length q → NoLater p q
  miss_first : length p ≡ length q → MissFirst p q → NoLater p q
