-- RULES, Limits: the column "holds in a window when".
use Rattle.std.specs.Prelude.{◌≡◌, Bool, true, false, List, [], ◌∷◌, ◌++◌, ℕ, zero, suc, ◌≤◌, length, replicate}
use Rattle.meaning.specs.Limit.{Rule, any_hit, row_hit, any_miss, row_miss}

abbrev pub hits : List Bool → ℕ
hits [] = zero
hits (true ∷ w) = suc (hits w)
hits (false ∷ w) = hits w

abbrev pub misses : List Bool → ℕ
misses [] = zero
misses (true ∷ w) = misses w
misses (false ∷ w) = suc (misses w)

-- "somewhere in it x hits follow each other without a miss"
abbrev pub Run : ℕ → List Bool → Type 0
Run x w = (a : List Bool) × (b : List Bool) × (w ≡ a ++ (replicate x true ++ b))

abbrev pub AllMisses : List Bool → Type 0
AllMisses w = w ≡ replicate (length w) false

abbrev pub Holds : Rule → List Bool → Type 0
Holds (any_hit x k) w = x ≤ hits w
Holds (row_hit x k) w = Run x w
Holds (any_miss x k) w = misses w ≤ x
Holds (row_miss x) w = AllMisses w → ⊥
