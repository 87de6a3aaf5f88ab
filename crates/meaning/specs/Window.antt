-- RULES, Kept: "Let hits without end come before the pattern and after it."
use Rattle.std.specs.Prelude.{Bool, true, List, [], ◌∷◌, ℕ, zero, suc, length, get_or, ℤ, pos, negsuc, ◌-ℤ◌}
use Rattle.std.proofs.Math.IntN.{suc_ℤ}

-- the pattern at places 0, 1, 2, .., and hits at every other place of a two-way endless sequence
abbrev pub around : List Bool → ℤ → Bool
around p (pos n) = get_or p n true
around p (negsuc n) = true

-- the k outcomes of s from place i on
abbrev pub window : (ℤ → Bool) → ℤ → ℕ → List Bool
window s i zero = []
window s i (suc k) = s i ∷ window s (suc_ℤ i) k

-- the last n outcomes of endless hits and then p
abbrev pub recent : List Bool → ℕ → List Bool
recent p n = window (around p) (pos (length p) -ℤ pos n) n
