-- A pattern as a number: its outcomes are the binary digits. RULES, Outcomes and patterns: "the newest outcome is its lowest bit".
use Rattle.std.specs.Prelude.{Bool, List, [], ◌∷◌, ℕ, ◌+◌, ◌*◌, ◌^◌, length}
use Rattle.patterns.specs.Outcome.{bit}

abbrev pub number : List Bool → ℕ
number [] = 0
number (b ∷ p) = bit b * 2 ^ length p + number p

-- with a digit 1 before them the digits also say how many they are: the patterns in order have the codes 1, 2, 3, ..
abbrev pub code : List Bool → ℕ
code p = 2 ^ length p + number p
