-- RULES, Bytes of a night log: "the length field, 5 and the bytes that the outcomes take", "the version, 1", "how many outcomes there are", and "the outcomes, eight to a byte, the oldest in the high bit; the low bits of the last byte that no outcome takes are zero".
use Rattle.std.specs.Prelude.{Bool, false, List, [], ◌∷◌, ◌++◌, ℕ, zero, suc, ◌+◌, ◌-◌, ◌*◌, ◌/◌, ◌%◌, ◌^◌, length, get_or}
use Rattle.layout.specs.Bytes.{byte_at, four_at, four_bytes}
use Rattle.patterns.specs.Outcome.{outcome}
use Rattle.patterns.specs.Number.{number}

-- how many bytes n outcomes take
abbrev pub packed_size : ℕ → ℕ
packed_size n = (n + 7) / 8

-- and the whole log
abbrev pub size_of : ℕ → ℕ
size_of n = 9 + packed_size n

-- outcome i; past the last one a zero bit
abbrev pub outcome_at : List Bool → ℕ → Bool
outcome_at p i = get_or p i false

-- the byte of the eight outcomes from outcome i on
abbrev pub byte_from : List Bool → ℕ → ℕ
byte_from p i =
    number
    (outcome_at p i ∷ outcome_at p (i + 1) ∷ outcome_at p (i + 2) ∷ outcome_at p (i + 3)
    ∷ outcome_at p (i + 4) ∷ outcome_at p (i + 5) ∷ outcome_at p (i + 6) ∷ outcome_at p (i + 7) ∷ [])

-- a half of it: the four outcomes from outcome i on
abbrev pub half_from : List Bool → ℕ → ℕ
half_from p i = number (outcome_at p i ∷ outcome_at p (i + 1) ∷ outcome_at p (i + 2) ∷ outcome_at p (i + 3) ∷ [])

-- the n bytes from byte j on
unfoldable pub packed : List Bool → (j n : ℕ) → List ℕ
packed p j zero = []
packed p j (suc n) = byte_from p (8 * j) ∷ packed p (suc j) n

-- the length field, the version and the count of a log of n outcomes
abbrev pub head_bytes : ℕ → List ℕ
head_bytes n = four_bytes (5 + packed_size n) ++ (1 ∷ four_bytes n)

-- the log of a pattern
abbrev pub log_of : List Bool → List ℕ
log_of p = head_bytes (length p) ++ packed p 0 (packed_size (length p))

-- how many outcomes bytes hold
abbrev pub count_of : List ℕ → ℕ
count_of b = four_at b 5

-- outcome i of the bytes: of byte 9 + i / 8 the bit that is i % 8 below the high one
abbrev pub outcome_in : List ℕ → ℕ → Bool
outcome_in b i = outcome (byte_at b (9 + i / 8) / 2 ^ (7 - i % 8) % 2)

-- the n outcomes from outcome i on
unfoldable pub outcomes_in : List ℕ → (i n : ℕ) → List Bool
outcomes_in b i zero = []
outcomes_in b i (suc n) = outcome_in b i ∷ outcomes_in b (suc i) n

-- the outcomes that bytes hold
abbrev pub outcomes_of : List ℕ → List Bool
outcomes_of b = outcomes_in b 0 (count_of b)
