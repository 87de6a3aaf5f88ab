-- RULES, Bytes of a set: "the length field, 2+3c", "the version, 1", "c, how many limits there are, 1 to 8", and for each limit "its kind, its x, its k".
use Rattle.std.specs.Prelude.{◌≡◌, List, [], ◌∷◌, ◌++◌, ℕ, zero, suc, ◌+◌, ◌-◌, ◌*◌, ◌≤◌, length, replicate}
use Rattle.layout.specs.Bytes.{byte_at}
use Rattle.meaning.specs.declared.Limit.{Limit}
use Rattle.meaning.specs.declared.LimitSet.{LimitSet}
use Rattle.meaning.specs.Sets.{zero_limit, limit_at}

abbrev pub count_of : List ℕ → ℕ
count_of b = byte_at b 5

-- limit i, from 0, of the bytes
abbrev pub limit_in : List ℕ → ℕ → Limit
limit_in b i = record { kind = byte_at b (6 + 3 * i); x = byte_at b (6 + 3 * i + 1); k = byte_at b (6 + 3 * i + 2) }

-- the n limits from limit i on
unfoldable pub limits_in : List ℕ → ℕ → ℕ → List Limit
limits_in b i zero = []
limits_in b i (suc n) = limit_in b i ∷ limits_in b (suc i) n

-- RULES, A set in memory: "A struct of a count and an array of eight limit records"; "The records from the count on are not in use: a set that was read has zeros there".
abbrev pub set_with : List ℕ → ℕ → LimitSet
set_with b c = record { count = c; limits = limits_in b 0 c ++ replicate (8 - c) zero_limit }

abbrev pub set_of : List ℕ → LimitSet
set_of b = set_with b (count_of b)

-- "a set that was read has zeros there"
pub record Tidy (s : LimitSet) : Type 0 where
  pub eight : length s.limits ≡ 8
  pub unused : (i : ℕ) → s.count ≤ i → limit_at s i ≡ zero_limit

abbrev pub empty_set : LimitSet
empty_set = record { count = 0; limits = replicate 8 zero_limit }

-- three bytes a limit
abbrev pub bytes_of_limit : Limit → List ℕ
bytes_of_limit l = l.kind ∷ l.x ∷ l.k ∷ []

-- the bytes of the n limits from limit i on
unfoldable pub limit_bytes : LimitSet → ℕ → ℕ → List ℕ
limit_bytes s i zero = []
limit_bytes s i (suc n) = bytes_of_limit (limit_at s i) ++ limit_bytes s (suc i) n

-- the length field, the version, the count
abbrev pub head_bytes : ℕ → List ℕ
head_bytes c = 0 ∷ 0 ∷ 0 ∷ (2 + 3 * c) ∷ 1 ∷ c ∷ []

-- the bytes of a set
abbrev pub bytes_of : LimitSet → List ℕ
bytes_of s = head_bytes s.count ++ limit_bytes s 0 s.count
