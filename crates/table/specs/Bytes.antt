-- RULES, Bytes of a table: "the length field, 3+4n", "the version, 1", "n, how many states there are, 1 to 32,768", and for each state "two for the state that follows on a miss, two for the one that follows on a hit". "FF FF as the state that follows on a miss says that no miss is allowed there. A hit is allowed in every state". "In all 7+4n bytes".
use Rattle.std.proofs.Math.Option.{Option, none, some}
use Rattle.std.specs.Prelude.{Bool, true, false, cond, List, [], ◌∷◌, ◌++◌, ℕ, zero, suc, ◌+◌, ◌*◌, ◌/◌, ◌%◌, eqb}
use Rattle.layout.specs.Bytes.{byte_at, four_bytes}
use Rattle.machines.specs.Machine.{Machine}

abbrev pub pair_at : List ℕ → ℕ → ℕ
pair_at b i = byte_at b i * 256 + byte_at b (i + 1)

abbrev pub state_count : List ℕ → ℕ
state_count b = pair_at b 5

-- the entries of state s
abbrev pub miss_entry : List ℕ → ℕ → ℕ
miss_entry b s = pair_at b (7 + 4 * s)

abbrev pub hit_entry : List ℕ → ℕ → ℕ
hit_entry b s = pair_at b (9 + 4 * s)

-- FF FF
abbrev pub no_miss : ℕ
no_miss = 65535

abbrev pub next_in : List ℕ → ℕ → Bool → Option ℕ
next_in b s true = some (hit_entry b s)
next_in b s false = cond (eqb (miss_entry b s) no_miss) none (some (miss_entry b s))

-- the machine that a table's bytes write; "The start is state 0"
abbrev pub machine_of : List ℕ → Machine
machine_of b = record { states = state_count b; start = 0; next = next_in b }

-- and the bytes of a machine
abbrev pub entry_of : Option ℕ → ℕ
entry_of none = no_miss
entry_of (some t) = t

abbrev pub pair_bytes : ℕ → List ℕ → List ℕ
pair_bytes x rest = x / 256 ∷ x % 256 ∷ rest

-- the rows of the n states from s on
unfoldable pub row_bytes : Machine → ℕ → ℕ → List ℕ
row_bytes m s zero = []
row_bytes m s (suc n) = pair_bytes (entry_of (m.next s false)) (pair_bytes (entry_of (m.next s true)) (row_bytes m (suc s) n))

abbrev pub size_of : ℕ → ℕ
size_of n = 7 + 4 * n

-- the first seven bytes of a table of n states, and what follows them
abbrev pub head_then : ℕ → List ℕ → List ℕ
head_then n rest = four_bytes (3 + 4 * n) ++ (1 ∷ pair_bytes n rest)

abbrev pub bytes_of : Machine → List ℕ
bytes_of m = head_then m.states (row_bytes m 0 m.states)
