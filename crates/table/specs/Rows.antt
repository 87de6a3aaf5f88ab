-- RULES, Refusals: 10 to 12, as rows in the order tested.
use Rattle.std.specs.Prelude.{not, ◌||◌, ◌&&◌, List, [], ◌∷◌, ◌++◌, ℕ, zero, suc, ◌+◌, ◌*◌, eqb, ltb, leb}
use Rattle.layout.specs.Bytes.{length_field}
use Rattle.layout.specs.Refusal.{Row, row}
use Rattle.layout.specs.Head.{head_rows}
use Rattle.table.specs.Bytes.{state_count, miss_entry, hit_entry, no_miss}

-- "n is 0 or more than 32,768"
abbrev pub most_states : ℕ
most_states = 32768

-- 10 and 11, as in every layout, and the counts in 12
abbrev pub count_rows : List ℕ → List Row
count_rows b =
    head_rows 7 1 10 11 b
    ++ (row 12 (eqb (state_count b) 0 || ltb most_states (state_count b)) 0
    ∷ row 12 (not (eqb (length_field b) (3 + 4 * state_count b))) 0
    ∷ [])

-- "a next state isn't below n, FF FF on a miss apart", in the entry of state s
abbrev pub entry_rows : List ℕ → ℕ → List Row
entry_rows b s =
    row 12 (leb (state_count b) (miss_entry b s) && not (eqb (miss_entry b s) no_miss)) 0
    ∷ row 12 (leb (state_count b) (hit_entry b s)) 0
    ∷ []

-- in the entries of the n states from s on
unfoldable pub entries_rows : List ℕ → ℕ → ℕ → List Row
entries_rows b s zero = []
entries_rows b s (suc n) = entry_rows b s ++ entries_rows b (suc s) n

-- the table check, and what starting a guard tests
abbrev pub table_rows : List ℕ → List Row
table_rows b = count_rows b ++ entries_rows b 0 (state_count b)

-- RULES, What each entry tests, ask: "10, 11, 12: n and the length field, the guard's state, then the entry of that state and no other". Tell too.
abbrev pub look_rows : List ℕ → ℕ → List Row
look_rows b s = count_rows b ++ (row 12 (leb (state_count b) s) 0 ∷ entry_rows b s)
