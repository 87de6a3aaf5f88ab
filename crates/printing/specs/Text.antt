-- RULES, The printing program: "A table is printed as one line with the word `states` and how many there are, then one line for each state, from 0 on: its number, the next state on a miss or `-` where none is allowed, and the next state on a hit." "A refusal is printed as one line, with the number and the value beside it"; "each line ends with one newline".
use Rattle.std.proofs.Math.Option.{Option, none, some}
use Rattle.std.specs.Prelude.{true, false, cond, List, [], ◌∷◌, ◌++◌, ℕ, zero, suc, ◌+◌, ◌/◌, ◌%◌, ltb}
use Prim.Native.Char.{code}
use Prim.Native.String.{String, [] as no_text, ◌∷◌ as ◌then◌}
use Rattle.layout.specs.Refusal.{Tested, passed, refused}
use Rattle.machines.specs.Machine.{Machine}

-- a text's characters as bytes
abbrev pub ascii : String → List ℕ
ascii no_text = []
ascii (◌then◌ c s) = code c ∷ ascii s

abbrev pub digit : ℕ → ℕ
digit d = 48 + d

-- the decimal digits of n, no 0 before them; n itself is turns enough
unfoldable pub decimal_in : (turns n : ℕ) → List ℕ
decimal_in zero n = digit n ∷ []
decimal_in (suc k) n = cond (ltb n 10) (digit n ∷ []) (decimal_in k (n / 10) ++ digit (n % 10) ∷ [])

abbrev pub decimal : ℕ → List ℕ
decimal n = decimal_in n n

-- a next state, or `-` where an outcome isn't allowed
abbrev pub move_text : Option ℕ → List ℕ
move_text none = ascii "-"
move_text (some t) = decimal t

-- as `0 1 0`: the state, the next state on a miss, the next state on a hit
abbrev pub line_of : ℕ → (miss hit : Option ℕ) → List ℕ
line_of s miss hit = decimal s ++ ascii " " ++ move_text miss ++ ascii " " ++ move_text hit ++ ascii "\n"

abbrev pub state_line : Machine → ℕ → List ℕ
state_line m s = line_of s (m.next s false) (m.next s true)

-- the lines of the n states from s on
unfoldable pub state_lines : Machine → (s n : ℕ) → List ℕ
state_lines m s zero = []
state_lines m s (suc n) = state_line m s ++ state_lines m (suc s) n

abbrev pub head_line : ℕ → List ℕ
head_line n = ascii "states " ++ decimal n ++ ascii "\n"

abbrev pub table_text : Machine → List ℕ
table_text m = head_line m.states ++ state_lines m 0 m.states

abbrev pub refusal_text : (number at : ℕ) → List ℕ
refusal_text number at = ascii "refused " ++ decimal number ++ ascii " at " ++ decimal at ++ ascii "\n"

-- what is printed by what the tests say
abbrev pub text_when : Tested → Machine → List ℕ
text_when passed m = table_text m
text_when (refused number at) m = refusal_text number at
