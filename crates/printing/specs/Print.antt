-- RULES, The printing program: "It takes a set from standard input and reads 65 bytes of it at the most. More than 64 are refusal 1, whatever they hold; 64 or fewer are tested as by the builder."
-- The text is that of the set's own table.
use Rattle.std.specs.Prelude.{◌≡◌, List, ◌∷◌, ℕ, ◌+◌, ◌*◌, ◌≤◌, ltb, length, take}
use Rattle.layout.specs.Refusal.{Row, row, Tested, passed, first}
use Rattle.layout.specs.Write.{buffer_when}
use Rattle.machines.specs.Machine.{Machine}
use Rattle.machines.specs.Canonical.{Canonical}
use Rattle.meaning.specs.Sets.{KeptBy}
use Rattle.sets.specs.Bytes.{set_of}
use Rattle.sets.specs.Rows.{set_rows}
use Rattle.table.specs.Bytes.{bytes_of, size_of}
use Rattle.classes.specs.Area.{area_size}
use Rattle.builder.specs.Build.{early_rows, build_rows, WorkAfter}
use Rattle.printing.specs.Longest.{printed_longest, printed_states}
use Rattle.printing.specs.Text.{text_when}
use Rattle.printing.specs.Cut.{held, cut}

-- "More than 64 are refusal 1, whatever they hold"
abbrev pub most_input : ℕ
most_input = 64

abbrev pub input_row : List ℕ → Row
input_row input = row 1 (ltb most_input (length input)) 0

-- what is tested before the work area is used, and everything
abbrev pub print_early : (widest : ℕ) → (input work : List ℕ) → Tested
print_early widest input work = first (input_row input ∷ early_rows widest input work)

abbrev pub print_tests : (widest : ℕ) → (input work table : List ℕ) → Machine → Tested
print_tests widest input work table m = first (input_row input ∷ build_rows widest input work table (size_of m.states))

-- the text for an input, with the machine that is the canonical one of the set where the tests get past 8
abbrev pub text_for : (widest : ℕ) → (input work table : List ℕ) → Machine → List ℕ
text_for widest input work table m = text_when (print_tests widest input work table m) m

-- the bytes that hold every text: `states 2048` and 2,048 lines as `2047 2047 2047`, each with its newline
abbrev pub longest_text : ℕ
longest_text = 12 + 15 * printed_states

pub record PrintedWith (widest : ℕ) (input work work' table table' out out' : List ℕ) (r : ℕ) (m : Machine) : Type 0 where
  pub canonical : print_early widest input work ≡ passed → Canonical m (KeptBy (set_of input))
  pub work_after : WorkAfter widest (print_early widest input work) work work'
  pub table_after : table' ≡ buffer_when (print_tests widest input work table m) (size_of m.states) (bytes_of m) table
  pub returned : r ≡ held (text_for widest input work table m) out
  pub out_after : out' ≡ cut (text_for widest input work table m) out

abbrev pub PrintedAs : (widest : ℕ) → (input work work' table table' out out' : List ℕ) → ℕ → Type 0
PrintedAs widest input work work' table table' out out' r = (m : Machine) × PrintedWith widest input work work' table table' out out' r m

-- What the program lends. RULES, The printing program: it "reads 65 bytes of it at the most", one more than an input may have, so that a longer one shows. The work area and the table's buffer are enough for every set, and the text's for every text.
pub record Lent (input : List ℕ) (size : ℕ) (work table out : List ℕ) : Type 0 where
  pub bytes_read : length input ≡ most_input + 1
  pub size_read : size ≤ length input
  pub work_room : length work ≡ area_size printed_longest
  pub table_room : length table ≡ size_of printed_states
  pub text_room : longest_text ≤ length out

-- what is tested of an input where no 8 and no 9 can be
abbrev pub input_tests : (widest : ℕ) → (input : List ℕ) → Tested
input_tests widest input = first (input_row input ∷ set_rows widest input)

-- nothing of the text is cut off, and it is the set's table or a refusal by 1 to 7 or 21
pub record PrintedWhole (widest : ℕ) (input work work' table table' out out' : List ℕ) (r : ℕ) : Type 0 where
  pub printed : PrintedAs widest input work work' table table' out out' r
  pub whole : (m : Machine) × ((input_tests widest input ≡ passed → Canonical m (KeptBy (set_of input))) × (take r out' ≡ text_when (input_tests widest input) m))
