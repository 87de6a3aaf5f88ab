-- What the program lends is enough: no input is refused by 8 or 9, and its whole text is printed. Assumes nothing.
use mathlib.Core.Path.{◌≡◌, refl, sym, ap, ◌∙◌}
use mathlib.Core.Bool.{Bool, false}
use mathlib.Core.List.{List, [], ◌∷◌, ◌++◌}
use Prim.Native.Nat.{ℕ, ◌≤◌}
use native.Mathlib.Omega.{arith}
use borrow.Author.Tests.{le-ltb}
use lib.ListN.{length}
use Rattle.layout.specs.Refusal.{Row, row, Tested, passed, refused, first}
use Rattle.layout.proofs.Rows.{and_then, first_skip, first_append}
use Rattle.sets.specs.Rows.{set_rows}
use Rattle.table.specs.Bytes.{size_of}
use Rattle.classes.specs.Area.{area_size}
use Rattle.builder.specs.Build.{early_rows}
use Rattle.printing.specs.Longest.{printed_longest, printed_states}
use Rattle.printing.specs.Text.{text_when}
use Rattle.printing.specs.Print.{longest_text, input_row, print_early, print_tests, PrintedAs, input_tests, PrintedWhole}
use Rattle.printing.proofs.OneResult.{tests_by_early}
use Rattle.printing.proofs.Whole.{early_few, whole_text}

-- a last row that doesn't hold
last_skipped : (rows : List Row) (n v : ℕ) (h : Bool) → h ≡ false → first (rows ++ row n h v ∷ []) ≡ first rows
unfolding first
last_skipped rows n v h e = first_append rows (row n h v ∷ []) ∙ go (first rows)
  where
    go : (t : Tested) → and_then t (first (row n h v ∷ [])) ≡ t
    go passed = first_skip n v h [] e
    go (refused k u) = refl

module _ (input work work' table table' out out' : List ℕ) (r : ℕ) (area : length work ≡ area_size printed_longest) (buffer : length table ≡ size_of printed_states) where
  no_8 : print_early printed_longest input work ≡ input_tests printed_longest input
  no_8 = last_skipped (input_row input ∷ set_rows printed_longest input) 8 0 _ (le-ltb (length work) (area_size printed_longest) (omega arith))

  pub printed_whole : longest_text ≤ length out → PrintedAs printed_longest input work work' table table' out out' r → PrintedWhole printed_longest input work work' table table' out out' r
  printed_whole h (m, p) = record {
    printed = (m, p);
    whole = (m, (λ e. p.canonical (no_8 ∙ e), (whole_text input work work' table table' out out' r m p h).1 ∙ ap (λ z. text_when z m) (no_9 (print_early printed_longest input work) refl ∙ no_8)));
  }
    where
      no_9 : (t : Tested) → print_early printed_longest input work ≡ t → print_tests printed_longest input work table m ≡ print_early printed_longest input work
      no_9 passed e =
          let few = early_few input work work' table table' out out' r m p e in
          last_skipped (input_row input ∷ early_rows printed_longest input work) 9 _ _ (le-ltb (length table) (size_of m.states) (omega arith))
      no_9 (refused number at) e = tests_by_early printed_longest input work table e m ∙ sym e
