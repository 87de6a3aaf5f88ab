-- Demand 1 for the printing: a refusal's line is printed exactly by the first row that holds, by 1 to 9 and 21 alone. A refusal leaves the table, and the work area as it was or, by 9, cleared. Assumes nothing.
use mathlib.Core.Path.{◌≡◌, sym, ap, ◌∙◌}
use mathlib.Core.Logic.{◌↔◌, inl}
use mathlib.Core.List.{List, [], ◌∷◌, ◌++◌}
use Prim.Native.Nat.{ℕ, ◌≤◌}
use native.Mathlib.Omega.{arith}
use lib.ListN.{length, take}
use Rattle.layout.specs.Refusal.{Row, passed, refused, first}
use Rattle.layout.specs.Write.{room_row, buffer_when}
use Rattle.layout.proofs.Rows.{Numbers, first_number}
use Rattle.machines.specs.Machine.{Machine}
use Rattle.machines.specs.Canonical.{Canonical}
use Rattle.meaning.specs.Sets.{KeptBy}
use Rattle.sets.specs.Bytes.{set_of}
use Rattle.table.specs.Bytes.{bytes_of, size_of}
use Rattle.builder.specs.Build.{early_rows, build_rows, Cleared}
use Rattle.builder.proofs.Numbers.{EarlyNumber, BuildNumber, early_numbers, room_numbers, work_by_number}
use Rattle.printing.specs.Longest.{printed_longest}
use Rattle.printing.specs.Text.{refusal_text}
use Rattle.printing.specs.Print.{longest_text, input_row, print_early, print_tests, PrintedAs}
use Rattle.printing.proofs.OneResult.{tests_once}
use Rattle.printing.proofs.ReadBack.{text_refuses}
use Rattle.printing.proofs.Whole.{whole_text}

early_numbered : (input work : List ℕ) → Numbers EarlyNumber (input_row input ∷ early_rows printed_longest input work)
early_numbered input work = (inl (omega arith, omega arith), early_numbers printed_longest input work)

module _ (input work work' table table' out out' : List ℕ) (r : ℕ) (printed : PrintedAs printed_longest input work work' table table' out out' r) (room : longest_text ≤ length out) where
  -- for any machine that is the canonical one of the set where the tests get past 8
  pub print_refuses : (m : Machine) → (print_early printed_longest input work ≡ passed → Canonical m (KeptBy (set_of input))) → (n v : ℕ)
      → (take r out' ≡ refusal_text n v) ↔ (first (input_row input ∷ build_rows printed_longest input work table (size_of m.states)) ≡ refused n v)
  print_refuses m canonical n v =
      let (k, p) = printed in
      let same : print_tests printed_longest input work table m ≡ print_tests printed_longest input work table k = tests_once printed_longest input work table m k canonical p.canonical in
      let text = (whole_text input work work' table table' out out' r k p room).1 in
      let (to, from) = text_refuses (print_tests printed_longest input work table k) k n v in
      (λ e. same ∙ to (sym text ∙ e), λ e. text ∙ from (sym same ∙ e))

  module _ (n v : ℕ) (line : take r out' ≡ refusal_text n v) where
    rows_refused : print_tests printed_longest input work table printed.0 ≡ refused n v
    rows_refused = (print_refuses printed.0 printed.1.canonical n v).0 line

    abbrev early : List Row
    early = input_row input ∷ early_rows printed_longest input work

    abbrev late : List Row
    late = room_row table (size_of printed.0.states) ∷ []

    pub print_refused_by : BuildNumber n
    print_refused_by = first_number BuildNumber (early ++ late) n v (room_numbers early table (size_of printed.0.states) (early_numbered input work)) rows_refused

    pub refused_print_leaves_table : table' ≡ table
    refused_print_leaves_table = printed.1.table_after ∙ ap (λ z. buffer_when z (size_of printed.0.states) (bytes_of printed.0) table) rows_refused

    pub refused_print_leaves_work : ((n ≡ 9 → ⊥) → work' ≡ work) × (n ≡ 9 → Cleared printed_longest work work')
    refused_print_leaves_work = work_by_number early table (size_of printed.0.states) (early_numbered input work) printed_longest work work' n v rows_refused printed.1.work_after
