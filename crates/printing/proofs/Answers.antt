-- What each way out of the printing gives: the line of the first row that holds, and else the text of the set's own table. Assumes nothing.
use mathlib.Core.Path.{◌≡◌, refl, sym, ap, ◌∙◌, subst}
use mathlib.Core.Option.{none}
use mathlib.Core.List.{List, ◌∷◌}
use Prim.Native.Nat.{ℕ, ◌≤◌, ◌<◌}
use native.Mathlib.Omega.{arith}
use borrow.Author.Tests.{lt-ltb, le-ltb}
use lib.Dec.{ltb}
use lib.ListN.{length, take, length-take}
use Rattle.std.specs.Prelude.{Result, Ok, Err}
use Rattle.layout.specs.Refusal.{Row, refused, first}
use Rattle.layout.specs.declared.Refused.{Refused}
use Rattle.layout.specs.Refused.{number_of, beside, says}
use Rattle.layout.specs.Write.{length_when, buffer_when}
use Rattle.layout.proofs.Rows.{first_here, first_skip, passed_not_refused}
use Rattle.machines.specs.Machine.{Machine}
use Rattle.meaning.specs.Longest.{longest}
use Rattle.table.specs.Bytes.{machine_of, bytes_of, size_of}
use Rattle.table.specs.Rows.{table_rows}
use Rattle.table.proofs.Bytes.{bytes_length}
use Rattle.builder.specs.Build.{early_rows, build_rows, WorkAfter, BuiltWith, BuiltAs}
use Rattle.builder.proofs.BuiltTables.{built_bytes, built_checked, built_one_table}
use Rattle.printing.specs.Text.{refusal_text, text_when}
use Rattle.printing.specs.Cut.{held, cut, Holds}
use Rattle.printing.specs.Print.{most_input, input_row, print_early, print_tests, text_for, PrintedAs}
use Rattle.printing.proofs.Texts.{text_of_one_table}

-- stands where no table is asked for
no_machine : Machine
no_machine = record { states = 0; start = 0; next = λ s o. none }

module _ (widest : ℕ) (input work table out out' : List ℕ) (r : ℕ) where
  pub printed_long : most_input < length input → Holds (refusal_text 1 0) out out' r → PrintedAs widest input work work table table out out' r
  printed_long h p =
      let size = size_of no_machine.states in
      let e : print_early widest input work ≡ refused 1 0 = first_here 1 0 _ (early_rows widest input work) (lt-ltb most_input (length input) h) in
      let f : print_tests widest input work table no_machine ≡ refused 1 0 = first_here 1 0 _ (build_rows widest input work table size) (lt-ltb most_input (length input) h) in
      let x = sym (ap (λ z. text_when z no_machine) f) in (
        no_machine,
        record {
          canonical = λ q. absurd (passed_not_refused (sym q ∙ e));
          work_after = subst (λ z. WorkAfter widest z work work) (sym e) refl;
          table_after = sym (ap (λ z. buffer_when z size (bytes_of no_machine) table) f);
          returned = p.place ∙ ap (λ z. held z out) x;
          out_after = p.bytes ∙ ap (λ z. cut z out) x;
        },
      )

  -- by what the builder says of an input that is short enough
  module _ (work' table' : List ℕ) (short : length input ≤ most_input) where
    same_tests : (rows : List Row) → first (input_row input ∷ rows) ≡ first rows
    same_tests rows = first_skip 1 0 (ltb most_input (length input)) rows (le-ltb most_input (length input) short)

    printed_by : (a : Result ℕ Refused) (m : Machine) → BuiltWith widest input work work' table table' a m → (text : List ℕ) → text ≡ text_when (says a) m → Holds text out out' r
        → PrintedAs widest input work work' table table' out out' r
    printed_by a m b text e p =
        let s = same_tests (early_rows widest input work) in
        let t = same_tests (build_rows widest input work table (size_of m.states)) in
        let x : text ≡ text_for widest input work table m = e ∙ sym (ap (λ z. text_when z m) (t ∙ sym b.written.answer)) in (
          m,
          record {
            canonical = λ q. b.canonical (sym s ∙ q);
            work_after = subst (λ z. WorkAfter widest z work work') (sym s) b.work_after;
            table_after = b.written.buffer ∙ sym (ap (λ z. buffer_when z (size_of m.states) (bytes_of m) table) t);
            returned = p.place ∙ ap (λ z. held z out) x;
            out_after = p.bytes ∙ ap (λ z. cut z out) x;
          },
        )

    pub printed_refused : {a : Result ℕ Refused} {why : Refused} → a ≡ Err why → BuiltAs widest input work work' table table' a → Holds (refusal_text (number_of why) (beside why)) out out' r
        → PrintedAs widest input work work' table table' out out' r
    printed_refused {a} {why} e (m, b) p = printed_by a m b _ (sym (ap (λ z. text_when (says z) m) e)) p

    pub printed_built : widest ≤ longest → {a : Result ℕ Refused} {size : ℕ} → a ≡ Ok size → BuiltAs widest input work work' table table' a
        → Holds (text_when (first (table_rows (take size table'))) (machine_of (take size table'))) out out' r
        → PrintedAs widest input work work' table table' out out' r
    printed_built within {a} {size} e c p =
        let b = subst (λ z. BuiltAs widest input work work' table table' z) e c in
        printed_by (Ok size) b.0 b.1 _
        (ap (λ z. text_when z (machine_of (take size table'))) (built_checked widest input work work' table table' size b within)
        ∙ text_of_one_table (machine_of (take size table')) b.0 (built_one_table widest input work work' table table' size b within)) p

-- the table that was built lies in its buffer
pub built_room : (widest : ℕ) (input work work' table table' : List ℕ) {a : Result ℕ Refused} {size : ℕ} → a ≡ Ok size → BuiltAs widest input work work' table table' a → size ≤ length table'
built_room widest input work work' table table' {a} {size} e c =
    let b = subst (λ z. BuiltAs widest input work work' table table' z) e c in
    let m = b.0 in
    let s : size ≡ size_of m.states = b.1.written.length_written ∙ ap (λ z. length_when z (size_of m.states)) (sym b.1.written.answer) in
    let l = ap length (built_bytes widest input work work' table table' size b) ∙ bytes_length m in
    omega (arith, length-take size table')
