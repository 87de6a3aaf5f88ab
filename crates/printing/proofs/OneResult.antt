-- The promises of the printing allow one result. What is added to a text is an equation. Of the whole, what is tested before the work area is used decides, or the builder's one result and the one text of its table do. Assumes nothing.
use mathlib.Core.Path.{◌≡◌, refl, sym, ap, ◌∙◌, subst}
use mathlib.Core.Bool.{Bool, true, false}
use mathlib.Core.List.{List, [], ◌∷◌}
use Prim.Native.Nat.{ℕ}
use lib.Dec.{ltb}
use lib.ListN.{length}
use Rattle.std.specs.Prelude.{Result, Ok, Err}
use Rattle.layout.specs.Refusal.{Row, row, Tested, passed, refused, first}
use Rattle.layout.specs.declared.Refused.{Refused}
use Rattle.layout.specs.declared.Refused.TheVariants.{Room}
use Rattle.layout.specs.Refused.{says}
use Rattle.layout.specs.Write.{room_row, length_of, length_when, buffer_when}
use Rattle.layout.proofs.Write.{written_by}
use Rattle.layout.proofs.Rows.{and_then, first_append, first_skip, passed_first, both_passed}
use Rattle.machines.specs.Machine.{Machine}
use Rattle.machines.specs.Canonical.{Canonical, OneTable}
use Rattle.machines.proofs.Unique.{canonical_unique}
use Rattle.meaning.specs.Sets.{KeptBy}
use Rattle.sets.specs.Bytes.{set_of}
use Rattle.table.specs.Bytes.{bytes_of, size_of}
use Rattle.builder.specs.Build.{early_rows, build_rows, WorkAfter, BuiltAs}
use Rattle.builder.proofs.OneResult.{built_one_result}
use Rattle.printing.specs.Text.{text_when}
use Rattle.printing.specs.Cut.{held, cut, Adds}
use Rattle.printing.specs.Print.{input_row, print_early, print_tests, text_for, PrintedWith, PrintedAs}
use Rattle.printing.proofs.Texts.{text_of_one_table}

-- what the builder answers past 8, by whether the table is refused its room
abbrev answer_by : Bool → (size : ℕ) → Result ℕ Refused
answer_by true size = Err (Room size)
answer_by false size = Ok size

says_by : (h : Bool) (size : ℕ) → says (answer_by h size) ≡ first (row 9 h size ∷ [])
unfolding first
says_by true size = refl
says_by false size = refl

length_by : (h : Bool) (size : ℕ) → length_of (answer_by h size) ≡ length_when (first (row 9 h size ∷ [])) size
unfolding first
length_by true size = refl
length_by false size = refl

pub adds_one_result : (more out : List ℕ) (at : ℕ) (x y : List ℕ) (r t : ℕ) → Adds more out at x r → Adds more out at y t → (r ≡ t) × (x ≡ y)
adds_one_result more out at x y r t f g = (f.place ∙ sym g.place, f.bytes ∙ sym g.bytes)

module _ (widest : ℕ) (input work table : List ℕ) where
  pub tests_by_early : {t : Tested} → print_early widest input work ≡ t → (m : Machine) → print_tests widest input work table m ≡ and_then t (first (room_row table (size_of m.states) ∷ []))
  tests_by_early e m =
      let room = room_row table (size_of m.states) ∷ [] in
      first_append (input_row input ∷ early_rows widest input work) room ∙ ap (λ z. and_then z (first room)) e

  -- the machine that is the canonical one of the set where the tests get past 8
  abbrev pub Settled : Machine → Type 0
  Settled m = print_early widest input work ≡ passed → Canonical m (KeptBy (set_of input))

  module _ (m n : Machine) (f : Settled m) (g : Settled n) where
    one_table : print_early widest input work ≡ passed → OneTable m n
    one_table e = canonical_unique m n (KeptBy (set_of input)) (KeptBy (set_of input)) (f e) (g e) (λ p. (λ k. k, λ k. k))

    pub tests_once : print_tests widest input work table m ≡ print_tests widest input work table n
    tests_once = go (print_early widest input work) refl
      where
        go : (t : Tested) → print_early widest input work ≡ t → print_tests widest input work table m ≡ print_tests widest input work table n
        go passed e = ap (λ k. first (input_row input ∷ build_rows widest input work table (size_of k))) (one_table e).states
        go (refused number at) e = tests_by_early e m ∙ sym (tests_by_early e n)

    text_once : text_for widest input work table m ≡ text_for widest input work table n
    text_once = ap (λ z. text_when z m) tests_once ∙ by (print_tests widest input work table n) refl
      where
        by : (t : Tested) → print_tests widest input work table n ≡ t → text_when t m ≡ text_when t n
        by passed e = text_of_one_table m n (one_table (both_passed (input_row input ∷ early_rows widest input work) _ e).0)
        by (refused number at) e = refl

  module _ (out : List ℕ) where
    -- past 8 the promise has the builder's in it
    module _ (e : print_early widest input work ≡ passed) where
      same_tests : (later : List Row) → first (input_row input ∷ later) ≡ first later
      same_tests later = first_skip 1 0 _ later (passed_first (input_row input) (early_rows widest input work) e).0

      built_of : {work' table' out' : List ℕ} {r : ℕ} {m : Machine} → PrintedWith widest input work work' table table' out out' r m
          → BuiltAs widest input work work' table table' (answer_by (ltb (length table) (size_of m.states)) (size_of m.states))
      built_of {work'} {table'} {out'} {r} {m} p =
          let size = size_of m.states in
          let short = ltb (length table) size in
          let rows = build_rows widest input work table size in
          let t = tests_by_early e m in (
            m,
            record {
              canonical = λ q. p.canonical e;
              written = written_by rows size (bytes_of m) table (first (room_row table size ∷ [])) table' (answer_by short size)
                  (sym (same_tests rows) ∙ t) (says_by short size) (length_by short size) (p.table_after ∙ ap (λ z. buffer_when z size (bytes_of m) table) t);
              work_after = subst (λ z. WorkAfter widest z work work') (same_tests (early_rows widest input work)) p.work_after;
            },
          )

    module _ (a b c d x y : List ℕ) (r t : ℕ) (m n : Machine) (f : PrintedWith widest input work a table c out x r m) (g : PrintedWith widest input work b table d out y t n) where
      lent_once : (e : Tested) → print_early widest input work ≡ e → (a ≡ b) × (c ≡ d)
      lent_once (refused number at) e =
          let w : (z : List ℕ) → WorkAfter widest (print_early widest input work) work z → z ≡ work = λ z h. subst (λ v. WorkAfter widest v work z) e h in
          let k : (q : Machine) → buffer_when (print_tests widest input work table q) (size_of q.states) (bytes_of q) table ≡ table = λ q. ap (λ z. buffer_when z (size_of q.states) (bytes_of q) table) (tests_by_early e q) in
          (w a f.work_after ∙ sym (w b g.work_after), f.table_after ∙ k m ∙ sym (g.table_after ∙ k n))
      lent_once passed e = let (u, p, q) = built_one_result widest input work table a b c d _ _ (built_of e f) (built_of e g) in (p, q)

      once : (r ≡ t) × (a ≡ b) × (c ≡ d) × (x ≡ y)
      once =
          let e = text_once m n f.canonical g.canonical in
          let (p, q) = lent_once (print_early widest input work) refl in (
            f.returned ∙ ap (λ z. held z out) e ∙ sym g.returned,
            p,
            q,
            f.out_after ∙ ap (λ z. cut z out) e ∙ sym g.out_after,
          )

pub printed_one_result : (widest : ℕ) (input work table out a b c d x y : List ℕ) (r t : ℕ) → PrintedAs widest input work a table c out x r → PrintedAs widest input work b table d out y t
    → (r ≡ t) × (a ≡ b) × (c ≡ d) × (x ≡ y)
printed_one_result widest input work table out a b c d x y r t (m, f) (n, g) = once widest input work table out a b c d x y r t m n f g
