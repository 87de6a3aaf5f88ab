-- A buffer of 30,732 bytes holds the whole text of every input: numbers of states have at most four digits, and so has what a refusal says. Assumes nothing.
use mathlib.Core.Path.{◌≡◌, refl, sym, ap, ap₂, ◌∙◌, subst}
use mathlib.Core.Logic.{dite}
use mathlib.Core.Option.{Option, none, some}
use mathlib.Core.Bool.{Bool, true, false, cond}
use mathlib.Core.List.{List, [], ◌∷◌, ◌++◌}
use Prim.Native.Nat.{ℕ, zero, suc, ◌+◌, ◌*◌, ◌/◌, ◌%◌, ◌^◌, ◌≤◌, ◌<◌}
use native.Mathlib.Nat.{pow-suc}
use native.Mathlib.Decide.{dec_lt}
use native.Mathlib.Omega.{arith}
use lib.ListN.{length, take, drop, length-append}
use lib.Seq.{take_all, take_at}
use Rattle.layout.specs.Refusal.{Row, Tested, passed, refused, first}
use Rattle.layout.specs.Write.{room_row}
use Rattle.layout.proofs.Rows.{and_then, first_append, passed_first, both_passed}
use Rattle.machines.specs.Machine.{Machine, WellMade}
use Rattle.meaning.specs.declared.LimitSet.{LimitSet}
use Rattle.sets.specs.Bytes.{count_of, set_of}
use Rattle.sets.specs.Rows.{limits_rows, nothing_row, test_rows, head_rows, set_rows}
use Rattle.sets.proofs.Accepted.{passed_head, accepted_allowed}
use Rattle.table.specs.Bytes.{size_of}
use Rattle.builder.specs.Build.{area_row, early_rows}
use Rattle.builder.proofs.BuiltTables.{no_more_states}
use Rattle.printing.specs.Longest.{printed_longest, printed_states}
use Rattle.printing.specs.Text.{digit, decimal_in, decimal, move_text, state_line, state_lines, table_text, refusal_text, text_when}
use Rattle.printing.specs.Print.{longest_text, input_row, print_early, print_tests, text_for, PrintedWith}
use Rattle.printing.proofs.Digits.{one_digit, more_digits}

few_digits : (k turns n : ℕ) → n < 10 ^ suc k → length (decimal_in turns n) ≤ suc k
unfolding decimal_in
few_digits zero turns n h = omega (arith, ap length (one_digit turns n h))
few_digits (suc k) zero n h = omega arith
few_digits (suc k) (suc turns) n h =
    dite (dec_lt n 10)
    (λ l. omega (arith, ap length (one_digit (suc turns) n l)))
    (λ l.
    let e = ap length (more_digits turns n (omega arith)) ∙ length-append (decimal_in turns (n / 10)) (digit (n % 10) ∷ []) in
    let i = few_digits k turns (n / 10) (omega (arith, pow-suc 10 (suc k))) in
    omega arith)

four_digits : (n : ℕ) → n < 10000 → length (decimal n) ≤ 4
four_digits n h = few_digits 3 n n h

module _ (m : Machine) (made : WellMade m) (few : m.states ≤ printed_states) where
  move_fits : (s : ℕ) (o : Bool) → s < m.states → length (move_text (m.next s o)) ≤ 4
  move_fits s o h = go (m.next s o) refl
    where
      go : (t : Option ℕ) → m.next s o ≡ t → length (move_text t) ≤ 4
      go none e = omega arith
      go (some t) e = four_digits t (omega (arith, made.next_below s t o h e))

  line_fits : (s : ℕ) → s < m.states → length (state_line m s) ≤ 15
  line_fits s h =
      let a = four_digits s (omega arith) in
      let b = move_fits s false h in
      let c = move_fits s true h in
      simp length-append (omega arith)

  lines_fit : (s n : ℕ) → s + n ≤ m.states → length (state_lines m s n) ≤ 15 * n
  unfolding state_lines
  lines_fit s zero h = omega arith
  lines_fit s (suc n) h =
      let a = line_fits s (omega arith) in
      let b = lines_fit (suc s) n (omega arith) in
      omega (arith, length-append (state_line m s) (state_lines m (suc s) n))

  table_fits : length (table_text m) ≤ longest_text
  table_fits =
      let a = four_digits m.states (omega arith) in
      let b = lines_fit 0 m.states (omega arith) in
      simp length-append (omega arith)

refusal_fits : (number at : ℕ) → number < 10000 → at < 10000 → length (refusal_text number at) ≤ longest_text
refusal_fits number at h l =
    let a = four_digits number h in
    let b = four_digits at l in
    simp length-append (omega arith)

-- refusals of four digits
abbrev Small : Tested → Type 0
Small passed = Unit
Small (refused number at) = (number < 10000) × (at < 10000)

abbrev SmallRows : List Row → Type 0
SmallRows [] = Unit
SmallRows (r ∷ rows) = (r.number < 10000) × (r.at < 10000) × SmallRows rows

small_first : (rows : List Row) → SmallRows rows → Small (first rows)
unfolding first
small_first [] s = tt
small_first (r ∷ rows) (a, b, s) = go r.holds (small_first rows s)
  where
    go : (h : Bool) → Small (first rows) → Small (cond h (refused r.number r.at) (first rows))
    go true i = (a, b)
    go false i = i

-- one part of the tests and then another
small_then : (rows later : List Row) → Small (first rows) → (first rows ≡ passed → Small (first later)) → Small (first (rows ++ later))
small_then rows later a b = subst (λ z. Small z) (sym (first_append rows later)) (go (first rows) refl a)
  where
    go : (t : Tested) → first rows ≡ t → Small t → Small (and_then t (first later))
    go passed e i = b e
    go (refused number at) e i = i

small_limits : (s : LimitSet) (i n : ℕ) → i + n ≤ 8 → SmallRows (limits_rows printed_longest s i n)
unfolding limits_rows
small_limits s i zero h = tt
small_limits s i (suc n) h = (omega arith, omega arith, (omega arith, omega arith, (omega arith, omega arith, small_limits s (suc i) n (omega arith))))

small_set : (b : List ℕ) → Small (first (set_rows printed_longest b))
small_set b =
    let limits = limits_rows printed_longest (set_of b) 0 (count_of b) in
    small_then (head_rows b) (test_rows printed_longest (set_of b))
    (small_first (head_rows b) (omega arith, omega arith, (omega arith, omega arith, (omega arith, omega arith, (omega arith, omega arith, tt)))))
    (λ e. small_then limits (nothing_row (set_of b) ∷ [])
    (small_first limits (small_limits (set_of b) 0 (count_of b) (omega (arith, (passed_head b e).eight))))
    (λ f. small_first (nothing_row (set_of b) ∷ []) (omega arith, omega arith, tt)))

module _ (input work work' table table' out out' : List ℕ) (r : ℕ) (m : Machine) (p : PrintedWith printed_longest input work work' table table' out out' r m) where
  pub early_few : print_early printed_longest input work ≡ passed → m.states ≤ printed_states
  early_few e =
      let s = (both_passed (set_rows printed_longest input) (area_row printed_longest work ∷ []) (passed_first (input_row input) (early_rows printed_longest input work) e).1).0 in
      no_more_states printed_longest (set_of input) (accepted_allowed printed_longest input s) m (p.canonical e)

  small_early : Small (print_early printed_longest input work)
  small_early =
      small_then (input_row input ∷ []) (early_rows printed_longest input work)
      (small_first (input_row input ∷ []) (omega arith, omega arith, tt))
      (λ e. small_then (set_rows printed_longest input) (area_row printed_longest work ∷ []) (small_set input) (λ f. small_first (area_row printed_longest work ∷ []) (omega arith, omega arith, tt)))

  small_tests : Small (print_tests printed_longest input work table m)
  small_tests =
      small_then (input_row input ∷ early_rows printed_longest input work) (room_row table (size_of m.states) ∷ []) small_early
      (λ e. small_first (room_row table (size_of m.states) ∷ []) (omega arith, omega (arith, early_few e), tt))

  early_passed : print_tests printed_longest input work table m ≡ passed → print_early printed_longest input work ≡ passed
  early_passed e = (both_passed (input_row input ∷ early_rows printed_longest input work) (room_row table (size_of m.states) ∷ []) e).0

  pub text_fits : length (text_for printed_longest input work table m) ≤ longest_text
  text_fits = go (print_tests printed_longest input work table m) refl small_tests
    where
      go : (t : Tested) → print_tests printed_longest input work table m ≡ t → Small t → length (text_when t m) ≤ longest_text
      go passed e s = let f = early_passed e in table_fits m (p.canonical f).well_made (early_few f)
      go (refused number at) e (a, b) = refusal_fits number at a b

  -- nothing is cut off
  pub whole_text : longest_text ≤ length out → (r ≡ length (text_for printed_longest input work table m)) × (take r out' ≡ text_for printed_longest input work table m)
  whole_text h =
      let text = text_for printed_longest input work table m in
      let l : length text ≤ length out = omega (arith, text_fits) in
      let e : r ≡ length text = omega (arith, p.returned) in
      (e, ap₂ take e (p.out_after ∙ ap (λ z. z ++ drop (length text) out) (take_all (length out) text l)) ∙ take_at text (drop (length text) out) (length text) refl)
