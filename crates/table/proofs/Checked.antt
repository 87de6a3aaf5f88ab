-- What a table holds where its rows are passed, and that they are passed where it holds it: each row is read as the test on numbers that it is. Assumes nothing.
use mathlib.Core.Path.{◌≡◌, refl, sym, ◌∙◌, subst}
use mathlib.Core.Logic.{dite}
use mathlib.Core.Option.{some, none-ne-some}
use mathlib.Core.Bool.{Bool, true, false, and-true, and-false}
use mathlib.Core.List.{List}
use Prim.Native.Nat.{ℕ, zero, suc, ◌+◌, ◌-◌, ◌*◌, ◌≤◌, ◌<◌}
use native.Mathlib.Decide.{ℕ_discrete}
use native.Mathlib.Omega.{arith}
use borrow.Author.Tests.{ltb-false, leb-false, eqb-true, eqb-false, not-false, le-ltb, lt-leb, eq-eqb, ne_eqb}
use lib.ListN.{length}
use Rattle.layout.specs.Bytes.{length_field, version}
use Rattle.layout.specs.Refusal.{passed, first}
use Rattle.layout.specs.Head.{head_rows}
use Rattle.layout.proofs.Head.{head_passed}
use Rattle.layout.proofs.Rows.{first_skip, passed_first, passed_before, both_passed, or_none}
use Rattle.machines.specs.Machine.{WellMade}
use Rattle.table.specs.Bytes.{state_count, miss_entry, hit_entry, no_miss, next_in, machine_of, size_of}
use Rattle.table.specs.Rows.{most_states, count_rows, entry_rows, entries_rows, table_rows, look_rows}

ruleset tests = (le-ltb, lt-leb, eq-eqb, ne_eqb, and-false)

-- the head of a table
pub record Head (b : List ℕ) : Type 0 where
  pub whole : length b ≡ size_of (state_count b)
  pub rest : length_field b ≡ 3 + 4 * state_count b
  pub one : version b ≡ 1
  pub some_state : 1 ≤ state_count b
  pub most : state_count b ≤ most_states

-- the entry of a state
pub record Entry (b : List ℕ) (s : ℕ) : Type 0 where
  pub miss_below : (miss_entry b s ≡ no_miss → ⊥) → miss_entry b s < state_count b
  pub hit_below : hit_entry b s < state_count b

pub record Table (b : List ℕ) : Type 0 where
  pub counts : Head b
  pub entry : (s : ℕ) → s < state_count b → Entry b s

module _ (b : List ℕ) where
  pub passed_counts : first (count_rows b) ≡ passed → Head b
  passed_counts e =
      let (p, q) = both_passed (head_rows 7 1 10 11 b) _ e in
      let (l, m, v) = head_passed 7 1 10 11 b p in
      let (a₃, e₃) = passed_first _ _ q in
      let (a₄, e₄) = passed_first _ _ e₃ in
      let (h, k) = or_none _ _ a₃ in
      let r = eqb-true (length_field b) (3 + 4 * state_count b) (not-false _ a₄) in
      let z : state_count b ≡ 0 → ⊥ = eqb-false (state_count b) 0 h in
      record { whole = omega arith; rest = r; one = v; some_state = omega arith; most = ltb-false most_states (state_count b) k }

  pub counts_passed : Head b → first (count_rows b) ≡ passed
  unfolding first
  counts_passed c =
      let n : 7 ≤ length b = omega arith in
      let m : length_field b ≡ length b - 4 = omega arith in
      let z : state_count b ≡ 0 → ⊥ = λ q. omega arith in
      search tests

  module _ (s : ℕ) where
    pub passed_entry : first (entry_rows b s) ≡ passed → Entry b s
    passed_entry e =
        let (a₁, e₁) = passed_first _ _ e in
        let (a₂, e₂) = passed_first _ _ e₁ in
        record { miss_below = λ d. leb-false _ _ (sym (and-true _) ∙ (rw (ne_eqb _ _ d) at a₁)); hit_below = leb-false _ _ a₂ }

    pub entry_passed : Entry b s → first (entry_rows b s) ≡ passed
    unfolding first
    entry_passed n = dite (ℕ_discrete (miss_entry b s) no_miss) (λ q. search tests) (λ q. let h = n.miss_below q in search tests)

  passed_entries : (s n : ℕ) → first (entries_rows b s n) ≡ passed → (j : ℕ) → s ≤ j → j < s + n → Entry b j
  unfolding entries_rows
  passed_entries s zero e j l h = absurd (omega arith)
  passed_entries s (suc n) e j l h =
      let (f, g) = both_passed (entry_rows b s) (entries_rows b (suc s) n) e in
      dite (ℕ_discrete s j) (λ q. subst (λ z. Entry b z) q (passed_entry s f)) (λ q. passed_entries (suc s) n g j (omega arith) (omega arith))

  entries_passed : (s n : ℕ) → ((j : ℕ) → s ≤ j → j < s + n → Entry b j) → first (entries_rows b s n) ≡ passed
  unfolding entries_rows first
  entries_passed s zero a = refl
  entries_passed s (suc n) a =
      passed_before (entry_rows b s) (entries_rows b (suc s) n) (entry_passed s (a s (omega arith) (omega arith))) ∙ entries_passed (suc s) n (λ j l h. a j (omega arith) (omega arith))

  pub passed_table : first (table_rows b) ≡ passed → Table b
  passed_table e =
      let (f, g) = both_passed (count_rows b) (entries_rows b 0 (state_count b)) e in
      record { counts = passed_counts f; entry = λ s h. passed_entries 0 (state_count b) g s (omega arith) (omega arith) }

  pub table_passed : Table b → first (table_rows b) ≡ passed
  table_passed t =
      passed_before _ _ (counts_passed t.counts) ∙ entries_passed 0 (state_count b) (λ j l h. t.entry j (omega arith))

  looked : (s : ℕ) → s < state_count b → Table b → first (look_rows b s) ≡ passed
  looked s h t =
      passed_before _ _ (counts_passed t.counts) ∙ first_skip 12 0 _ _ (lt-leb _ _ h) ∙ entry_passed s (t.entry s h)

  made : Table b → WellMade (machine_of b)
  made t = record { start_below = omega (arith, t.counts.some_state); next_below = below }
    where
      below : (s u : ℕ) (o : Bool) → s < state_count b → next_in b s o ≡ some u → u < state_count b
      below s u true h e = let f : hit_entry b s ≡ u = cc in omega (arith, (t.entry s h).hit_below)
      below s u false h e =
          dite (ℕ_discrete (miss_entry b s) no_miss)
          (λ q. absurd (none-ne-some u (rw (eq-eqb _ _ q) at e)))
          (λ q.
          let f : miss_entry b s ≡ u = cc (rw (ne_eqb _ _ q) at e) in
          omega (arith, (t.entry s h).miss_below q))

  module _ (e : first (table_rows b) ≡ passed) where
    pub checked_length : length b ≡ size_of (state_count b)
    checked_length = (passed_table e).counts.whole

    pub checked_looks : (s : ℕ) → s < state_count b → first (look_rows b s) ≡ passed
    checked_looks s h = looked s h (passed_table e)

    pub checked_well_made : WellMade (machine_of b)
    checked_well_made = made (passed_table e)
