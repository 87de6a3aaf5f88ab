-- The bytes of a machine pass the check and write that machine: a byte is told by its place, in the head's seven or in the two pairs of a state. Assumes nothing.
use mathlib.Core.Path.{◌≡◌, refl, sym, ap, ◌∙◌}
use mathlib.Core.Option.{Option, none, some}
use mathlib.Core.Bool.{Bool, true, false}
use mathlib.Core.List.{List, []}
use Prim.Native.Nat.{ℕ, zero, suc, ◌+◌, ◌*◌, ◌<◌}
use native.Mathlib.Nat.{zero-add, add-zero}
use native.Mathlib.Omega.{arith}
use borrow.Author.Tests.{eq-eqb, ne_eqb}
use lib.ListN.{length}
use lib.Seq.{get_or-append-add}
use Rattle.layout.specs.Bytes.{byte_at}
use Rattle.layout.specs.Refusal.{passed, first}
use Rattle.layout.proofs.Numbers.{four_number}
use Rattle.machines.specs.Machine.{Machine}
use Rattle.machines.specs.Canonical.{OneTable}
use Rattle.table.specs.Bytes.{size_of, pair_at, state_count, miss_entry, hit_entry, no_miss, next_in, machine_of, entry_of, row_bytes, head_then, bytes_of}
use Rattle.table.specs.Rows.{table_rows}
use Rattle.table.specs.Writable.{Writable}
use Rattle.table.proofs.Checked.{Table, table_passed}

-- the two pairs of state j in a list of rows
abbrev Pairs : List ℕ → (j miss hit : ℕ) → Type 0
Pairs l j miss hit = (pair_at l (4 * j) ≡ miss) × (pair_at l (4 * j + 2) ≡ hit)

module _ (m : Machine) where
  pub length_rows : (s n : ℕ) → length (row_bytes m s n) ≡ 4 * n
  unfolding row_bytes
  length_rows s zero = refl
  length_rows s (suc n) = let h = length_rows (suc s) n in omega arith

  rows_at : (s n j : ℕ) → j < n → Pairs (row_bytes m s n) j (entry_of (m.next (s + j) false)) (entry_of (m.next (s + j) true))
  unfolding row_bytes
  rows_at s zero j h = absurd (omega arith)
  rows_at s (suc n) zero h = rw (add-zero s) (omega arith, omega arith)
  rows_at s (suc n) (suc j) h =
      let p₀ : 4 * suc j ≡ suc (suc (suc (suc (4 * j)))) = omega arith in
      let p₁ : 4 * suc j + 1 ≡ suc (suc (suc (suc (4 * j + 1)))) = omega arith in
      let p₂ : 4 * suc j + 2 ≡ suc (suc (suc (suc (4 * j + 2)))) = omega arith in
      let p₃ : 4 * suc j + 2 + 1 ≡ suc (suc (suc (suc (4 * j + 2 + 1)))) = omega arith in
      let e : suc s + j ≡ s + suc j = omega arith in
      let (f, g) = rows_at (suc s) n j (omega arith) in
      (cc, cc)

  abbrev b : List ℕ
  b = bytes_of m

  abbrev n : ℕ
  n = m.states

  past_head : (k : ℕ) → byte_at b (7 + k) ≡ byte_at (row_bytes m 0 n) k
  past_head k = get_or-append-add (head_then n []) (row_bytes m 0 n) k 0

  entries_at : (s : ℕ) → s < n → (miss_entry b s ≡ entry_of (m.next s false)) × (hit_entry b s ≡ entry_of (m.next s true))
  entries_at s h =
      let p₁ : 7 + 4 * s + 1 ≡ 7 + (4 * s + 1) = omega arith in
      let p₂ : 9 + 4 * s ≡ 7 + (4 * s + 2) = omega arith in
      let p₃ : 9 + 4 * s + 1 ≡ 7 + (4 * s + 2 + 1) = omega arith in
      let (f, g) = rows_at 0 n s h in (
        cc (past_head (4 * s), past_head (4 * s + 1), zero-add s),
        cc (past_head (4 * s + 2), past_head (4 * s + 2 + 1), zero-add s),
      )

  count_of_bytes : state_count b ≡ n
  count_of_bytes = omega arith

  module _ (w : Writable m) where
    hit_read : (s : ℕ) → s < n → m.next s true ≡ some (hit_entry b s)
    hit_read s h =
        let (t, e) = w.hit_allowed s h in
        cc (entries_at s h).1

    next_small : (s t : ℕ) (o : Bool) → s < n → m.next s o ≡ some t → t < 32768
    next_small s t o h e = omega (arith, w.most, w.well_made.next_below s t o h e)

    miss_read : (s : ℕ) → s < n → m.next s false ≡ next_in b s false
    miss_read s h = go (m.next s false) refl
      where
        go : (r : Option ℕ) → m.next s false ≡ r → r ≡ next_in b s false
        go none e =
            let f : miss_entry b s ≡ no_miss = cc (entries_at s h).0 in
            rw (eq-eqb _ _ f)
        go (some t) e =
            let f : miss_entry b s ≡ t = cc (entries_at s h).0 in
            let g : miss_entry b s ≡ no_miss → ⊥ = λ q. omega (arith, next_small s t false h e) in
            rw (ne_eqb _ _ g) (cc)

    pub machine_of_bytes : OneTable (machine_of b) m
    machine_of_bytes = record { states = count_of_bytes; moves = moves }
      where
        moves : (s : ℕ) (o : Bool) → s < state_count b → next_in b s o ≡ m.next s o
        moves s true h = sym (hit_read s (omega arith))
        moves s false h = sym (miss_read s (omega arith))

    table_of_bytes : Table b
    table_of_bytes = record {
      counts = record {
        whole = omega (arith, length_rows 0 n);
        rest = four_number (3 + 4 * n) ∙ sym (ap (λ k. 3 + 4 * k) count_of_bytes);
        one = refl;
        some_state = omega (arith, w.well_made.start_below);
        most = omega (arith, w.most);
      };
      entry = λ s h. record {
        miss_below = λ d. omega (arith, w.well_made.next_below s (miss_entry b s) false (omega arith) (miss_read s (omega arith) ∙ (rw (ne_eqb _ _ d))));
        hit_below = omega (arith, w.well_made.next_below s (hit_entry b s) true (omega arith) (hit_read s (omega arith)));
      };
    }

    pub bytes_checked : first (table_rows b) ≡ passed
    bytes_checked = table_passed b table_of_bytes

-- one table, one byte form
rows_alike : (m n : Machine) (s k : ℕ) → ((j : ℕ) (o : Bool) → j < s + k → m.next j o ≡ n.next j o) → row_bytes m s k ≡ row_bytes n s k
unfolding row_bytes
rows_alike m n s zero a = refl
rows_alike m n s (suc k) a =
    let e = a s false (omega arith) in
    let f = a s true (omega arith) in
    let g = rows_alike m n (suc s) k (λ j o h. a j o (omega arith)) in
    cc

pub bytes_of_one_table : (m n : Machine) → OneTable m n → bytes_of m ≡ bytes_of n
bytes_of_one_table m n e =
    let f = e.states in
    let g = rows_alike m n 0 m.states (λ j o h. e.moves j o (omega arith)) in
    cc

pub bytes_length : (m : Machine) → length (bytes_of m) ≡ size_of m.states
bytes_length m = omega (arith, length_rows m 0 m.states)
