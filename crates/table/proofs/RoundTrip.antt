-- Bytes that pass the check are the bytes of the machine that they write, so tables and bytes correspond one to one: pair by pair they are read and written again. Assumes nothing.
use mathlib.Core.Path.{◌≡◌, refl, sym, ap, ◌∙◌}
use mathlib.Core.Logic.{dite}
use mathlib.Core.Bool.{false}
use mathlib.Core.List.{List}
use Prim.Native.Nat.{ℕ, zero, suc, ◌+◌, ◌*◌, ◌/◌, ◌%◌, ◌≤◌, ◌<◌}
use native.Mathlib.Decide.{ℕ_discrete}
use native.Mathlib.Omega.{arith}
use borrow.Author.Tests.{eq-eqb, ne_eqb}
use lib.ListN.{length, drop}
use lib.Seq.{drop-cons, drop-length}
use Rattle.layout.specs.Bytes.{byte_at}
use Rattle.layout.specs.Refusal.{passed, first}
use Rattle.machines.specs.Canonical.{OneTable}
use Rattle.table.specs.Bytes.{pair_at, state_count, miss_entry, hit_entry, no_miss, next_in, machine_of, entry_of, pair_bytes, row_bytes, bytes_of}
use Rattle.table.specs.Rows.{table_rows}
use Rattle.table.specs.Writable.{Writable}
use Rattle.table.proofs.Checked.{passed_table, checked_well_made}
use Rattle.table.proofs.Bytes.{bytes_of_one_table}

module _ (b : List ℕ) (e : first (table_rows b) ≡ passed) (byte : (i : ℕ) → byte_at b i < 256) where
  pair_off : (i : ℕ) → i + 2 ≤ length b → pair_bytes (pair_at b i) (drop (i + 2) b) ≡ drop i b
  pair_off i h =
      let p : suc i ≡ i + 1 = omega arith in
      let q : suc (suc i) ≡ i + 2 = omega arith in
      let f : pair_at b i / 256 ≡ byte_at b i = omega (arith, byte i, byte (i + 1)) in
      let g : pair_at b i % 256 ≡ byte_at b (i + 1) = omega (arith, byte i, byte (i + 1)) in
      cc (drop-cons b i 0 (omega arith), drop-cons b (suc i) 0 (omega arith))

  entry_of_next : (s : ℕ) → entry_of (next_in b s false) ≡ miss_entry b s
  entry_of_next s = dite (ℕ_discrete (miss_entry b s) no_miss) (λ q. rw (eq-eqb _ _ q) (sym q)) (λ q. rw (ne_eqb _ _ q))

  rows_back : (s n : ℕ) → length b ≡ 7 + 4 * (s + n) → row_bytes (machine_of b) s n ≡ drop (7 + 4 * s) b
  unfolding row_bytes
  rows_back s zero l = let g : 7 + 4 * s ≡ length b = omega arith in sym (ap (λ k. drop k b) g ∙ drop-length b)
  rows_back s (suc n) l =
      let p : 7 + 4 * s + 2 ≡ 9 + 4 * s = omega arith in
      let q : 9 + 4 * s + 2 ≡ 7 + 4 * suc s = omega arith in
      cc (entry_of_next s, rows_back (suc s) n (omega arith), pair_off (7 + 4 * s) (omega arith), pair_off (9 + 4 * s) (omega arith))

  pub bytes_of_machine : bytes_of (machine_of b) ≡ b
  bytes_of_machine =
      let c = (passed_table b e).counts in
      let n = state_count b in
      let z₀ : (3 + 4 * n) / 16777216 ≡ byte_at b 0 = omega (arith, byte 0, byte 1, byte 2, byte 3) in
      let z₁ : (3 + 4 * n) / 65536 % 256 ≡ byte_at b 1 = omega (arith, byte 0, byte 1, byte 2, byte 3) in
      let z₂ : (3 + 4 * n) / 256 % 256 ≡ byte_at b 2 = omega (arith, byte 0, byte 1, byte 2, byte 3) in
      let z₃ : (3 + 4 * n) % 256 ≡ byte_at b 3 = omega (arith, byte 0, byte 1, byte 2, byte 3) in
      cc (rows_back 0 n (omega arith), pair_off 5 (omega arith), drop-cons b 0 0 (omega arith), drop-cons b 1 0 (omega arith), drop-cons b 2 0 (omega arith), drop-cons b 3 0 (omega arith), drop-cons b 4 0 (omega arith))

pub checked_writable : (b : List ℕ) → first (table_rows b) ≡ passed → Writable (machine_of b)
checked_writable b e = record {
  well_made = checked_well_made b e;
  starts_at_0 = refl;
  most = (passed_table b e).counts.most;
  hit_allowed = λ s h. (hit_entry b s, refl);
}

pub one_table_one_form : (b b' : List ℕ) → first (table_rows b) ≡ passed → first (table_rows b') ≡ passed
    → ((i : ℕ) → byte_at b i < 256) → ((i : ℕ) → byte_at b' i < 256) → OneTable (machine_of b) (machine_of b') → b ≡ b'
one_table_one_form b b' e e' h h' o =
    sym (bytes_of_machine b e h) ∙ bytes_of_one_table (machine_of b) (machine_of b') o ∙ bytes_of_machine b' e' h'
