-- Reading gives back the outcomes that were written, and a pattern has one log. The bytes are told apart by place: the head's nine, and one for eight outcomes. Assumes nothing.
use mathlib.Core.Path.{◌≡◌, refl, sym, ap, ap₂, ◌∙◌}
use mathlib.Core.Logic.{dite}
use mathlib.Core.Bool.{Bool, false}
use mathlib.Core.List.{List, [], ◌∷◌, ◌++◌}
use Prim.Native.Nat.{ℕ, zero, suc, ◌+◌, ◌-◌, ◌*◌, ◌/◌, ◌%◌, ◌^◌, ◌≤◌, ◌<◌}
use native.Mathlib.Decide.{dec_lt}
use native.Mathlib.Omega.{arith}
use lib.ListN.{length, drop, length-drop, get_or-eq_default}
use lib.Seq.{drop-cons, get_or-drop, get_or-append-add, ext_get_or}
use Rattle.layout.specs.Bytes.{byte_at, four_bytes}
use Rattle.layout.specs.Refusal.{passed, first}
use Rattle.layout.proofs.Numbers.{four_number, four_off}
use Rattle.patterns.specs.Outcome.{outcome}
use Rattle.night_log.specs.Bytes.{packed_size, size_of, outcome_at, byte_from, packed, head_bytes, log_of, count_of, outcome_in, outcomes_of}
use Rattle.night_log.specs.Rows.{most_outcomes, unused_bits, log_rows}
use Rattle.night_log.proofs.Accepted.{Log, accepted_log, passed_log}
use Rattle.night_log.proofs.Outcomes.{outcomes_length, outcomes_at}
use Rattle.night_log.proofs.Packing.{packed_length, packed_byte, byte_lt, byte_bit, byte_low, byte_back, zero_bit}

-- the log of a pattern

module _ (p : List Bool) where
  log_count : count_of (log_of p) ≡ length p
  log_count = four_number (length p)

  log_byte : (k : ℕ) → k < packed_size (length p) → byte_at (log_of p) (9 + k) ≡ byte_from p (8 * k)
  log_byte k h =
      let m = packed_size (length p) in
      get_or-append-add (head_bytes (length p)) (packed p 0 m) k 0 ∙ packed_byte p m k h

  unused_zero : byte_at (log_of p) (8 + packed_size (length p)) % 2 ^ unused_bits (length p) ≡ 0
  unused_zero =
      let n = length p in
      let k = packed_size n - 1 in
      dite (dec_lt 0 n)
      (λ some.
      let e : 8 + packed_size n ≡ 9 + k = omega arith in
      ap (λ z. z % 2 ^ unused_bits n) (ap (byte_at (log_of p)) e ∙ log_byte k (omega arith)) ∙ byte_low p (8 * k) (unused_bits n) (omega arith) (omega arith))
      (λ none. let e : unused_bits n ≡ 0 = omega arith in ap (λ u. byte_at (log_of p) (8 + packed_size n) % 2 ^ u) e ∙ omega arith)

  pub log_accepted : first (log_rows (log_of p)) ≡ passed
  log_accepted = passed_log (log_of p) (record {
    size = omega (arith, packed_length p 0 (packed_size (length p))) ∙ ap size_of (sym log_count);
    field = four_number (5 + packed_size (length p)) ∙ ap (λ z. 5 + packed_size z) (sym log_count);
    versioned = refl;
    unused = ap (λ z. byte_at (log_of p) (8 + packed_size z) % 2 ^ unused_bits z) log_count ∙ unused_zero;
  })

  log_outcome : (i : ℕ) → i < length p → outcome_in (log_of p) i ≡ outcome_at p i
  log_outcome i h =
      let e : 8 * (i / 8) + i % 8 ≡ i = omega arith in
      ap (λ z. outcome (z / 2 ^ (7 - i % 8) % 2)) (log_byte (i / 8) (omega arith)) ∙ byte_bit p (8 * (i / 8)) (i % 8) (omega arith) ∙ ap (outcome_at p) e

  pub log_outcomes : outcomes_of (log_of p) ≡ p
  log_outcomes =
      let l = outcomes_length (log_of p) ∙ log_count in
      ext_get_or false (outcomes_of (log_of p)) p l (λ i h. outcomes_at (log_of p) i (omega arith) ∙ log_outcome i (omega arith))

-- it is bytes where four of them can count the outcomes

abbrev Bytes : List ℕ → Type 0
Bytes [] = Unit {0}
Bytes (x ∷ b) = (x < 256) × Bytes b

bytes_at : (b : List ℕ) → Bytes b → (i : ℕ) → byte_at b i < 256
bytes_at [] h i = omega arith
bytes_at (x ∷ b) (h, t) zero = h
bytes_at (x ∷ b) (h, t) (suc i) = bytes_at b t i

packed_bytes : (p : List Bool) (j n : ℕ) → Bytes (packed p j n)
unfolding packed
packed_bytes p j zero = tt
packed_bytes p j (suc n) = (byte_lt p (8 * j), packed_bytes p (suc j) n)

four_bytes_lem : (n : ℕ) (b : List ℕ) → n ≤ most_outcomes → Bytes b → Bytes (four_bytes n ++ b)
four_bytes_lem n b h t = (omega arith, (omega arith, (omega arith, (omega arith, t))))

pub log_bytes : (p : List Bool) → length p ≤ most_outcomes → (i : ℕ) → byte_at (log_of p) i < 256
log_bytes p h =
    let n = length p in
    let m = packed_size n in
    let b = packed p 0 m in
    bytes_at (log_of p) (four_bytes_lem (5 + m) (1 ∷ (four_bytes n ++ b)) (omega arith) (omega arith, four_bytes_lem n b h (packed_bytes p 0 m)))

-- the bytes that were read, written again

module _ (b : List ℕ) (bytes : (i : ℕ) → byte_at b i < 256) where
  byte_read : Log b → (k : ℕ) → k < packed_size (count_of b) → byte_from (outcomes_of b) (8 * k) ≡ byte_at b (9 + k)
  byte_read l k h = byte_back (outcomes_of b) (8 * k) (byte_at b (9 + k)) (bytes (9 + k)) (λ r g. dite (dec_lt (8 * k + r) (count_of b))
      (λ inside.
      let d : (8 * k + r) / 8 ≡ k = omega arith in
      let s : (8 * k + r) % 8 ≡ r = omega arith in
      outcomes_at b (8 * k + r) inside ∙ ap₂ (λ j t. outcome (byte_at b (9 + j) / 2 ^ (7 - t) % 2)) d s)
      (λ past.
      let e : 9 + k ≡ 8 + packed_size (count_of b) = omega arith in
      let u = unused_bits (count_of b) in
      get_or-eq_default (outcomes_of b) false (omega (arith, outcomes_length b))
      ∙ sym (zero_bit (byte_at b (9 + k)) u r g (omega arith) (ap (λ z. byte_at b z % 2 ^ u) e ∙ l.unused))))

  packed_read : Log b → packed (outcomes_of b) 0 (packed_size (count_of b)) ≡ drop 9 b
  packed_read l =
      let q = outcomes_of b in
      let m = packed_size (count_of b) in
      let long = packed_length q 0 m in
      ext_get_or 0 (packed q 0 m) (drop 9 b) (omega (arith, length-drop 9 b)) (λ k h.
      let g : k < m = omega arith in
      packed_byte q m k g ∙ byte_read l k g ∙ sym (get_or-drop 9 b k 0))

  pub log_of_outcomes : first (log_rows b) ≡ passed → log_of (outcomes_of b) ≡ b
  log_of_outcomes e =
      let l = accepted_log b e in
      let z : length (outcomes_of b) ≡ count_of b = outcomes_length b in
      cc (packed_read l, four_off b bytes 0 (omega arith), four_off b bytes 5 (omega arith), drop-cons b 4 0 (omega arith))

pub one_log : (b b' : List ℕ) → ((i : ℕ) → byte_at b i < 256) → ((i : ℕ) → byte_at b' i < 256)
    → first (log_rows b) ≡ passed → first (log_rows b') ≡ passed → outcomes_of b ≡ outcomes_of b' → b ≡ b'
one_log b b' h h' p p' e = sym (log_of_outcomes b h p) ∙ ap log_of e ∙ log_of_outcomes b' h' p'
