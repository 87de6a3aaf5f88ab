-- Reading gives back what a record was written from, a written record passes every row that looks at the record alone, and a record that passes is the one of what it holds. The bytes are told apart by place, and the last ones by their distance from the end. Assumes nothing.
use mathlib.Core.Path.{◌≡◌, refl, sym, ap, ap₂, ◌∙◌}
use mathlib.Core.Bool.{true, false}
use mathlib.Core.List.{List, [], ◌∷◌, ◌++◌, map, append_assoc}
use Prim.Native.Nat.{ℕ, suc, ◌+◌, ◌-◌, ◌≤◌, ◌<◌}
use native.Mathlib.Omega.{arith}
use lib.ListN.{length, take, drop, replicate, length-append, length-map, length-drop, take-append-drop, drop_of_length-le}
use lib.Seq.{length-take-le, take_at, drop_at, get_or_at, drop-cons, drop-drop}
use Rattle.layout.specs.Bytes.{byte_at, four_at, four_bytes, eight_at, eight_bytes}
use Rattle.layout.specs.Refusal.{passed, refused, first}
use Rattle.layout.proofs.Head.{head_right}
use Rattle.layout.proofs.Rows.{passed_before, first_here}
use Rattle.layout.proofs.Numbers.{four_number, eight_number, eight_past, four_off, eight_off}
use Rattle.patterns.specs.Outcome.{bit, outcome, outcomes, outcome_rows}
use Rattle.patterns.proofs.Numbers.{bit_le}
use Rattle.patterns.proofs.Outcomes.{outcomes_passed, outcome_bit, bit_outcome, outcomes_bits, bits_outcomes, bits_passed}
use Rattle.guard.specs.declared.Guard.{Guard}
use Rattle.sets.specs.Bytes.{set_of}
use Rattle.sets.specs.Rows.{set_rows}
use Rattle.carry.specs.Bytes.{tail_size, around_set, size_of, head_bytes, tail_bytes, record_of, set_in, outcome_bytes, outcomes_in, count_in, lost_byte}
use Rattle.carry.specs.Rows.{wider, version_rows}
use Rattle.carry.proofs.Accepted.{Record, accepted_record, passed_record}

-- the parts of a written record; a guard in memory holds h outcomes
module _ (v h : ℕ) (set : List ℕ) (g : Guard) (held : length g.outcomes ≡ h) where
  abbrev bits : List ℕ
  bits = map bit g.outcomes

  abbrev count : List ℕ
  count = eight_bytes g.count

  abbrev lost : List ℕ
  lost = bit g.lost ∷ []

  bits_length : length bits ≡ h
  bits_length = length-map g.outcomes bit ∙ held

  tail_length : length (tail_bytes g) ≡ tail_size h
  tail_length = omega (arith, length-append (bits ++ count) lost, length-append bits count, bits_length)

  pub record_length : length (record_of v h set g) ≡ size_of h set
  record_length = omega (arith, length-append set (tail_bytes g), tail_length)

  past_head : drop (length (record_of v h set g) - tail_size h) (record_of v h set g) ≡ bits ++ (count ++ lost)
  past_head = drop_at (head_bytes v h set) (tail_bytes g) (length (record_of v h set g) - tail_size h) (omega (arith, record_length)) ∙ append_assoc bits count lost

  set_of_record : set_in h (record_of v h set g) ≡ set
  set_of_record = take_at set (tail_bytes g) (length (record_of v h set g) - around_set h) (omega (arith, record_length))

  outcome_bytes_of_record : outcome_bytes h (record_of v h set g) ≡ map bit g.outcomes
  outcome_bytes_of_record = ap (take h) past_head ∙ take_at bits (count ++ lost) h bits_length

  outcomes_of_record : outcomes (outcome_bytes h (record_of v h set g)) ≡ g.outcomes
  outcomes_of_record = ap outcomes outcome_bytes_of_record ∙ outcomes_bits g.outcomes

  -- where a guard holds n
  pub held_of_record : (n : ℕ) → outcomes_in n h (record_of v h set g) ≡ replicate (n - h) true ++ g.outcomes
  held_of_record n = ap (λ z. replicate (n - h) true ++ z) outcomes_of_record

  pub count_of_record : count_in (record_of v h set g) ≡ g.count
  count_of_record =
      let n = length (record_of v h set g) - 9 in
      let front = head_bytes v h set ++ bits in
      let cut : record_of v h set g ≡ front ++ (count ++ lost) = ap (λ z. head_bytes v h set ++ z) (append_assoc bits count lost) ∙ sym (append_assoc (head_bytes v h set) bits (count ++ lost)) in
      ap (λ z. eight_at z n) cut
      ∙ eight_past front (count ++ lost) n (omega (arith, record_length, length-append set bits, bits_length))
      ∙ eight_number g.count lost

  pub lost_of_record : lost_byte (record_of v h set g) ≡ bit g.lost
  lost_of_record =
      let n = length (record_of v h set g) - 1 in
      let front = head_bytes v h set ++ (bits ++ count) in
      ap (λ z. byte_at z n) (sym (append_assoc (head_bytes v h set) (bits ++ count) lost))
      ∙ get_or_at front (bit g.lost) [] 0 n (omega (arith, record_length, length-append set (bits ++ count), length-append bits count, bits_length))

pub record_accepted : (widest v h : ℕ) (set : List ℕ) (g : Guard) → first (set_rows widest set) ≡ passed → wider (suc h) (set_of set) ≡ false → length g.outcomes ≡ h
    → first (version_rows widest v h (record_of v h set g)) ≡ passed
record_accepted widest v h set g e filled held =
    let l = record_length v h set g held in
    let s = set_of_record v h set g held in
    passed_record widest v h (record_of v h set g) (record {
      least = omega arith;
      field = omega (arith, four_number (1 + length set + tail_size h));
      versioned = refl;
      set = ap (λ z. first (set_rows widest z)) s ∙ e;
      filled = ap (λ z. wider (suc h) (set_of z)) s ∙ filled;
      outcomes = ap (λ z. first (outcome_rows z 0)) (outcome_bytes_of_record v h set g held) ∙ bits_passed g.outcomes 0;
      lost = omega (arith, lost_of_record v h set g held, bit_le g.lost);
    })

-- and with a set that its outcomes don't fill it is refused by 20
pub record_too_wide : (widest v h : ℕ) (set : List ℕ) (g : Guard) → first (set_rows widest set) ≡ passed → wider (suc h) (set_of set) ≡ true → length g.outcomes ≡ h
    → first (version_rows widest v h (record_of v h set g)) ≡ refused 20 0
record_too_wide widest v h set g e wide held =
    let l = record_length v h set g held in
    let s = set_of_record v h set g held in
    let n = four_number (1 + length set + tail_size h) in
    passed_before _ _ (head_right (around_set h) v 18 18 (record_of v h set g) (omega arith) (omega (arith, n)) refl)
    ∙ passed_before _ _ (ap (λ z. first (set_rows widest z)) s ∙ e)
    ∙ first_here 20 0 _ _ (ap (λ z. wider (suc h) (set_of z)) s ∙ wide)

-- records that are equal hold the same
pub same_record : (v h : ℕ) (set : List ℕ) (g g' : Guard) → length g.outcomes ≡ h → length g'.outcomes ≡ h → record_of v h set g ≡ record_of v h set g'
    → (g.lost ≡ g'.lost) × (g.outcomes ≡ g'.outcomes) × (g.count ≡ g'.count)
same_record v h set g g' a b e = (
  sym (outcome_bit g.lost) ∙ ap outcome (sym (lost_of_record v h set g a) ∙ ap lost_byte e ∙ lost_of_record v h set g' b) ∙ outcome_bit g'.lost,
  sym (outcomes_of_record v h set g a) ∙ ap (λ z. outcomes (outcome_bytes h z)) e ∙ outcomes_of_record v h set g' b,
  sym (count_of_record v h set g a) ∙ ap count_in e ∙ count_of_record v h set g' b,
)

-- a record that passes is the record of what it holds
module _ (widest v h : ℕ) (r : List ℕ) (bytes : (i : ℕ) → byte_at r i < 256) (right : Record widest v h r) where
  abbrev n : ℕ
  n = length r

  end : bit (outcome (lost_byte r)) ∷ [] ≡ drop (n - 1) r
  end =
      let past : n ≤ suc (n - 1) = omega arith in
      sym (drop-cons r (n - 1) 0 (omega arith) ∙ ap₂ (λ a l. a ∷ l) (sym (bit_outcome (lost_byte r) right.lost)) (drop_of_length-le r past))

  tail_back : map bit (outcomes (outcome_bytes h r)) ++ eight_bytes (count_in r) ++ bit (outcome (lost_byte r)) ∷ [] ≡ drop (n - tail_size h) r
  tail_back =
      let os = outcome_bytes h r in
      let c = eight_bytes (count_in r) in
      let one : n - 1 ≡ n - 9 + 8 = omega arith in
      let nine : n - 9 ≡ n - tail_size h + h = omega arith in
      ap₂ (λ a l. a ++ c ++ l) (bits_outcomes os ((outcomes_passed os 0).0 right.outcomes)) end
      ∙ append_assoc os c (drop (n - 1) r)
      ∙ ap (λ k. os ++ (c ++ drop k r)) one
      ∙ ap (λ l. os ++ l) (eight_off r bytes (n - 9) (omega arith) ∙ ap (λ k. drop k r) nine ∙ sym (drop-drop h (n - tail_size h) r))
      ∙ take-append-drop h (drop (n - tail_size h) r)

  set_length : length (set_in h r) ≡ n - around_set h
  set_length = length-take-le (n - around_set h) (drop 5 r) (omega (arith, length-drop 5 r))

  set_back : set_in h r ++ drop (n - tail_size h) r ≡ drop 5 r
  set_back =
      let past : n - tail_size h ≡ 5 + (n - around_set h) = omega arith in
      ap (λ l. set_in h r ++ l) (ap (λ k. drop k r) past ∙ sym (drop-drop (n - around_set h) 5 r)) ∙ take-append-drop (n - around_set h) (drop 5 r)

  back : (s : ℕ) → record_of v h (set_in h r) (record { state = s; lost = outcome (lost_byte r); outcomes = outcomes (outcome_bytes h r); count = count_in r }) ≡ r
  back s =
      let field : 1 + length (set_in h r) + tail_size h ≡ four_at r 0 = omega (arith, set_length) in
      ap₂ (λ m l. four_bytes m ++ (v ∷ (set_in h r ++ l))) field tail_back
      ∙ ap₂ (λ x l. four_bytes (four_at r 0) ++ (x ∷ l)) (sym right.versioned) set_back
      ∙ ap (λ l. four_bytes (four_at r 0) ++ l) (sym (drop-cons r 4 0 (omega arith)))
      ∙ four_off r bytes 0 (omega arith)

pub one_record : (widest v h : ℕ) (r : List ℕ) → ((i : ℕ) → byte_at r i < 256) → first (version_rows widest v h r) ≡ passed
    → (s : ℕ) → record_of v h (set_in h r) (record { state = s; lost = outcome (lost_byte r); outcomes = outcomes (outcome_bytes h r); count = count_in r }) ≡ r
one_record widest v h r bytes e = back widest v h r bytes (accepted_record widest v h r e)
