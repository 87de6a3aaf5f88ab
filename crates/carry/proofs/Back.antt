-- A guard that is written and read back on a table that passes the check, where the outcomes that it holds lead to its state: it is the guard that was written, field for field. And that this many outcomes reach as far back as the longest window asks. Assumes nothing.
use mathlib.Core.Path.{◌≡◌, refl, sym, ap, ap₂, subst, ◌∙◌}
use mathlib.Core.Option.{some}
use mathlib.Core.Bool.{Bool, true, false}
use mathlib.Core.List.{List, [], ◌∷◌, ◌++◌}
use Prim.Native.Nat.{ℕ, suc, ◌-◌, ◌≤◌}
use native.Mathlib.Omega.{arith}
use lib.ListN.{length, take, drop, replicate}
use lib.Seq.{take_at}
use Rattle.layout.specs.Refusal.{passed, first}
use Rattle.std.specs.Prelude.{Result, Ok}
use Rattle.layout.specs.declared.Refused.{Refused}
use Rattle.layout.specs.Write.{room_row, length_when, buffer_when}
use Rattle.layout.proofs.Rows.{both_passed, passed_before, long_enough}
use Rattle.layout.proofs.Write.{written_by}
use Rattle.patterns.specs.Outcome.{outcome}
use Rattle.patterns.proofs.Outcomes.{outcome_bit}
use Rattle.machines.specs.Machine.{walk}
use Rattle.meaning.specs.Longest.{longest}
use Rattle.sets.specs.Bytes.{set_of}
use Rattle.sets.specs.Rows.{set_rows}
use Rattle.table.specs.Bytes.{machine_of}
use Rattle.table.specs.Rows.{table_rows}
use Rattle.guard.specs.declared.Guard.{Guard}
use Rattle.guard.specs.Guard.{held}
use Rattle.carry.specs.Bytes.{new_version, carried, size_of, record_of, count_in}
use Rattle.carry.specs.Rows.{write_rows, wider}
use Rattle.carry.specs.Write.{RecordWrittenAs}
use Rattle.carry.specs.Read.{ReadInVersion, ReadBackAs}
use Rattle.carry.proofs.Accepted.{taken_not_wider}
use Rattle.carry.proofs.Reading.{back_led}
use Rattle.carry.proofs.OneResult.{read_back_one_result}
use Rattle.carry.proofs.RoundTrip.{record_length, held_of_record, count_of_record, lost_of_record, record_accepted}

-- A guard holds as many outcomes as a record, and with the next one they fill the longest window. Where any two of these numbers differ, this fails.
pub held_are_carried : held ≡ carried
held_are_carried = refl

pub carried_and_one : suc carried ≡ longest
carried_and_one = refl

-- a record of a version with h outcomes, read where a guard holds n: hits stand for the older ones
module _ (w n v h : ℕ) (set : List ℕ) (g : Guard) (many : length g.outcomes ≡ h) (accepted : first (set_rows w set) ≡ passed) (filled : wider (suc h) (set_of set) ≡ false) where
  pub read_in_version : (b : List ℕ) → first (table_rows b) ≡ passed → (s : ℕ) → walk (machine_of b) 0 (replicate (n - h) true ++ g.outcomes) ≡ some s
      → ReadInVersion w n v h (record_of v h set g) b (Ok (record { state = s; lost = g.lost; outcomes = replicate (n - h) true ++ g.outcomes; count = g.count }))
  read_in_version b checked s leads =
      let r = record_of v h set g in
      let os = held_of_record v h set g many n in
      let lost = ap outcome (lost_of_record v h set g many) ∙ outcome_bit g.lost in
      subst (ReadInVersion w n v h r b)
      (ap₂ {C = Result Guard Refused} (λ l o. Ok (record { state = s; lost = l; outcomes = o; count = count_in r })) lost os
      ∙ ap {B = Result Guard Refused} (λ c. Ok (record { state = s; lost = g.lost; outcomes = replicate (n - h) true ++ g.outcomes; count = c })) (count_of_record v h set g many))
      (back_led w n v h r b (record_accepted w v h set g accepted filled many) checked s (ap (walk (machine_of b) 0) os ∙ leads))

-- of as many outcomes as a guard holds none are older
none_older : (h : ℕ) (os : List Bool) → replicate (h - h) true ++ os ≡ os
none_older h os = let z : h - h ≡ 0 = omega arith in ap (λ k. replicate k true ++ os) z

module _ (w h : ℕ) (set : List ℕ) (g : Guard) (many : length g.outcomes ≡ h) where
  -- what was written is the record
  pub written_record : (out out' : List ℕ) (n : ℕ) → RecordWrittenAs w h g set out out' (Ok n) → (first (set_rows w set) ≡ passed) × (take n out' ≡ record_of new_version h set g)
  written_record out out' n written =
      let e = sym written.answer in
      let size : n ≡ size_of h set = written.length_written ∙ ap (λ t. length_when t (size_of h set)) e in (
        (both_passed (set_rows w set) (room_row out (size_of h set) ∷ []) e).0,
        ap (take n) (written.buffer ∙ ap (λ t. buffer_when t (size_of h set) (record_of new_version h set g) out) e)
            ∙ take_at (record_of new_version h set g) (drop (size_of h set) out) n (record_length new_version h set g many ∙ sym size),
      )

  -- and given room it is written
  pub can_be_written : (out : List ℕ) → first (set_rows w set) ≡ passed → size_of h set ≤ length out → RecordWrittenAs w h g set out (record_of new_version h set g ++ drop (size_of h set) out) (Ok (size_of h set))
  can_be_written out e room =
      written_by (write_rows w h set out) (size_of h set) (record_of new_version h set g) out passed _ (Ok (size_of h set))
      (passed_before (set_rows w set) (room_row out (size_of h set) ∷ []) e ∙ long_enough 9 (size_of h set) (length out) (size_of h set) room) refl refl refl

  module _ (fills : w ≡ suc h) where
    pub reads_back : (b : List ℕ) → first (set_rows w set) ≡ passed → first (table_rows b) ≡ passed → walk (machine_of b) 0 g.outcomes ≡ some g.state
        → ReadBackAs w h (record_of new_version h set g) b (Ok g)
    reads_back b accepted checked leads =
        let filled = subst (λ z. wider z (set_of set) ≡ false) fills (taken_not_wider w w set accepted) in
        subst (λ os. ReadBackAs w h (record_of new_version h set g) b (Ok (record { state = g.state; lost = g.lost; outcomes = os; count = g.count }))) (none_older h g.outcomes)
        (read_in_version w h new_version h set g many accepted filled b checked g.state (ap (walk (machine_of b) 0) (none_older h g.outcomes) ∙ leads))

    -- written and read back
    pub carried_back : (b out out' : List ℕ) (n : ℕ) (r : Result Guard Refused) → first (table_rows b) ≡ passed → walk (machine_of b) 0 g.outcomes ≡ some g.state
        → RecordWrittenAs w h g set out out' (Ok n) → ReadBackAs w h (take n out') b r → r ≡ Ok g
    carried_back b out out' n r checked leads written back =
        let (accepted, e) = written_record out out' n written in
        read_back_one_result w h (record_of new_version h set g) b r (Ok g) (subst (λ z. ReadBackAs w h z b r) e back) (reads_back b accepted checked leads)
