-- The demands of the carry-over record, in the library and at the C boundary: each entry is refused exactly by the first row that holds, by its own numbers, and a refusal writes nothing and gives a guard with nothing told; an accepted record has one guard, and equal records hold the same. (That a change gives back the guard that was written: `Demand2`, and here at the boundary.) Assumes nothing.
use mathlib.Core.Path.{◌≡◌, refl, sym, ap, subst, ◌∙◌}
use mathlib.Core.Option.{Option, none, some}
use mathlib.Core.Bool.{true, false, true≢false}
use mathlib.Core.List.{List, [], ◌∷◌, ◌++◌}
use Prim.Native.Nat.{ℕ, ◌-◌, ◌<◌}
use native.Mathlib.Omega.{arith}
use lib.ListN.{length, take, replicate, length-map}
use Rattle.std.specs.Prelude.{⊤, Result, Ok, Err}
use Rattle.layout.specs.Bytes.{byte_at}
use Rattle.layout.specs.Refusal.{row, passed, first}
use Rattle.layout.specs.declared.Refused.{Refused}
use Rattle.layout.specs.Refused.{number_of, beside, says}
use Rattle.layout.proofs.Write.{refused_leaves_buffer}
use Rattle.layout.proofs.Rows.{both_passed, passed_first}
use Rattle.patterns.specs.Outcome.{outcome, outcomes}
use Rattle.meaning.specs.Longest.{longest}
use Rattle.table.specs.Rows.{table_rows}
use Rattle.guard.specs.declared.Guard.{Guard}
use Rattle.guard.specs.Guard.{fresh, StartedAs}
use Rattle.carry.specs.Bytes.{new_version, version_for, many_in, carried, set_in, outcome_bytes, count_in, lost_byte, record_of}
use Rattle.carry.specs.Rows.{write_rows, version_rows, led_to, leads_nowhere, read_rows}
use Rattle.carry.specs.Write.{RecordWrittenAs}
use Rattle.carry.specs.Read.{guard_in, guard_at, guard_when, ReadBackAs}
use Rattle.carry.proofs.Parts.{outcome_count}
use Rattle.carry.proofs.Accepted.{accepted_record}
use Rattle.carry.proofs.RoundTrip.{same_record, one_record}
use Rattle.carry.proofs.Back.{written_record}
use Rattle.flat.specs.declared.FloeWritten.{FloeWritten}
use Rattle.flat.specs.declared.FloeStarted.{FloeStarted}
use Rattle.flat.specs.Flat.{FlatAnswer, flat_written, flat_back}
use Rattle.demands.specs.Refusing.{RefusedBy, Refuses, RefusesFlat}
use Rattle.demands.specs.TableOf.{TableOf}
use Rattle.demands.specs.Carrying.{Changed, Event, Through, with_last}
use Rattle.demands.proofs.Numbers.{CarryWriteNumber, carry_write_numbers, carry_write_positive, CarryReadNumber, carry_read_numbers, carry_read_positive}
use Rattle.demands.proofs.Refusing.{refuses}
use Rattle.demands.proofs.FlatAnswers.{opens_refuses, written_opens, back_opens}
use Rattle.demands.proofs.OldRecords.{last_of}
use Rattle.demands.proofs.Demand2.{change_gives_same}

-- Writing a record.
module _ (g : Guard) (set out out' : List ℕ) (r : Result ℕ Refused) (written : RecordWrittenAs longest carried g set out out' r) where
  pub carry_write_refuses : Refuses CarryWriteNumber (first (write_rows longest carried set out)) r
  carry_write_refuses = refuses CarryWriteNumber (write_rows longest carried set out) r (carry_write_numbers longest carried set out) written.answer

  pub refused_carry_write_leaves_buffer : (n v : ℕ) → RefusedBy r n v → out' ≡ out
  refused_carry_write_leaves_buffer n v e = refused_leaves_buffer written ((carry_write_refuses.exactly n v).0 e)

-- Two guards in memory, of as many outcomes as a guard holds, that were written with one set to equal bytes: equal but for the state.
pub equal_bytes_equal_guards : (g g' : Guard) → length g.outcomes ≡ carried → length g'.outcomes ≡ carried → (set out o out₂ o₂ : List ℕ) (n n₂ : ℕ)
    → RecordWrittenAs longest carried g set out o (Ok n) → RecordWrittenAs longest carried g' set out₂ o₂ (Ok n₂) → take n o ≡ take n₂ o₂
    → (g.lost ≡ g'.lost) × (g.outcomes ≡ g'.outcomes) × (g.count ≡ g'.count)
equal_bytes_equal_guards g g' many many' set out o out₂ o₂ n n₂ w w₂ e =
    same_record new_version carried set g g' many many' (sym (written_record longest carried set g many out o n w).1 ∙ e ∙ (written_record longest carried set g' many' out₂ o₂ n₂ w₂).1)

-- Reading one back.
module _ (r b : List ℕ) (back : Result Guard Refused) (read : ReadBackAs longest carried r b back) where
  pub carry_read_refuses : Refuses CarryReadNumber (first (read_rows longest carried (version_for r) (many_in carried r) r b)) back
  carry_read_refuses = refuses CarryReadNumber (read_rows longest carried (version_for r) (many_in carried r) r b) back (carry_read_numbers longest carried (version_for r) (many_in carried r) r b) read.refusal

  pub refused_carry_read_gives_fresh : (n v : ℕ) → RefusedBy back n v → guard_in back ≡ fresh
  refused_carry_read_gives_fresh n v e = read.guard ∙ ap (λ t. guard_when t carried (many_in carried r) r b) ((carry_read_refuses.exactly n v).0 e)

  -- A record that is accepted gives the guard that it holds, in some state.
  module _ (h : Guard) (accepted : back ≡ Ok h) where
    all_passed : first (read_rows longest carried (version_for r) (many_in carried r) r b) ≡ passed
    all_passed = sym read.refusal ∙ ap says accepted

    tests : (first (version_rows longest (version_for r) (many_in carried r) r) ≡ passed) × (first (table_rows b ++ row 25 (leads_nowhere (led_to carried (many_in carried r) r b)) 0 ∷ []) ≡ passed)
    tests = both_passed (version_rows longest (version_for r) (many_in carried r) r) (table_rows b ++ row 25 (leads_nowhere (led_to carried (many_in carried r) r b)) 0 ∷ []) all_passed

    leads : leads_nowhere (led_to carried (many_in carried r) r b) ≡ false
    leads = (passed_first _ _ (both_passed (table_rows b) (row 25 (leads_nowhere (led_to carried (many_in carried r) r b)) 0 ∷ []) tests.1).1).0

    holds : (s : ℕ) × (h ≡ guard_at (some s) carried (many_in carried r) r)
    holds = go (led_to carried (many_in carried r) r b) refl
      where
        go : (x : Option ℕ) → led_to carried (many_in carried r) r b ≡ x → (s : ℕ) × (h ≡ guard_at (some s) carried (many_in carried r) r)
        go none e = absurd (true≢false (sym (ap leads_nowhere e) ∙ leads))
        go (some s) e = (s, sym (ap guard_in accepted) ∙ read.guard ∙ ap (λ t. guard_when t carried (many_in carried r) r b) all_passed ∙ ap (λ z. guard_at z carried (many_in carried r) r) e)

    -- It is the record of that guard and of its own set in the version that it says, with as many of the guard's last outcomes as that version has: there is no other of that version. (Bytes of memory are below 256.)
    pub accepted_is_record_of_its_guard : ((i : ℕ) → byte_at r i < 256) → record_of (version_for r) (many_in carried r) (set_in (many_in carried r) r) (with_last (many_in carried r) h) ≡ r
    accepted_is_record_of_its_guard bytes =
        let k = many_in carried r in
        let (s, e) = holds in
        let least = (accepted_record longest (version_for r) k r tests.0).least in
        let many = outcome_count k r (omega arith) in
        let last = last_of (replicate (carried - k) true) (outcomes (outcome_bytes k r)) k (length-map (outcome_bytes k r) outcome ∙ many) in
        ap (λ z. record_of (version_for r) k (set_in k r) (with_last k z)) e
        ∙ ap (λ os. record_of (version_for r) k (set_in k r) (record { state = s; lost = outcome (lost_byte r); outcomes = os; count = count_in r })) last
        ∙ one_record longest (version_for r) k r bytes tests.0 s

-- An accepted record has one guard: on whichever tables it is read, what comes is equal but for the state.
pub accepted_record_has_one_guard : (r b b₂ : List ℕ) (g g₂ : Guard) → ReadBackAs longest carried r b (Ok g) → ReadBackAs longest carried r b₂ (Ok g₂)
    → (g.lost ≡ g₂.lost) × (g.outcomes ≡ g₂.outcomes) × (g.count ≡ g₂.count)
accepted_record_has_one_guard r b b₂ g g₂ read read₂ =
    let (s, e) = holds r b (Ok g) read g refl in
    let (t, f) = holds r b₂ (Ok g₂) read₂ g₂ refl in
    (ap (λ z. z.lost) e ∙ sym (ap (λ z. z.lost) f), ap (λ z. z.outcomes) e ∙ sym (ap (λ z. z.outcomes) f), ap (λ z. z.count) e ∙ sym (ap (λ z. z.count) f))

-- The boundary.
pub floe_carry_write_refuses : (g : Guard) (set out out' : List ℕ) (f : FloeWritten) → FlatAnswer (RecordWrittenAs longest carried g set out out') flat_written f → RefusesFlat CarryWriteNumber (first (write_rows longest carried set out)) f.refused f.at
floe_carry_write_refuses g set out out' f (a, written, e) =
    rw e (opens_refuses CarryWriteNumber (write_rows longest carried set out) carry_write_positive (carry_write_numbers longest carried set out) (written_opens a) written.answer)

pub floe_carry_read_refuses : (r b : List ℕ) (f : FloeStarted) → FlatAnswer (ReadBackAs longest carried r b) flat_back f → RefusesFlat CarryReadNumber (first (read_rows longest carried (version_for r) (many_in carried r) r b)) f.refused f.at
floe_carry_read_refuses r b f (a, read, e) =
    rw e (opens_refuses CarryReadNumber (read_rows longest carried (version_for r) (many_in carried r) r b) carry_read_positive (carry_read_numbers longest carried (version_for r) (many_in carried r) r b) (back_opens a) read.refusal)

-- A record that is refused gives C a guard with nothing told.
pub floe_refused_carry_read_gives_fresh : (r b : List ℕ) (f : FloeStarted) → FlatAnswer (ReadBackAs longest carried r b) flat_back f → (f.refused ≡ 0 → ⊥) → f.guard ≡ fresh
floe_refused_carry_read_gives_fresh r b f (Ok g, read, e) n = absurd (n (ap (λ z. z.refused) e))
floe_refused_carry_read_gives_fresh r b f (Err why, read, e) n = ap (λ z. z.guard) e

-- One change more of a run on the table built from the set, by the exported functions: where the record isn't refused, it is read back, and the guard is the one that was written.
pub floe_change_gives_same : (set b : List ℕ) → TableOf set b → (began : Result ⊤ Refused) (s : Guard) → StartedAs b began s → (events : List Event) (g : Guard) → Through set b s events g
    → (out out' : List ℕ) (w : FloeWritten) → FlatAnswer (RecordWrittenAs longest carried g set out out') flat_written w → w.refused ≡ 0
    → (f : FloeStarted) → FlatAnswer (ReadBackAs longest carried (take w.length out') b) flat_back f → (f.refused ≡ 0) × (f.guard ≡ g)
floe_change_gives_same set b t began s started events g run out out' w (a, written, e) taken f (back, read, d) = go a written e
  where
    go : (a : Result ℕ Refused) → RecordWrittenAs longest carried g set out out' a → w ≡ flat_written a → (f.refused ≡ 0) × (f.guard ≡ g)
    go (Ok n) written e =
        let changed : Changed set b g back = record { out = out; out' = out'; size = n; written = written; back = subst (λ k. ReadBackAs longest carried (take k out') b back) (ap (λ z. z.length) e) read } in
        let same = d ∙ ap flat_back (change_gives_same set b t began s started events g run back changed) in
        (ap (λ z. z.refused) same, ap (λ z. z.guard) same)
    go (Err why) written e =
        let own = carry_write_positive (number_of why) ((carry_write_refuses g set out out' (Err why) written).numbers (number_of why) (beside why) (why, refl, refl)) in
        let zero : number_of why ≡ 0 = sym (ap (λ z. z.refused) e) ∙ taken in
        absurd (omega arith)
