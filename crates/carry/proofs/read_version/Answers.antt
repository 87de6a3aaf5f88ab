-- `carry::read_version`: each way that it ends is a law of `Reading`; that it walked the record's outcomes after hits, one of `Walking`. Assumes nothing.
use mathlib.Core.Path.{◌≡◌, sym, ap, ap₂, subst, ◌∙◌}
use mathlib.Core.Option.{Option, none, some}
use mathlib.Core.Bool.{true, false}
use mathlib.Core.List.{List, ◌++◌}
use Prim.Native.Nat.{ℕ, ◌-◌, ◌≤◌}
use native.Mathlib.Omega.{arith}
use lib.ListN.{length, replicate, length-append, length-replicate}
use Rattle.std.specs.Prelude.{Result, Ok}
use Rattle.std.specs.Result.{result_from_control_flow}
use Rattle.layout.specs.declared.Refused.{Refused}
use Rattle.layout.specs.Refusal.{passed, first}
use Rattle.layout.specs.Refused.{says}
use Rattle.patterns.specs.Outcome.{outcome, outcome_rows}
use Rattle.patterns.proofs.Outcomes.{outcomes_passed}
use Rattle.machines.specs.Machine.{walk}
use Rattle.meaning.specs.Longest.{longest}
use Rattle.table.specs.Bytes.{machine_of}
use Rattle.table.specs.Rows.{table_rows}
use Rattle.guard.specs.declared.Guard.{Guard}
use Rattle.guard.specs.Guard.{fresh}
use Rattle.guard.specs.Told.{told_all}
use Rattle.guard.proofs.Walked.{told_then}
use Rattle.carry.specs.Bytes.{carried, outcome_bytes, outcomes_in, lost_byte}
use Rattle.carry.specs.Rows.{version_rows, led_to}
use Rattle.carry.specs.Read.{ReadInVersion}
use Rattle.carry.proofs.Said.{handed_on}
use Rattle.carry.proofs.Parts.{hits_part, outcome_part, outcome_count, count_part, lost_part}
use Rattle.carry.proofs.Accepted.{Record, accepted_record}
use Rattle.carry.proofs.Reading.{back_refused, back_table, back_nowhere, back_led}
use Rattle.carry.proofs.Walking.{hits_passed, hits_outcomes, walked_lost, walked_kept}
use Rattle.carry.proofs.read_version.Goals.{After-tell_all-2, In_ok-end, In_ok-started}
use Rattle.carry.proofs.read_version.Goals as goal

-- the bytes told: hits for the outcomes that a record doesn't have, then its own
abbrev bytes_told : (h : ℕ) → List ℕ → List ℕ
bytes_told h r = replicate (carried - h) 1 ++ outcome_bytes h r

-- where a record's outcomes lead is where the guard that was told them stands
module _ (v h : ℕ) (r b : List ℕ) (most : h ≤ carried) (right : Record longest v h r) (checked : first (table_rows b) ≡ passed) (g : Guard) (told : g ≡ told_all b fresh (bytes_told h r)) where
  abbrev bytes : List ℕ
  bytes = bytes_told h r

  many : length bytes ≡ carried
  many = omega (arith, length-append (replicate (carried - h) 1) (outcome_bytes h r), length-replicate {A = ℕ} (carried - h) 1, outcome_count h r (omega (arith, right.least)), most)

  all : first (outcome_rows bytes 0) ≡ passed
  all = hits_passed (carried - h) 0 (outcome_bytes h r) ((outcomes_passed (outcome_bytes h r) 0).0 right.outcomes)

  led_nowhere : g.lost ≡ true → led_to carried h r b ≡ none
  led_nowhere l =
      ap (walk (machine_of b) 0) (sym (hits_outcomes (carried - h) (outcome_bytes h r)))
      ∙ walked_lost b checked bytes all fresh.outcomes many (omega (arith, many)) (sym (ap (λ z. z.lost) told) ∙ l)

  led : g.lost ≡ false → (led_to carried h r b ≡ some g.state) × (g.outcomes ≡ outcomes_in carried h r)
  led l =
      let (w, o) = walked_kept b checked bytes all fresh.outcomes many (omega (arith, many)) (sym (ap (λ z. z.lost) told) ∙ l) in
      let os = hits_outcomes (carried - h) (outcome_bytes h r) in
      (ap (walk (machine_of b) 0) (sym os) ∙ w ∙ ap {B = Option ℕ} some (sym (ap (λ z. z.state) told)), ap (λ z. z.outcomes) told ∙ o ∙ os)

-- past the record's tests
accepted : (c : In_ok-end) → first (version_rows longest c.args.version.number c.args.version.held c.args.bytes.now) ≡ passed
accepted c = sym c.in_ok-end.ensures.tested

right : (c : In_ok-end) → Record longest c.args.version.number c.args.version.held c.args.bytes.now
right c = accepted_record longest c.args.version.number c.args.version.held c.args.bytes.now (accepted c)

-- past the table's
checked : (c : In_ok-started) → first (table_rows c.args.table.now) ≡ passed
checked c = sym c.start-started.ensures.refusal ∙ ap says (c.branch-started.ensures ∙ ap result_from_control_flow c.in_ok-started.is)

told : (c : After-tell_all-2) → c.tell_all-2.new.guard ≡ told_all c.args.table.now fresh (bytes_told c.args.version.held c.args.bytes.now)
told c =
    let h = c.args.version.held in
    let r = c.args.bytes.now in
    let b = c.args.table.now in
    c.tell_all-2.ensures
    ∙ ap₂ (λ g l. told_all b g l)
    (c.tell_all.ensures ∙ ap₂ (λ g l. told_all b g l) c.start-started.ensures.guard (hits_part carried h c.args.version.few))
    (outcome_part h r c.in_ok-end.end c.in_ok-end.ensures.begins)
    ∙ sym (told_then b fresh (replicate (carried - h) 1) (outcome_bytes h r))

pub returns-in_err-end : goal.returns-in_err-end
returns-in_err-end c =
    let v = c.args.version in
    let r = c.args.bytes.now in
    let b = c.args.table.now in
    let f = c.from_residual in
    subst (ReadInVersion longest carried v.number v.held r b) (sym (handed_on _ f.result f.ensures.1)) (back_refused longest carried v.number v.held r b _ (sym c.in_err-end.ensures.tested))

pub returns-in_err-started : goal.returns-in_err-started
returns-in_err-started c =
    let v = c.args.version in
    let r = c.args.bytes.now in
    let b = c.args.table.now in
    let f = c.from_residual-in_err-started in
    subst (ReadInVersion longest carried v.number v.held r b) (sym (handed_on _ f.result f.ensures.1))
    (back_table longest carried v.number v.held r b (accepted (goal.at.returns-in_err-started c).In_ok-end) _ (sym c.start-started.ensures.refusal ∙ ap says (c.branch-started.ensures ∙ ap result_from_control_flow c.in_err-started.is)))

pub returns-then-walked : goal.returns-then-walked
returns-then-walked c =
    let v = c.args.version in
    let r = c.args.bytes.now in
    let b = c.args.table.now in
    let at = goal.at.returns-then-walked c in
    let k = checked at.In_ok-started in
    back_nowhere longest carried v.number v.held r b (accepted at.In_ok-end) k
    (led_nowhere v.number v.held r b v.few (right at.In_ok-end) k c.tell_all-2.new.guard (told at.After-tell_all-2) c.if-walked.true)

pub returns : goal.returns
returns c =
    let v = c.args.version in
    let h = v.held in
    let r = c.args.bytes.now in
    let b = c.args.table.now in
    let at = goal.at.returns c in
    let k = checked at.In_ok-started in
    let (w, o) = led v.number h r b v.few (right at.In_ok-end) k c.tell_all-2.new.guard (told at.After-tell_all-2) c.if-walked.false in
    let to = c.tell_all-2.new.guard.state in
    let end = c.in_ok-end.end in
    let begins = c.in_ok-end.ensures.begins in
    subst (ReadInVersion longest carried v.number h r b)
    (ap₂ {C = Result Guard Refused} (λ os n. Ok (record { state = to; lost = outcome (lost_byte r); outcomes = os; count = n })) (sym o) (sym (c.eight_at.ensures ∙ count_part h r end begins))
    ∙ ap {B = Result Guard Refused} (λ z. Ok (record { state = to; lost = outcome z; outcomes = c.tell_all-2.new.guard.outcomes; count = c.eight_at.result })) (sym (lost_part h r end begins)))
    (back_led longest carried v.number h r b (accepted at.In_ok-end) k to w)
