-- `carry::test_record`: each refusal is the first row that holds. Assumes nothing.
use mathlib.Core.Path.{◌≡◌, sym, ap, ◌∙◌}
use mathlib.Core.List.{List, [], ◌∷◌, ◌++◌}
use Prim.Native.Nat.{ℕ, suc, ◌+◌, ◌-◌}
use native.Mathlib.Numerals.{add-one}
use borrow.Author.Tests.{lt-ltb, le-ltb}
use lib.Dec.{ltb}
use lib.ListN.{take, drop}
use Rattle.layout.specs.Refusal.{Row, row, Tested, passed, first}
use Rattle.layout.specs.Refused.{says}
use Rattle.layout.specs.Head.{head_rows}
use Rattle.layout.proofs.Rows.{refused_before, passed_before, first_here, first_skip}
use Rattle.patterns.specs.Outcome.{outcome_rows}
use Rattle.meaning.specs.Longest.{longest}
use Rattle.sets.specs.Bytes.{set_of}
use Rattle.sets.specs.Rows.{set_rows}
use Rattle.carry.specs.Bytes.{around_set, set_in, Begins, outcome_bytes, lost_byte}
use Rattle.carry.specs.Rows.{wider, version_rows}
use Rattle.carry.proofs.Said.{says_passed, says_refused, handed_on}
use Rattle.carry.proofs.Parts.{set_part, outcome_part, lost_part}
use Rattle.carry.proofs.Accepted.{taken_not_wider, not_taken_wider}
use Rattle.carry.proofs.test_record.Goals.{In_ok-end, In_ok-read_set, Else-is_err}
use Rattle.carry.proofs.test_record.Goals as goal

-- the rows that are left after 18, after the set, after 20, after 13
abbrev after_outcomes : List ℕ → List Row
after_outcomes r = row 19 (ltb 1 (lost_byte r)) 0 ∷ []

abbrev after_width : (h : ℕ) → List ℕ → List Row
after_width h r = outcome_rows (outcome_bytes h r) 0 ++ after_outcomes r

abbrev after_set : (h : ℕ) → List ℕ → List Row
after_set h r = row 20 (wider (suc h) (set_of (set_in h r))) 0 ∷ after_width h r

abbrev after_head : (h : ℕ) → List ℕ → List Row
after_head h r = set_rows longest (set_in h r) ++ after_set h r

-- what is left of the rows, where those before are passed
module _ (v h : ℕ) (r : List ℕ) (head : first (head_rows (around_set h) v 18 18 r) ≡ passed) where
  past_head : first (version_rows longest v h r) ≡ first (after_head h r)
  past_head = passed_before (head_rows (around_set h) v 18 18 r) (after_head h r) head

  module _ (taken : first (set_rows longest (set_in h r)) ≡ passed) where
    past_set : first (version_rows longest v h r) ≡ first (after_set h r)
    past_set = past_head ∙ passed_before (set_rows longest (set_in h r)) (after_set h r) taken

    module _ (filled : first (set_rows (suc h) (set_in h r)) ≡ passed) where
      past_width : first (version_rows longest v h r) ≡ first (after_width h r)
      past_width = past_set ∙ first_skip 20 0 _ _ (taken_not_wider longest (suc h) (set_in h r) filled)

      past_outcomes : first (outcome_rows (outcome_bytes h r) 0) ≡ passed → first (version_rows longest v h r) ≡ first (after_outcomes r)
      past_outcomes p = past_width ∙ passed_before (outcome_rows (outcome_bytes h r) 0) (after_outcomes r) p

-- a set as the code takes it, with a number that it adds 1 to
one_more : (h : ℕ) (r : List ℕ) (end : ℕ) → Begins h r end → first (set_rows (suc h) (set_in h r)) ≡ first (set_rows (h + 1) (take (end - 5) (drop 5 r)))
one_more h r end begins = ap (λ z. first (set_rows z (set_in h r))) (sym (add-one h)) ∙ ap (λ l. first (set_rows (h + 1) l)) (sym (set_part h r end begins))

-- what the test for 13 says
tested : (h : ℕ) (r : List ℕ) (end : ℕ) → Begins h r end → {t : Tested} → first (outcome_rows (take (end + h - end) (drop end r)) 0) ≡ t → first (outcome_rows (outcome_bytes h r) 0) ≡ t
tested h r end begins e = ap (λ l. first (outcome_rows l 0)) (sym (outcome_part h r end begins)) ∙ e

head : (c : In_ok-end) → first (head_rows (around_set c.args.version.held) c.args.version.number 18 18 c.args.bytes.now) ≡ passed
head c = sym c.in_ok-end.ensures.tested

taken : (c : In_ok-read_set) → first (set_rows longest (set_in c.args.version.held c.args.bytes.now)) ≡ passed
taken c =
    ap (λ l. first (set_rows longest l)) (sym (set_part c.args.version.held c.args.bytes.now c.in_ok-end.end c.in_ok-end.ensures.begins)) ∙ sym c.in_ok-read_set.ensures.answer

filled : (c : Else-is_err) → first (set_rows (suc c.args.version.held) (set_in c.args.version.held c.args.bytes.now)) ≡ passed
filled c =
    one_more c.args.version.held c.args.bytes.now c.in_ok-end.end c.in_ok-end.ensures.begins
    ∙ sym c.read_set_within.ensures.answer
    ∙ says_passed c.read_set_within.result c.if-is_err.ensures.value

pub returns-in_err-end-clause-tested : goal.returns-in_err-end-clause-tested
returns-in_err-end-clause-tested c =
    let a = c.args in
    let v = a.version in
    let r = a.bytes.now in
    let f = c.from_residual in
    ap says (handed_on _ f.result f.ensures.1) ∙ sym (refused_before (head_rows (around_set v.held) v.number 18 18 r) (after_head v.held r) (sym c.in_err-end.ensures.tested))

pub returns-in_err-read_set-clause-tested : goal.returns-in_err-read_set-clause-tested
returns-in_err-read_set-clause-tested c =
    let v = c.args.version in
    let h = v.held in
    let r = c.args.bytes.now in
    let f = c.from_residual-in_err-read_set in
    ap says (handed_on _ f.result f.ensures.1)
    ∙ sym
    (past_head v.number h r (head (goal.at.returns-in_err-read_set-clause-tested c).In_ok-end)
    ∙ refused_before (set_rows longest (set_in h r)) (after_set h r) (ap (λ l. first (set_rows longest l)) (sym (set_part h r c.in_ok-end.end c.in_ok-end.ensures.begins)) ∙ sym c.in_err-read_set.ensures.answer))

pub returns-then-is_err-clause-tested : goal.returns-then-is_err-clause-tested
returns-then-is_err-clause-tested c =
    let w = c.read_set_within in
    let v = c.args.version in
    let h = v.held in
    let r = c.args.bytes.now in
    let at = goal.at.returns-then-is_err-clause-tested c in
    let t = taken at.In_ok-read_set in
    sym
    (past_set v.number h r (head at.In_ok-end) t
    ∙ first_here 20 0 _ _
    (not_taken_wider longest (suc h) (set_in h r) t (λ p. says_refused w.result c.if-is_err.ensures.value (w.ensures.answer ∙ sym (one_more h r c.in_ok-end.end c.in_ok-end.ensures.begins) ∙ p))))

pub returns-in-Some-clause-tested : goal.returns-in-Some-clause-tested
returns-in-Some-clause-tested c =
    let v = c.args.version in
    let h = v.held in
    let r = c.args.bytes.now in
    let at = goal.at.returns-in-Some-clause-tested c in
    sym
    (past_width v.number h r (head at.In_ok-end) (taken at.In_ok-read_set) (filled at.Else-is_err)
    ∙ refused_before (outcome_rows (outcome_bytes h r) 0) (after_outcomes r) (tested h r c.in_ok-end.end c.in_ok-end.ensures.begins c.in-Some.ensures.tested))

pub returns-then-bytes-past-gt1-clause-tested : goal.returns-then-bytes-past-gt1-clause-tested
returns-then-bytes-past-gt1-clause-tested c =
    let v = c.args.version in
    let h = v.held in
    let r = c.args.bytes.now in
    let at = goal.at.returns-then-bytes-past-gt1-clause-tested c in
    sym
    (past_outcomes v.number h r (head at.In_ok-end) (taken at.In_ok-read_set) (filled at.Else-is_err) (tested h r c.in_ok-end.end c.in_ok-end.ensures.begins c.in_default.ensures.tested)
    ∙ first_here 19 0 _ [] (ap (ltb 1) (sym (lost_part h r c.in_ok-end.end c.in_ok-end.ensures.begins)) ∙ lt-ltb _ _ c.if-bytes-past-gt1.true))

pub returns-clause-tested : goal.returns-clause-tested
unfolding first
returns-clause-tested c =
    let v = c.args.version in
    let h = v.held in
    let r = c.args.bytes.now in
    let at = goal.at.returns-clause-tested c in
    sym
    (past_outcomes v.number h r (head at.In_ok-end) (taken at.In_ok-read_set) (filled at.Else-is_err) (tested h r c.in_ok-end.end c.in_ok-end.ensures.begins c.in_default.ensures.tested)
    ∙ first_skip 19 0 _ [] (ap (ltb 1) (sym (lost_part h r c.in_ok-end.end c.in_ok-end.ensures.begins)) ∙ le-ltb _ _ c.if-bytes-past-gt1.false))
