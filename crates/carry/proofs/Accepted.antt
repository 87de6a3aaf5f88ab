-- What a record of a version holds where all rows that look at the record alone are passed, and that they are passed where it holds it. And 20: no window of a set is wider than what the set is taken with, and one is where the set isn't taken. Assumes nothing.
use mathlib.Core.Path.{◌≡◌, refl, ap, ◌∙◌}
use mathlib.Core.Bool.{Bool, true, false, not, true≢false}
use mathlib.Core.List.{List}
use Prim.Native.Nat.{ℕ, suc, ◌-◌, ◌≤◌}
use borrow.Author.Tests.{le-leb, leb-true, ltb-false}
use lib.Dec.{leb}
use lib.ListN.{length}
use Rattle.layout.specs.Bytes.{length_field, version}
use Rattle.layout.specs.Refusal.{passed, first}
use Rattle.layout.specs.Head.{head_rows}
use Rattle.layout.proofs.Head.{head_right, head_passed}
use Rattle.layout.proofs.Rows.{passed_first, both_passed, passed_before, first_skip, long_enough}
use Rattle.patterns.specs.Outcome.{outcome_rows}
use Rattle.meaning.specs.declared.LimitSet.{LimitSet}
use Rattle.meaning.specs.Limit.{width}
use Rattle.meaning.specs.Sets.{SetAllowed, rule_at}
use Rattle.meaning.specs.Test.{every}
use Rattle.meaning.proofs.Decide.{T_of, T_true, every_at, every_from}
use Rattle.meaning.proofs.Widths.{width_allowed, set_narrower}
use Rattle.sets.specs.Bytes.{set_of}
use Rattle.sets.specs.Rows.{set_rows}
use Rattle.sets.proofs.Accepted.{accepted_head, accepted_allowed, accepted_something, passed_rows}
use Rattle.carry.specs.Bytes.{around_set, set_in, outcome_bytes, lost_byte}
use Rattle.carry.specs.Rows.{wider, version_rows}

-- every window of the set has at most so many jobs
abbrev no_wider : ℕ → LimitSet → Bool
no_wider most s = every s.count (λ i. leb (width (rule_at s i)) most)

pub allowed_not_wider : (most : ℕ) (s : LimitSet) → SetAllowed most s → wider most s ≡ false
allowed_not_wider most s a =
    ap not (T_true (no_wider most s) (every_from s.count _ (λ i h. T_of _ (le-leb _ _ (width_allowed most (rule_at s i) (a.each i h).rule_allowed).1))))

pub not_wider_allowed : (widest most : ℕ) (s : LimitSet) → SetAllowed widest s → wider most s ≡ false → SetAllowed most s
not_wider_allowed widest most s a e = go (no_wider most s) refl e
  where
    go : (x : Bool) → no_wider most s ≡ x → not x ≡ false → SetAllowed most s
    go true f z = set_narrower widest most s a (λ i h. leb-true _ _ (T_true _ (every_at s.count _ (T_of _ f) i h)))
    go false f z = absurd (true≢false z)

module _ (widest most : ℕ) (b : List ℕ) where
  pub taken_not_wider : first (set_rows most b) ≡ passed → wider most (set_of b) ≡ false
  taken_not_wider e = allowed_not_wider most (set_of b) (accepted_allowed most b e)

  pub not_wider_taken : first (set_rows widest b) ≡ passed → wider most (set_of b) ≡ false → first (set_rows most b) ≡ passed
  not_wider_taken e f = passed_rows most b (accepted_head widest b e) (not_wider_allowed widest most (set_of b) (accepted_allowed widest b e) f) (accepted_something widest b e)

  pub not_taken_wider : first (set_rows widest b) ≡ passed → (first (set_rows most b) ≡ passed → ⊥) → wider most (set_of b) ≡ true
  not_taken_wider e n = go (wider most (set_of b)) refl
    where
      go : (x : Bool) → wider most (set_of b) ≡ x → x ≡ true
      go true f = refl
      go false f = absurd (n (not_wider_taken e f))

pub record Record (widest v h : ℕ) (r : List ℕ) : Type 0 where
  pub least : around_set h ≤ length r
  pub field : length_field r ≡ length r - 4
  pub versioned : version r ≡ v
  pub set : first (set_rows widest (set_in h r)) ≡ passed
  pub filled : wider (suc h) (set_of (set_in h r)) ≡ false
  pub outcomes : first (outcome_rows (outcome_bytes h r) 0) ≡ passed
  pub lost : lost_byte r ≤ 1

module _ (widest v h : ℕ) (r : List ℕ) where
  pub accepted_record : first (version_rows widest v h r) ≡ passed → Record widest v h r
  accepted_record e =
      let (a, e₁) = both_passed (head_rows (around_set h) v 18 18 r) _ e in
      let (b, e₂) = both_passed (set_rows widest (set_in h r)) _ e₁ in
      let (w, e₃) = passed_first _ _ e₂ in
      let (c, e₄) = both_passed (outcome_rows (outcome_bytes h r) 0) _ e₃ in
      let (d, _) = passed_first _ _ e₄ in
      let (least, field, own) = head_passed (around_set h) v 18 18 r a in
      record { least = least; field = field; versioned = own; set = b; filled = w; outcomes = c; lost = ltb-false 1 (lost_byte r) d }

  pub passed_record : Record widest v h r → first (version_rows widest v h r) ≡ passed
  passed_record a =
      passed_before _ _ (head_right (around_set h) v 18 18 r a.least a.field a.versioned)
      ∙ passed_before _ _ a.set
      ∙ first_skip 20 0 _ _ a.filled
      ∙ passed_before _ _ a.outcomes
      ∙ long_enough 19 0 1 (lost_byte r) a.lost
