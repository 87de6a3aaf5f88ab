-- What bytes hold where all log rows are passed, that the rows are passed where they hold it, and the cases in which they aren't. Assumes nothing.
use mathlib.Core.Path.{◌≡◌, ◌∙◌}
use mathlib.Core.Bool.{not}
use mathlib.Core.List.{List, [], ◌∷◌}
use Prim.Native.Nat.{ℕ, ◌+◌}
use native.Mathlib.Omega.{arith}
use borrow.Author.Tests.{eq-eqb, ne_eqb, eqb-true, not-false}
use lib.Dec.{eqb}
use lib.ListN.{length}
use Rattle.layout.specs.Bytes.{length_field, version}
use Rattle.layout.specs.Refusal.{Row, row, passed, refused, first}
use Rattle.layout.specs.Head.{head_rows}
use Rattle.layout.proofs.Rows.{both_passed, passed_first, refused_before, passed_before}
use Rattle.layout.proofs.Head.{head_passed, head_right}
use Rattle.night_log.specs.Bytes.{packed_size, size_of, count_of}
use Rattle.night_log.specs.Rows.{unused_in, log_rows}

pub record Log (b : List ℕ) : Type 0 where
  pub size : length b ≡ size_of (count_of b)
  pub field : length_field b ≡ 5 + packed_size (count_of b)
  pub versioned : version b ≡ 1
  pub unused : unused_in b ≡ 0

-- the rows past the head
abbrev own_rows : List ℕ → List Row
own_rows b = row 15 (not (eqb (length_field b) (5 + packed_size (count_of b)))) 0 ∷ row 16 (not (eqb (unused_in b) 0)) 0 ∷ []

pub accepted_log : (b : List ℕ) → first (log_rows b) ≡ passed → Log b
accepted_log b e =
    let (h, o) = both_passed (head_rows 9 1 15 15 b) (own_rows b) e in
    let (least, whole, one) = head_passed 9 1 15 15 b h in
    let (f, p) = passed_first _ _ o in
    let (u, _) = passed_first _ _ p in
    let rest = eqb-true (length_field b) (5 + packed_size (count_of b)) (not-false _ f) in
    record { size = omega arith; field = rest; versioned = one; unused = eqb-true (unused_in b) 0 (not-false _ u) }

module _ (b : List ℕ) where
  pub log_head : (n v : ℕ) → first (head_rows 9 1 15 15 b) ≡ refused n v → first (log_rows b) ≡ refused n v
  log_head n v h = refused_before (head_rows 9 1 15 15 b) (own_rows b) h

  pub log_length : first (head_rows 9 1 15 15 b) ≡ passed → (length_field b ≡ 5 + packed_size (count_of b) → ⊥) → first (log_rows b) ≡ refused 15 0
  unfolding first
  log_length h n = passed_before (head_rows 9 1 15 15 b) (own_rows b) h ∙ (simp (ne_eqb _ _ n))

  pub log_unused : first (head_rows 9 1 15 15 b) ≡ passed → length_field b ≡ 5 + packed_size (count_of b) → (unused_in b ≡ 0 → ⊥) → first (log_rows b) ≡ refused 16 0
  unfolding first
  log_unused h e n = passed_before (head_rows 9 1 15 15 b) (own_rows b) h ∙ (simp (eq-eqb _ _ e, ne_eqb _ _ n))

  pub log_right : first (head_rows 9 1 15 15 b) ≡ passed → length_field b ≡ 5 + packed_size (count_of b) → unused_in b ≡ 0 → first (log_rows b) ≡ passed
  unfolding first
  log_right h e n = passed_before (head_rows 9 1 15 15 b) (own_rows b) h ∙ (simp (eq-eqb _ _ e, eq-eqb _ _ n))

pub passed_log : (b : List ℕ) → Log b → first (log_rows b) ≡ passed
passed_log b l = log_right b (head_right 9 1 15 15 b (omega arith) (omega arith) l.versioned) l.field l.unused
