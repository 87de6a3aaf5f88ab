-- The parts of a record as a reader takes them: from one place to another. Over any number of outcomes. Assumes nothing.
use mathlib.Core.Path.{◌≡◌, sym, ap, ap₂, ◌∙◌}
use mathlib.Core.List.{List}
use Prim.Native.Nat.{ℕ, ◌+◌, ◌-◌, ◌≤◌, ◌<◌}
use native.Mathlib.Omega.{arith}
use lib.ListN.{length, take, drop, replicate, length-drop, length-replicate, replicate-append-replicate, get_or-eq_default}
use lib.Seq.{length-take-le, take_all, drop_at}
use Rattle.layout.specs.Bytes.{byte_at, eight_at, version}
use Rattle.carry.specs.Bytes.{tail_size, around_set, set_in, Begins, outcome_bytes, count_in, lost_byte}

-- fewer than five bytes have no version
pub no_version : (r : List ℕ) → length r < 5 → version r ≡ 0
no_version r h = get_or-eq_default r 0 (omega arith)

-- of an array of n hits those that stand for outcomes that a record doesn't have
pub hits_part : (n h : ℕ) → h ≤ n → take {A = ℕ} (n - h) (drop h (replicate n 1)) ≡ replicate (n - h) 1
hits_part n h le =
    let whole : n ≡ h + (n - h) = omega arith in
    ap {A = List ℕ} (λ l. take (n - h) (drop h l)) (ap {A = ℕ} (λ k. replicate k 1) whole ∙ sym (replicate-append-replicate h (n - h) 1))
    ∙ ap (take (n - h)) (drop_at (replicate h 1) (replicate (n - h) 1) h (length-replicate {A = ℕ} h 1))
    ∙ take_all (n - h) (replicate (n - h) 1) (omega (arith, length-replicate {A = ℕ} (n - h) 1))

pub outcome_count : (h : ℕ) (r : List ℕ) → tail_size h ≤ length r → length (outcome_bytes h r) ≡ h
outcome_count h r long = length-take-le h (drop (length r - tail_size h) r) (rw (length-drop (length r - tail_size h) r) (omega arith))

-- a record whose outcomes begin at end
module _ (h : ℕ) (r : List ℕ) (end : ℕ) (begins : Begins h r end) where
  pub set_part : take (end - 5) (drop 5 r) ≡ set_in h r
  set_part = let z : end - 5 ≡ length r - around_set h = omega arith in ap (λ k. take k (drop 5 r)) z

  pub outcome_part : take (end + h - end) (drop end r) ≡ outcome_bytes h r
  outcome_part =
      let z : end + h - end ≡ h = omega arith in
      let e : end ≡ length r - tail_size h = omega arith in
      ap₂ (λ k n. take k (drop n r)) z e

  pub count_part : eight_at r (end + h) ≡ count_in r
  count_part = let z : end + h ≡ length r - 9 = omega arith in ap (eight_at r) z

  pub lost_part : byte_at r (end + h + 8) ≡ lost_byte r
  lost_part = let z : end + h + 8 ≡ length r - 1 = omega arith in ap (byte_at r) z
