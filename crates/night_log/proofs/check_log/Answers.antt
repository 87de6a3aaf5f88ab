-- `night_log::check_log` meets its contract: each return is a case of the rows. Assumes nothing.
use mathlib.Core.Path.{◌≡◌, refl, sym, ap, ap₂, ◌∙◌}
use mathlib.Core.Bool.{true, false}
use mathlib.Core.List.{List}
use Prim.Native.Nat.{ℕ, ◌+◌, ◌*◌, ◌-◌, ◌%◌, ◌^◌, ◌≤◌, ◌<◌}
use native.Mathlib.Omega.{arith}
use lib.ListN.{length}
use Rattle.std.specs.Prelude.{⊤, Result, Ok, Err, is_err}
use Rattle.layout.specs.declared.HeadFault.{HeadFault}
use Rattle.layout.specs.declared.HeadFault.TheVariants.{Length, Version}
use Rattle.layout.specs.Bytes.{byte_at, length_field}
use Rattle.layout.specs.Refusal.{passed, refused, first}
use Rattle.layout.specs.Head.{head_rows, head_says}
use Rattle.layout.proofs.Head.{head_passed}
use Rattle.night_log.specs.Bytes.{packed_size, count_of}
use Rattle.night_log.specs.Rows.{unused_in}
use Rattle.night_log.proofs.Accepted.{log_head, log_length, log_unused, log_right}
use Rattle.night_log.proofs.check_log.Goals.{After-low_bits, Else-is_err, Else-length_field-size}
use Rattle.night_log.proofs.check_log.Goals as goal

-- either fault of the head is 15
head_bad : (r : Result ⊤ HeadFault) → is_err r ≡ true → head_says 15 15 r ≡ refused 15 0
head_bad (Ok _) e = cc
head_bad (Err Length) e = refl
head_bad (Err Version) e = refl

head_good : (r : Result ⊤ HeadFault) → is_err r ≡ false → head_says 15 15 r ≡ passed
head_good (Ok _) e = refl
head_good (Err _) e = cc

-- past the head
head : (c : Else-is_err) → first (head_rows 9 1 15 15 c.args.log.now) ≡ passed
head c = c.check_head.ensures 15 15 ∙ head_good c.check_head.result (sym c.is_err.ensures.value ∙ c.if-is_err.false)

module _ (b : List ℕ) (h : first (head_rows 9 1 15 15 b) ≡ passed) where
  long : 9 ≤ length b
  long = (head_passed 9 1 15 15 b h).0

  reaches : length_field b ≡ 5 + packed_size (count_of b) → 8 + packed_size (count_of b) < length b
  reaches f = let (_, e, _) = head_passed 9 1 15 15 b h in omega (arith, e, f, long)

-- past the length field
field : (c : Else-length_field-size) → length_field c.args.log.now ≡ 5 + packed_size (count_of c.args.log.now)
field c = omega (arith, c.length_field.ensures, c.packed_size-size.ensures, c.four_at-count.ensures, c.if-length_field-size.false)

sized : (c : Else-length_field-size) → c.packed_size-size.result ≡ packed_size (count_of c.args.log.now)
sized c = c.packed_size-size.ensures.0 ∙ ap packed_size c.four_at-count.ensures.0

-- the bits that were looked at
looked : (c : After-low_bits) → c.low_bits.result ≡ unused_in c.args.log.now
looked c =
    let b = c.args.log.now in
    c.low_bits.ensures
    ∙ ap₂ (λ s n. byte_at b (8 + s) % 2 ^ (8 * s - n)) (c.packed_size-size.ensures.0 ∙ ap packed_size c.four_at-count.ensures.0) c.four_at-count.ensures.0

pub returns-then-is_err-clause-refusal : goal.returns-then-is_err-clause-refusal
returns-then-is_err-clause-refusal c =
    sym (log_head c.args.log.now 15 0 (c.check_head.ensures 15 15 ∙ head_bad c.check_head.result (sym c.is_err.ensures.value ∙ c.if-is_err.true)))

pub four_at-count-requires : goal.four_at-count-requires
four_at-count-requires c = long _ (head (goal.at.four_at-count-requires c).Else-is_err)

pub length_field-requires : goal.length_field-requires
length_field-requires c = omega (arith, long c.args.log.now (head (goal.at.length_field-requires c).Else-is_err))

pub returns-then-length_field-size-clause-refusal : goal.returns-then-length_field-size-clause-refusal
returns-then-length_field-size-clause-refusal c =
    sym (log_length c.args.log.now (head (goal.at.returns-then-length_field-size-clause-refusal c).Else-is_err)
    (λ q. c.if-length_field-size.true (omega (arith, c.length_field.ensures, c.packed_size-size.ensures, c.four_at-count.ensures, q))))

pub bounds-log-size : goal.bounds-log-size
bounds-log-size c =
    let at = goal.at.bounds-log-size c in
    omega (arith, sized at.Else-length_field-size, reaches c.args.log.now (head at.Else-is_err) (field at.Else-length_field-size))

pub returns-then-low_bits-ne0-clause-refusal : goal.returns-then-low_bits-ne0-clause-refusal
returns-then-low_bits-ne0-clause-refusal c =
    let at = goal.at.returns-then-low_bits-ne0-clause-refusal c in
    sym (log_unused c.args.log.now (head at.Else-is_err) (field at.Else-length_field-size) (λ q. c.if-low_bits-ne0.true (looked at.After-low_bits ∙ q)))

pub returns-clause-refusal : goal.returns-clause-refusal
returns-clause-refusal c =
    let at = goal.at.returns-clause-refusal c in
    sym (log_right c.args.log.now (head at.Else-is_err) (field at.Else-length_field-size) (sym (looked at.After-low_bits) ∙ omega arith))
