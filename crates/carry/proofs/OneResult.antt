-- Any two results that a promise allows are equal: an answer is known from what it says and its value, and the guard and the buffer are functions of what the rows say. Assumes nothing.
use mathlib.Core.Path.{◌≡◌, sym, ap, ◌∙◌}
use mathlib.Core.List.{List}
use Prim.Native.Nat.{ℕ}
use Rattle.std.specs.Prelude.{Result}
use Rattle.layout.specs.declared.Refused.{Refused}
use Rattle.layout.proofs.Refusals.{same_answer}
use Rattle.layout.proofs.Write.{written_one_result}
use Rattle.guard.specs.declared.Guard.{Guard}
use Rattle.carry.specs.Bytes.{new_version, size_of, record_of}
use Rattle.carry.specs.Rows.{write_rows}
use Rattle.carry.specs.Write.{RecordWrittenAs}
use Rattle.carry.specs.Read.{guard_in, ReadBackAs}

module _ (w h : ℕ) where
  pub record_written_one_result : (g : Guard) (set out o o' : List ℕ) (r r' : Result ℕ Refused) → RecordWrittenAs w h g set out o r → RecordWrittenAs w h g set out o' r' → (r ≡ r') × (o ≡ o')
  record_written_one_result g set out = written_one_result (write_rows w h set out) (size_of h set) (record_of new_version h set g) out

  pub read_back_one_result : (r b : List ℕ) (back back' : Result Guard Refused) → ReadBackAs w h r b back → ReadBackAs w h r b back' → back ≡ back'
  read_back_one_result r b back back' p q =
      same_answer back back' (p.refusal ∙ sym q.refusal) (λ x y e f. sym (ap guard_in e) ∙ p.guard ∙ sym q.guard ∙ ap guard_in f)
