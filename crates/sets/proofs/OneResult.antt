-- Any two results that a contract allows are equal: an answer is known from what it says, and the rest is a function of that. Assumes nothing.
use mathlib.Core.Path.{◌≡◌, sym, ap, ◌∙◌}
use mathlib.Core.List.{List}
use Prim.Native.Nat.{ℕ}
use Rattle.std.specs.Prelude.{Result}
use Rattle.layout.specs.declared.Refused.{Refused}
use Rattle.layout.proofs.Refusals.{same_answer}
use Rattle.layout.proofs.Write.{written_one_result as writer_one_result}
use Rattle.meaning.specs.declared.LimitSet.{LimitSet}
use Rattle.sets.specs.Bytes.{bytes_of}
use Rattle.sets.specs.Read.{set_in, ReadAs}
use Rattle.sets.specs.Write.{size_of, write_rows, WrittenAs}

pub read_one_result : (w : ℕ) (b : List ℕ) (r r' : Result LimitSet Refused) → ReadAs w b r → ReadAs w b r' → r ≡ r'
read_one_result w b r r' p q =
    same_answer r r' (p.answer ∙ sym q.answer) (λ x y e f. sym (ap set_in e) ∙ p.set ∙ sym q.set ∙ ap set_in f)

pub written_one_result : (w : ℕ) (s : LimitSet) (out o o' : List ℕ) (r r' : Result ℕ Refused) → WrittenAs w s out o r → WrittenAs w s out o' r' → (r ≡ r') × (o ≡ o')
written_one_result w s out = writer_one_result (write_rows w s out) (size_of s) (bytes_of s) out
