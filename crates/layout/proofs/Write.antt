-- A writer's promise from what its answer says; that a refused one leaves the buffer; and that the promise allows one result: an answer is known from what it says, and the rest is a function of that. Assumes nothing.
use mathlib.Core.Path.{◌≡◌, sym, ap, ◌∙◌}
use mathlib.Core.List.{List}
use Prim.Native.Nat.{ℕ}
use Rattle.layout.specs.Refusal.{Row, Tested, refused, first}
use Rattle.std.specs.Prelude.{Result}
use Rattle.layout.specs.declared.Refused.{Refused}
use Rattle.layout.specs.Refused.{says}
use Rattle.layout.proofs.Refusals.{same_answer}
use Rattle.layout.specs.Write.{length_of, length_when, buffer_when, WrittenBy}

pub refused_leaves_buffer : {rows : List Row} {size : ℕ} {bytes out out' : List ℕ} {r : Result ℕ Refused} {n v : ℕ} → WrittenBy rows size bytes out out' r → first rows ≡ refused n v → out' ≡ out
refused_leaves_buffer {rows} {size} {bytes} {out} written e = written.buffer ∙ ap (λ t. buffer_when t size bytes out) e

module _ (rows : List Row) (size : ℕ) (bytes out : List ℕ) where
  pub written_by : (t : Tested) (out' : List ℕ) (r : Result ℕ Refused) → first rows ≡ t
      → says r ≡ t → length_of r ≡ length_when t size → out' ≡ buffer_when t size bytes out → WrittenBy rows size bytes out out' r
  written_by t out' r e a l b = record {
    answer = a ∙ sym e;
    length_written = l ∙ sym (ap (λ z. length_when z size) e);
    buffer = b ∙ sym (ap (λ z. buffer_when z size bytes out) e);
  }

  pub written_one_result : (o o' : List ℕ) (r r' : Result ℕ Refused) → WrittenBy rows size bytes out o r → WrittenBy rows size bytes out o' r' → (r ≡ r') × (o ≡ o')
  written_one_result o o' r r' p q =
      (same_answer r r' (p.answer ∙ sym q.answer) (λ x y e f. sym (ap length_of e) ∙ p.length_written ∙ sym q.length_written ∙ ap length_of f), p.buffer ∙ sym q.buffer)
