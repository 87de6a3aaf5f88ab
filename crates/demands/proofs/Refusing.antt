-- An answer is refused as demand 1 says where a refusal is known from what the answer says, and so are the flat fields of one. Assumes nothing.
use mathlib.Core.Path.{◌≡◌, refl, sym, ap, ◌∙◌, subst}
use mathlib.Core.List.{List}
use Prim.Native.Nat.{ℕ, ◌≤◌}
use native.Mathlib.Omega.{arith}
use Rattle.std.specs.Prelude.{Result, Ok, Err}
use Rattle.layout.specs.declared.Refused.{Refused}
use Rattle.layout.specs.Refusal.{Row, Tested, passed, refused, first}
use Rattle.layout.specs.Refused.{says}
use Rattle.layout.proofs.Rows.{Numbers, first_number, passed_not_refused}
use Rattle.demands.specs.Refusing.{RefusedBy, Refuses, RefusesFlat}

-- an answer whose tests are those of the rows, each of which has a number of the entry
pub refuses : {A : Type 0} (Number : ℕ → Type 0) (rows : List Row) (r : Result A Refused) → Numbers Number rows → says r ≡ first rows → Refuses Number (first rows) r
refuses {A} Number rows r all e = record {
  exactly = λ n v. (λ (why, is, row). sym e ∙ ap says is ∙ row, λ q. known r n v (e ∙ q));
  numbers = λ n v (why, is, row). first_number Number rows n v all (sym e ∙ ap says is ∙ row);
}
  where
    known : (r : Result A Refused) (n v : ℕ) → says r ≡ refused n v → RefusedBy r n v
    known (Ok x) n v q = absurd (passed_not_refused q)
    known (Err why) n v q = (why, refl, q)

-- the fields `refused` and `at`: a number of the rules and what is returned beside it, or 0 and 0
abbrev pub number_of : Tested → ℕ
number_of passed = 0
number_of (refused n v) = n

abbrev pub at_of : Tested → ℕ
at_of passed = 0
at_of (refused n v) = v

pub refuses_flat : (Number : ℕ → Type 0) (rows : List Row) (number at : ℕ) → ((n : ℕ) → Number n → 1 ≤ n) → Numbers Number rows
    → number ≡ number_of (first rows) → at ≡ at_of (first rows) → RefusesFlat Number (first rows) number at
refuses_flat Number rows number at positive all e f = go (first rows) refl e f
  where
    go : (t : Tested) → first rows ≡ t → number ≡ number_of t → at ≡ at_of t → RefusesFlat Number t number at
    go passed q e f = record {
      accepts = (λ z. refl, λ z. e);
      nothing_beside = λ z. f;
      exactly = λ n v l. (λ (a, b). absurd (omega arith), λ z. absurd (passed_not_refused z));
      numbers = λ n. absurd (n e);
    }
    go (refused n v) q e f =
        let own = first_number Number rows n v all q in
        record {
          accepts = (λ z. absurd (omega (arith, positive n own)), λ z. absurd (passed_not_refused (sym z)));
          nothing_beside = λ z. absurd (omega (arith, positive n own));
          exactly = λ k u l. (λ (a, b). cc, λ z. let a : n ≡ k = cc in let b : v ≡ u = cc in (e ∙ a, f ∙ b));
          numbers = λ z. subst Number (sym e) own;
        }
