-- The comparison's promise allows one result: a refusal is the row that holds, no pattern lies between sets of which one covers the other, and there is one first pattern. Assumes nothing.
use mathlib.Core.Path.{◌≡◌, refl, sym, ap, ap₂, ◌∙◌}
use mathlib.Core.List.{List}
use Prim.Native.Nat.{ℕ}
use native.Mathlib.Omega.{arith}
use Rattle.std.specs.Prelude.{Option, None, Some, Result, Ok, Err}
use Rattle.layout.specs.Refusal.{refused}
use Rattle.layout.specs.Refused.{number_of, beside}
use Rattle.layout.proofs.Refusals.{same_refusal}
use Rattle.meaning.specs.declared.LimitSet.{LimitSet}
use Rattle.meaning.proofs.Unique.{first_between_unique}
use Rattle.compare.specs.declared.Pattern.{Pattern}
use Rattle.compare.specs.declared.RefusedSet.{RefusedSet}
use Rattle.compare.specs.declared.RefusedSet.TheVariants.{First, Second}
use Rattle.compare.specs.Compare.{packed, both_passed, one_refused, which_of, why_of, says, Compares, Answers, ComparedAs}

both_not_one : {w n v : ℕ} → both_passed ≡ one_refused w n v → ⊥
both_not_one e = let z : ◌≡◌ {A = ℕ} 0 1 = cc in omega arith

same_set : (e f : RefusedSet) → which_of e ≡ which_of f → why_of e ≡ why_of f → e ≡ f
same_set (First a) (First b) e f = ap First f
same_set (Second a) (Second b) e f = ap Second f
same_set (First a) (Second b) e f = absurd (omega arith)
same_set (Second a) (First b) e f = absurd (omega arith)

same_found : (a b : LimitSet) (p q : Option Pattern) → Compares a b p → Compares a b q → p ≡ q
same_found a b None None c d = refl
same_found a b None (Some q) c (r, d, g) = absurd (d.between.1 (c r d.between.0))
same_found a b (Some p) None (r, d, g) c = absurd (d.between.1 (c r d.between.0))
same_found a b (Some p) (Some q) (r, d, f) (s, c, g) = ap Some (f ∙ ap packed (first_between_unique a b r s d c) ∙ sym g)

same : (a b : LimitSet) (r t : Result (Option Pattern) RefusedSet) → says r ≡ says t → Answers a b r → Answers a b t → r ≡ t
same a b (Ok p) (Ok q) e f g = ap Ok (same_found a b p q f g)
same a b (Ok p) (Err d) e f g = absurd (both_not_one e)
same a b (Err c) (Ok q) e f g = absurd (both_not_one (sym e))
same a b (Err c) (Err d) e f g =
    let w : which_of c ≡ which_of d = cc in
    let n : number_of (why_of c) ≡ number_of (why_of d) = cc in
    let v : beside (why_of c) ≡ beside (why_of d) = cc in
    ap Err (same_set c d w (same_refusal (why_of c) (why_of d) (ap₂ refused n v)))

pub compare_one_result : (widest : ℕ) (a b : List ℕ) (r t : Result (Option Pattern) RefusedSet) → ComparedAs widest a b r → ComparedAs widest a b t → r ≡ t
compare_one_result widest a b r t c d = same _ _ r t (c.refusal ∙ sym d.refusal) c.answer d.answer
