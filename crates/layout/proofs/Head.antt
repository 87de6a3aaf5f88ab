-- What the head of a layout says, case by case, what it holds where both its rows are passed, and that a test of it has one result. Assumes nothing.
use mathlib.Core.Path.{◌≡◌, refl, sym}
use mathlib.Core.List.{List}
use Prim.Native.Nat.{ℕ, ◌-◌, ◌≤◌, ◌<◌}
use native.Mathlib.Omega.{arith}
use borrow.Author.Tests.{le-ltb, lt-ltb, eq-eqb, ne_eqb, ltb-false, eqb-true, not-false}
use lib.ListN.{length}
use Rattle.layout.specs.Bytes.{length_field, version}
use Rattle.layout.specs.Refusal.{passed, refused, first}
use Rattle.std.specs.Prelude.{⊤, Result, Ok, Err}
use Rattle.layout.specs.declared.HeadFault.{HeadFault}
use Rattle.layout.specs.declared.HeadFault.TheVariants.{Length, Version}
use Rattle.layout.specs.Head.{head_rows, head_says}
use Rattle.layout.proofs.Rows.{passed_not_refused, passed_first, or_none}

-- a result that says the same for two numbers that differ is that result
pub check_head_one_result : (r r' : Result ⊤ HeadFault) → ((wrong other : ℕ) → head_says wrong other r ≡ head_says wrong other r') → r ≡ r'
check_head_one_result (Ok x) (Ok y) e = refl
check_head_one_result (Ok x) (Err Length) e = absurd (passed_not_refused (e 1 2))
check_head_one_result (Ok x) (Err Version) e = absurd (passed_not_refused (e 1 2))
check_head_one_result (Err Length) (Ok x) e = absurd (passed_not_refused (sym (e 1 2)))
check_head_one_result (Err Version) (Ok x) e = absurd (passed_not_refused (sym (e 1 2)))
check_head_one_result (Err Length) (Err Length) e = refl
check_head_one_result (Err Version) (Err Version) e = refl
check_head_one_result (Err Length) (Err Version) e = let q = e 1 2 in let z : ◌≡◌ {A = ℕ} 1 2 = cc in absurd (omega arith)
check_head_one_result (Err Version) (Err Length) e = let q = e 1 2 in let z : ◌≡◌ {A = ℕ} 2 1 = cc in absurd (omega arith)

module _ (least own wrong other : ℕ) (b : List ℕ) where
  pub head_short : length b < least → first (head_rows least own wrong other b) ≡ refused wrong 0
  unfolding first
  head_short h = simp (lt-ltb _ _ h)

  pub head_unequal : least ≤ length b → (length_field b ≡ length b - 4 → ⊥) → first (head_rows least own wrong other b) ≡ refused wrong 0
  unfolding first
  head_unequal h n = simp (le-ltb _ _ h, ne_eqb _ _ n)

  pub head_other : least ≤ length b → length_field b ≡ length b - 4 → (version b ≡ own → ⊥) → first (head_rows least own wrong other b) ≡ refused other 0
  unfolding first
  head_other h e n = simp (le-ltb _ _ h, eq-eqb _ _ e, ne_eqb _ _ n)

  pub head_right : least ≤ length b → length_field b ≡ length b - 4 → version b ≡ own → first (head_rows least own wrong other b) ≡ passed
  unfolding first
  head_right h e v = simp (le-ltb _ _ h, eq-eqb _ _ e, eq-eqb _ _ v)

  pub head_passed : first (head_rows least own wrong other b) ≡ passed → (least ≤ length b) × (length_field b ≡ length b - 4) × (version b ≡ own)
  head_passed p =
      let (f, q) = passed_first _ _ p in
      let (g, _) = passed_first _ _ q in
      let (l, e) = or_none _ _ f in
      (ltb-false _ _ l, eqb-true _ _ (not-false _ e), eqb-true _ _ (not-false _ g))
