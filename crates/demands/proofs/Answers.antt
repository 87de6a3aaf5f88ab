-- Which set a comparison refuses, and by what number; and that the builder's rows say the same by every machine that stands for the canonical one. Assumes nothing.
use mathlib.Core.Path.{◌≡◌, refl, sym, ap, ◌∙◌, subst}
use mathlib.Core.Logic.{◌↔◌}
use mathlib.Core.List.{List, [], ◌∷◌}
use Prim.Native.Nat.{ℕ}
use native.Mathlib.Omega.{arith}
use Rattle.std.specs.Prelude.{Option, Result, Ok, Err}
use Rattle.layout.specs.Refusal.{Row, Tested, passed, refused, first}
use Rattle.layout.specs.Write.{room_row}
use Rattle.layout.proofs.Rows.{Numbers, FromTo, first_number, refused_before}
use Rattle.machines.specs.Machine.{Machine}
use Rattle.machines.specs.Canonical.{Canonical}
use Rattle.machines.proofs.Unique.{canonical_unique}
use Rattle.meaning.specs.Sets.{KeptBy}
use Rattle.sets.specs.Bytes.{set_of}
use Rattle.sets.proofs.Numbers.{SetNumber}
use Rattle.compare.specs.declared.Pattern.{Pattern}
use Rattle.compare.specs.declared.RefusedSet.{RefusedSet}
use Rattle.compare.specs.Compare.{BothTested, both_passed, one_refused, in_turn, says}
use Rattle.table.specs.Bytes.{size_of}
use Rattle.builder.specs.Build.{early_rows, build_rows}
use Rattle.demands.specs.Refusing.{SetRefusedBy}

-- the comparison, whose refusal also says which set
both_not_one : {w n v : ℕ} → both_passed ≡ one_refused w n v → ⊥
both_not_one e = let z : ◌≡◌ {A = ℕ} 0 1 = cc in omega arith

pub by_compared : (r : Result (Option Pattern) RefusedSet) {t : BothTested} → says r ≡ t → (which n v : ℕ) → SetRefusedBy r which n v ↔ (t ≡ one_refused which n v)
by_compared r {t} said which n v = (λ (why, is, row). sym said ∙ ap says is ∙ row, λ e. known r (said ∙ e))
  where
    known : (r : Result (Option Pattern) RefusedSet) → says r ≡ one_refused which n v → SetRefusedBy r which n v
    known (Ok x) e = absurd (both_not_one e)
    known (Err why) e = (why, refl, e)

pub one_of : (a b : List Row) → Numbers SetNumber a → Numbers SetNumber b → {which n v : ℕ} → in_turn (first a) (first b) ≡ one_refused which n v → FromTo 1 2 which × SetNumber n
one_of a b all_a all_b {which} {n} {v} = go (first a) (first b) refl refl
  where
    go : (s t : Tested) → first a ≡ s → first b ≡ t → in_turn s t ≡ one_refused which n v → FromTo 1 2 which × SetNumber n
    go (refused k u) t e f q =
        let z : 1 ≡ which = cc in
        let y : k ≡ n = cc in
        ((omega arith, omega arith), subst SetNumber y (first_number SetNumber a k u all_a e))
    go passed (refused k u) e f q =
        let z : 2 ≡ which = cc in
        let y : k ≡ n = cc in
        ((omega arith, omega arith), subst SetNumber y (first_number SetNumber b k u all_b f))
    go passed passed e f q = absurd (both_not_one q)

-- what the builder's rows say doesn't depend on which machine stands for the canonical one
pub one_size : (w : ℕ) (set work table : List ℕ) (m n : Machine)
    → (first (early_rows w set work) ≡ passed → Canonical m (KeptBy (set_of set))) → (first (early_rows w set work) ≡ passed → Canonical n (KeptBy (set_of set)))
    → first (build_rows w set work table (size_of m.states)) ≡ first (build_rows w set work table (size_of n.states))
one_size w set work table m n cm cn = go (first (early_rows w set work)) refl
  where
    go : (t : Tested) → first (early_rows w set work) ≡ t → first (build_rows w set work table (size_of m.states)) ≡ first (build_rows w set work table (size_of n.states))
    go passed e =
        let o = canonical_unique m n (KeptBy (set_of set)) (KeptBy (set_of set)) (cm e) (cn e) (λ p. (λ k. k, λ k. k)) in
        ap (λ z. first (build_rows w set work table (size_of z))) o.states
    go (refused k u) e =
        refused_before (early_rows w set work) (room_row table (size_of m.states) ∷ []) e
        ∙ sym (refused_before (early_rows w set work) (room_row table (size_of n.states) ∷ []) e)

pub both_accepted : (s t : Tested) → in_turn s t ≡ both_passed → (s ≡ passed) × (t ≡ passed)
both_accepted (refused k u) t e = absurd (both_not_one (sym e))
both_accepted passed (refused k u) e = absurd (both_not_one (sym e))
both_accepted passed passed e = (refl, refl)
