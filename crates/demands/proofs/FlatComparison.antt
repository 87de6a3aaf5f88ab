-- What the flat form of a comparison says: which set is refused, by what number, whether the first covers the second, and the pattern between. Assumes nothing.
use mathlib.Core.Path.{◌≡◌, refl, sym, ap, ap₂, ◌∙◌}
use mathlib.Core.Logic.{◌↔◌}
use mathlib.Core.List.{List}
use Prim.Native.Nat.{ℕ, ◌≤◌}
use native.Mathlib.Omega.{arith}
use Rattle.layout.specs.Refusal.{first}
use Rattle.meaning.specs.Longest.{longest}
use Rattle.sets.specs.Rows.{set_rows}
use Rattle.sets.proofs.Numbers.{set_numbers, set_positive}
use Rattle.std.specs.Prelude.{Option, Some, None, Result, Ok, Err}
use Rattle.layout.specs.Refused.{number_of, beside}
use Rattle.compare.specs.declared.RefusedSet.{RefusedSet}
use Rattle.compare.specs.declared.RefusedSet.TheVariants.{First, Second}
use Rattle.compare.specs.declared.Pattern.{Pattern}
use Rattle.compare.specs.Compare.{BothTested, both_passed, one_refused, in_turn, says as compare_says, pattern_in, ComparedAs}
use Rattle.flat.specs.declared.FloeComparison.{FloeComparison}
use Rattle.flat.specs.Flat.{FlatAnswer, flat_comparison}
use Rattle.demands.proofs.Answers.{one_of}

module _ (a b : List ℕ) (f : FloeComparison) (flat : FlatAnswer (ComparedAs longest a b) flat_comparison f) where
  abbrev tests : BothTested
  tests = in_turn (first (set_rows longest a)) (first (set_rows longest b))

  abbrev x : Result (Option Pattern) RefusedSet
  x = flat.0

  said : compare_says x ≡ tests
  said = flat.1.refusal

  -- an answer that isn't a refusal has 0 in these fields, and a refusal's number isn't 0
  refused_one : (w n v : ℕ) → tests ≡ one_refused w n v → (n ≡ 0) ↔ (tests ≡ both_passed)
  refused_one w n v e =
      let (which, number) = one_of (set_rows longest a) (set_rows longest b) (set_numbers longest a) (set_numbers longest b) e in
      (λ z. absurd (omega (arith, set_positive n number)), λ z. let y : ◌≡◌ {A = ℕ} 0 1 = cc in absurd (omega arith))

  pub compared_accepted : (f.refused ≡ 0) ↔ (tests ≡ both_passed)
  compared_accepted = rw flat.2 (go x said)
    where
      go : (x : Result (Option Pattern) RefusedSet) → compare_says x ≡ tests → ((flat_comparison x).refused ≡ 0) ↔ (tests ≡ both_passed)
      go (Ok None) e = (λ z. sym e, λ z. refl)
      go (Ok (Some p)) e = (λ z. sym e, λ z. refl)
      go (Err (First why)) e = refused_one 1 (number_of why) (beside why) (sym e)
      go (Err (Second why)) e = refused_one 2 (number_of why) (beside why) (sym e)

  pub compared_opens : (which n v : ℕ) → 1 ≤ n → ((f.which ≡ which) × (f.refused ≡ n) × (f.at ≡ v)) ↔ (tests ≡ one_refused which n v)
  compared_opens which n v h = rw flat.2 (go x said)
    where
      accepted : both_passed ≡ tests → ((0 ≡ which) × (0 ≡ n) × (0 ≡ v)) ↔ (tests ≡ one_refused which n v)
      accepted e = (λ (p, q, r). absurd (omega arith), λ z. let y : ◌≡◌ {A = ℕ} 0 1 = cc in absurd (omega arith))

      one : (w k u : ℕ) → one_refused w k u ≡ tests → ((w ≡ which) × (k ≡ n) × (u ≡ v)) ↔ (tests ≡ one_refused which n v)
      one w k u e = (λ (p, q, r). cc, λ z. let p : w ≡ which = cc in let q : k ≡ n = cc in let r : u ≡ v = cc in (p, q, r))

      go : (x : Result (Option Pattern) RefusedSet) → compare_says x ≡ tests
          → let c = flat_comparison x in ((c.which ≡ which) × (c.refused ≡ n) × (c.at ≡ v)) ↔ (tests ≡ one_refused which n v)
      go (Ok None) e = accepted e
      go (Ok (Some p)) e = accepted e
      go (Err (First why)) e = one 1 (number_of why) (beside why) e
      go (Err (Second why)) e = one 2 (number_of why) (beside why) e

  pub covers_flat : (f.covers ≡ 1) ↔ (x ≡ Ok None)
  covers_flat =
      let e = ap (λ z. z.covers) flat.2 in
      (λ z. known x (sym e ∙ z), λ z. e ∙ ap (λ y. (flat_comparison y).covers) z)
    where
      known : (x : Result (Option Pattern) RefusedSet) → (flat_comparison x).covers ≡ 1 → x ≡ Ok None
      known (Ok None) z = refl
      known (Ok (Some p)) z = absurd (omega arith)
      known (Err (First why)) z = absurd (omega arith)
      known (Err (Second why)) z = absurd (omega arith)

  -- the pattern between by its fields: beside every other answer stands the empty one
  pub between_flat : (p : Pattern) → 1 ≤ p.length → ((f.length ≡ p.length) × (f.pattern ≡ p.outcomes)) ↔ (x ≡ Ok (Some p))
  between_flat p h = (
    λ (l, o). known x (sym at_length ∙ l) (sym at_pattern ∙ o),
    λ e. (at_length ∙ ap (λ z. (pattern_in z).length) e, at_pattern ∙ ap (λ z. (pattern_in z).outcomes) e),
  )
    where
      made : ℕ → List ℕ → Pattern
      made n os = record { length = n; outcomes = os }

      same : (x : Result (Option Pattern) RefusedSet) → ((flat_comparison x).length ≡ (pattern_in x).length) × ((flat_comparison x).pattern ≡ (pattern_in x).outcomes)
      same (Ok None) = (refl, refl)
      same (Ok (Some p)) = (refl, refl)
      same (Err (First why)) = (refl, refl)
      same (Err (Second why)) = (refl, refl)

      at_length : f.length ≡ (pattern_in x).length
      at_length = ap (λ z. z.length) flat.2 ∙ (same x).0

      at_pattern : f.pattern ≡ (pattern_in x).outcomes
      at_pattern = ap (λ z. z.pattern) flat.2 ∙ (same x).1

      known : (x : Result (Option Pattern) RefusedSet) → (pattern_in x).length ≡ p.length → (pattern_in x).outcomes ≡ p.outcomes → x ≡ Ok (Some p)
      known (Ok None) l o = absurd (omega arith)
      known (Ok (Some q)) l o = ap {A = Pattern} (λ z. Ok (Some z)) (ap₂ made l o)
      known (Err why) l o = absurd (omega arith)
