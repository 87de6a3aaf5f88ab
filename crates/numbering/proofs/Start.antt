-- Where no class has a number, the class of the last history gets number 0, and with one state no entry is read yet. Assumes nothing.
use mathlib.Core.Path.{◌≡◌, sym, ap, ◌∙◌}
use mathlib.Core.List.{List}
use Prim.Native.Nat.{ℕ, ◌-◌, ◌≤◌, ◌<◌}
use native.Mathlib.Omega.{arith}
use Rattle.machines.specs.Numbering.{place}
use mathlib.Core.Bool.{false}
use Rattle.classes.specs.Area.{class_at}
use Rattle.numbering.specs.Numbered.{number_at, class_of}
use Rattle.numbering.specs.Work.{Ready}
use Rattle.numbering.specs.Rows.{Cleared, Ordered, Visited, ReadTo}
use Rattle.numbering.proofs.Zeros.{zeros_all}
use Rattle.numbering.proofs.Keeping.{kept_trans, class_stays, ready_kept}

pub ordered_none : (n : ℕ) (w : List ℕ) → ((c : ℕ) → c < n → number_at n w c ≡ 0) → Ordered n w 0
ordered_none n w z = record {
  rest_free = omega (arith, zeros_all (number_at n w) n z);
  histories = λ j l. absurd (omega arith);
  own_class = λ j l. absurd (omega arith);
  number_of_class = λ j l. absurd (omega arith);
  no_more = λ c l. omega (arith, z c l);
  class_of_number = λ c l p. absurd (omega (arith, z c l));
}

pub read_start : (n : ℕ) (w w₁ w₂ : List ℕ) (r : ℕ) → 1 ≤ n → Ready n w → Cleared n w w₁
    → Visited n w₁ w₂ (class_at w₁ (n - 1)) 0 r → ReadTo n w w₂ 0 r (place 0 false)
read_start n w w₁ w₂ r some_history R D G =
    let K = kept_trans D.kept G.kept in
    let last : n - 1 < n = omega arith in
    let c = class_at w₁ (n - 1) in
    let below : c < n = omega (arith, class_stays n w w₁ D.kept (n - 1) last, R.no_greater (n - 1) last) in
    let some : 1 ≤ r = omega (arith, G.numbered, G.ordered.no_more c below) in
    let first : number_at n w₂ c - 1 ≡ 0 = omega (arith, G.new_number 0 (omega arith) some) in
    record {
      numbering = record {
        ready = ready_kept n w w₂ K R;
        ordered = G.ordered;
        some_state = some;
        start = ap (class_of n w₂) (sym first) ∙ G.ordered.class_of_number c below G.numbered
            ∙ sym (class_stays n w₁ w₂ G.kept (n - 1) last);
        closed = λ s x l b m. absurd (omega arith);
        found = λ t a l. absurd (omega (arith, first, G.new_number t (omega arith) l));
      };
      kept = K;
      grows = omega arith;
    }
