-- A round makes of the classes of k jobs those of k + 1, one that changes nothing is the last, and m are enough. Assumes nothing.
use mathlib.Core.Path.{◌≡◌, sym, ap, ◌∙◌, subst}
use mathlib.Core.List.{List}
use Prim.Native.Nat.{ℕ, suc, ◌%◌, ◌^◌, ◌≤◌, ◌<◌}
use native.Mathlib.Omega.{arith}
use lib.Dec.{leb}
use lib.ListN.{get_or}
use Rattle.machines.specs.Same.{Same, SameTo}
use Rattle.machines.proofs.Rounds.{round_ends}
use Rattle.meaning.specs.declared.LimitSet.{LimitSet}
use Rattle.history.specs.Machine.{history_machine}
use Rattle.classes.specs.Area.{high, class_at}
use Rattle.classes.specs.Classed.{Classed}
use Rattle.classes.specs.Signature.{sig}
use Rattle.classes.specs.Chain.{new_class, Rounded}
use Rattle.classes.specs.Stage.{Stage, Renewed}
use Rattle.classes.proofs.Converge.{history_well_made, same_in_m}
use Rattle.classes.proofs.Told.{same_class, sig_same, same_sig}

-- where k jobs tell all apart that can be told apart
stage_classed : (s : LimitSet) (m k : ℕ) (w : List ℕ) → Stage s m k w
    → ((a b : ℕ) → a < 2 ^ m → b < 2 ^ m → SameTo (history_machine s m) k a b → Same (history_machine s m) a b) → Classed s m w
stage_classed s m k w S all = record {
  may = S.may;
  no_greater = S.no_greater;
  same = λ h l. all (class_at w h) h (omega (arith, S.no_greater h l)) l (S.same h l);
  least = λ g h i l t. S.least g h i l (λ p _. t p);
}

pub stage_end : (s : LimitSet) (m k : ℕ) (w : List ℕ) → m ≤ k → Stage s m k w → Classed s m w
stage_end s m k w h S = stage_classed s m k w S (λ a b ha hb t. same_in_m s m a b ha hb (λ p l. t p (omega arith)))

module _ (s : LimitSet) (m k n : ℕ) (w w₁ : List ℕ) (e : n ≡ 2 ^ m) (R : Rounded n w w₁) (S : Stage s m k w) where
  first : (h : ℕ) → h < 2 ^ m → get_or w₁ h 0 ≡ get_or w h 0
  first h l = R.kept.first h (omega arith)

  alike : (h : ℕ) → h < 2 ^ m → sig w (2 ^ m) (new_class n w₁ h) ≡ sig w (2 ^ m) h
  alike h l = subst (λ z. sig w z (new_class n w₁ h) ≡ sig w z h) e (R.alike h (omega arith))

  stage_kept : Stage s m k w₁
  stage_kept = record {
    may = λ h l. ap (leb high) (first h l) ∙ S.may h l;
    no_greater = λ h l. omega (arith, first h l, S.no_greater h l);
    same = λ h l. subst (λ z. SameTo (history_machine s m) k (z % high) h) (sym (first h l)) (S.same h l);
    least = λ g h i l t. omega (arith, first h l, S.least g h i l t);
  }

  pub stage_next : (w₂ : List ℕ) → Renewed n w₁ w₂ → Stage s m (suc k) w₂
  stage_next w₂ N = record {
    may = λ h l. N.may h (omega arith) ∙ stage_kept.may h l;
    no_greater = λ h l. omega (arith, N.classes h (omega arith), R.no_greater h (omega arith));
    same = λ h l. subst (λ z. SameTo (history_machine s m) (suc k) z h) (sym (N.classes h (omega arith)))
        (sig_same s m k w S (new_class n w₁ h) h (omega (arith, R.no_greater h (omega arith))) l (alike h l));
    least = λ g h i l t. omega (
      arith,
      N.classes h (omega arith),
      R.least g h (omega arith) (omega arith)
          (subst (λ z. sig w z g ≡ sig w z h) (sym e) (same_sig s m k w S g h i l t)),
    );
  }

  pub stage_settled : ((h : ℕ) → h < n → new_class n w₁ h ≡ class_at w₁ h) → Classed s m w₁
  stage_settled c = stage_classed s m k w₁ stage_kept (round_ends (history_machine s m) (history_well_made s m) k settled)
    where
      at : (h : ℕ) → h < 2 ^ m → new_class n w₁ h ≡ class_at w h
      at h l = c h (omega arith) ∙ ap (λ z. z % high) (first h l)

      settled : (a b : ℕ) → a < 2 ^ m → b < 2 ^ m → SameTo (history_machine s m) k a b → SameTo (history_machine s m) (suc k) a b
      settled a b ha hb t = sig_same s m k w S a b ha hb
          (sym (alike a ha) ∙ ap (sig w (2 ^ m)) (at a ha ∙ same_class s m k w S a b ha hb t ∙ sym (at b hb)) ∙ alike b hb)
