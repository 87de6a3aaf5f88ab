-- The least history of a class is the least of its own class, so the classes of a set are ready to be numbered. Assumes nothing.
use mathlib.Core.Path.{◌≡◌, sym, ◌∙◌, subst}
use mathlib.Core.List.{List}
use Prim.Native.Nat.{ℕ, ◌^◌, ◌≤◌, ◌<◌}
use native.Mathlib.Omega.{arith}
use lib.Pow.{pow_pos}
use Rattle.machines.specs.Same.{Same}
use Rattle.machines.proofs.Rounds.{same_trans}
use Rattle.meaning.specs.declared.LimitSet.{LimitSet}
use Rattle.history.specs.Machine.{history_machine}
use Rattle.classes.specs.Area.{class_at}
use Rattle.classes.specs.Classed.{Classed}
use Rattle.numbering.specs.Work.{OfSomeSet, Ready, Kept}
use Rattle.numbering.proofs.Keeping.{class_stays, may_stays}

module _ (s : LimitSet) (m : ℕ) (w : List ℕ) (C : Classed s m w) where
  classed_idem : (h : ℕ) → h < 2 ^ m → class_at w (class_at w h) ≡ class_at w h
  classed_idem h l =
      let c = class_at w h in
      let cl : c < 2 ^ m = omega (arith, C.no_greater h l) in
      let d = class_at w c in
      let dl : d < 2 ^ m = omega (arith, C.no_greater c cl) in
      omega (
        arith,
        C.no_greater c cl,
        C.least d h dl l (same_trans (history_machine s m) d c h (C.same c cl) (C.same h l)),
      )

  pub classed_kept : (w' : List ℕ) → Kept (2 ^ m) w w' → Classed s m w'
  classed_kept w' K = record {
    may = λ h l. may_stays (2 ^ m) w w' K h l ∙ C.may h l;
    no_greater = λ h l. omega (arith, stays h l, C.no_greater h l);
    same = λ h l. subst (λ c. Same (history_machine s m) c h) (sym (stays h l)) (C.same h l);
    least = λ g h k l e. omega (arith, stays h l, C.least g h k l e);
  }
    where
      stays : (h : ℕ) → h < 2 ^ m → class_at w' h ≡ class_at w h
      stays = class_stays (2 ^ m) w w' K

pub classed_ready : (n : ℕ) (w : List ℕ) → OfSomeSet n w → Ready n w
classed_ready n w (s, m, e, C) = record {
  no_greater = λ h l. C.no_greater h (omega arith);
  own_class = λ h l. classed_idem s m w C h (omega arith);
}

pub some_histories : (n : ℕ) (w : List ℕ) → OfSomeSet n w → 1 ≤ n
some_histories n w (_, m, e, _) = omega (arith, pow_pos m)
