-- Signatures by the classes of k jobs are equal exactly where k + 1 jobs don't tell two histories apart: next histories are in one class exactly where k jobs don't. Assumes nothing.
use mathlib.Core.Path.{◌≡◌, refl, sym, ap, ◌∙◌, subst}
use mathlib.Core.Option.{none, some, none-ne-some, some-injective}
use mathlib.Core.Bool.{Bool, true, false, cond, true≢false, false≢true}
use mathlib.Core.List.{List}
use Prim.Native.Nat.{ℕ, suc, ◌-◌, ◌^◌, ◌≤◌, ◌<◌}
use native.Mathlib.Omega.{arith}
use lib.Pow.{pow_pos}
use Rattle.machines.specs.Machine.{Machine}
use Rattle.machines.specs.Same.{SameTo}
use Rattle.machines.proofs.Rounds.{SameNext, both_blocked, both_move, same_step, same_to_sym, same_to_trans}
use Rattle.meaning.specs.declared.LimitSet.{LimitSet}
use Rattle.history.specs.History.{pushed}
use Rattle.history.specs.MayMiss.{may_miss}
use Rattle.history.specs.Machine.{history_machine}
use Rattle.history.proofs.Shifted.{shifted_pushed}
use Rattle.classes.specs.Area.{class_at, next_class}
use Rattle.classes.specs.Signature.{sig}
use Rattle.classes.specs.Stage.{Stage}
use Rattle.classes.proofs.Converge.{pushed_lt}
use Rattle.classes.proofs.Signatures.{PartsAlike, sig_parts, parts_sig}

-- next states that are the same: possible at both or at neither
module _ (M : Machine) (k : ℕ) where
  cond_same : (a b : Bool) (p q : ℕ) → a ≡ b → (a ≡ true → SameTo M k p q) → SameNext M k (cond a (some p) none) (cond b (some q) none)
  cond_same true true p q e f = both_move p q refl refl (f refl)
  cond_same false false p q e f = both_blocked refl refl
  cond_same true false p q e f = absurd (true≢false e)
  cond_same false true p q e f = absurd (false≢true e)

  same_cond : (a b : Bool) (p q : ℕ) → SameNext M k (cond a (some p) none) (cond b (some q) none) → (a ≡ b) × (a ≡ true → SameTo M k p q)
  same_cond true true p q (both_blocked e f) = absurd (none-ne-some p (sym e))
  same_cond true true p q (both_move c d e f t) =
      let i : c ≡ p = sym (some-injective p c e) in
      let j : d ≡ q = sym (some-injective q d f) in
      (refl, λ _. subst (λ z. SameTo M k p z) j (subst (λ z. SameTo M k z d) i t))
  same_cond false false p q t = (refl, λ e. absurd (false≢true e))
  same_cond true false p q (both_blocked e f) = absurd (none-ne-some p (sym e))
  same_cond true false p q (both_move c d e f t) = absurd (none-ne-some d f)
  same_cond false true p q (both_blocked e f) = absurd (none-ne-some q (sym f))
  same_cond false true p q (both_move c d e f t) = absurd (none-ne-some c e)

pub next_class_pushed : (w : List ℕ) (m h : ℕ) (o : Bool) → next_class w (2 ^ m) h o ≡ class_at w (pushed m h o)
next_class_pushed w m h o = ap (class_at w) (shifted_pushed m (2 ^ m - 1) h o (omega (arith, pow_pos m)))

module _ (s : LimitSet) (m k : ℕ) (w : List ℕ) (S : Stage s m k w) where
  class_same : (x y : ℕ) → x < 2 ^ m → y < 2 ^ m → class_at w x ≡ class_at w y → SameTo (history_machine s m) k x y
  class_same x y hx hy e =
      same_to_trans (history_machine s m) k x (class_at w x) y (same_to_sym (history_machine s m) k (class_at w x) x (S.same x hx))
      (subst (λ z. SameTo (history_machine s m) k z y) (sym e) (S.same y hy))

  class_least : (x y : ℕ) → x < 2 ^ m → y < 2 ^ m → SameTo (history_machine s m) k x y → class_at w y ≤ class_at w x
  class_least x y hx hy t =
      S.least (class_at w x) y (omega (arith, S.no_greater x hx)) hy (same_to_trans (history_machine s m) k (class_at w x) x y (S.same x hx) t)

  pub same_class : (x y : ℕ) → x < 2 ^ m → y < 2 ^ m → SameTo (history_machine s m) k x y → class_at w x ≡ class_at w y
  same_class x y hx hy t =
      omega (arith, class_least x y hx hy t, class_least y x hy hx (same_to_sym (history_machine s m) k x y t))

  -- the same of the histories after an outcome
  next_same : (g h : ℕ) (o : Bool) → next_class w (2 ^ m) g o ≡ next_class w (2 ^ m) h o → SameTo (history_machine s m) k (pushed m g o) (pushed m h o)
  next_same g h o e =
      class_same (pushed m g o) (pushed m h o) (pushed_lt m g o) (pushed_lt m h o) (sym (next_class_pushed w m g o) ∙ e ∙ next_class_pushed w m h o)

  same_next : (g h : ℕ) (o : Bool) → SameTo (history_machine s m) k (pushed m g o) (pushed m h o) → next_class w (2 ^ m) g o ≡ next_class w (2 ^ m) h o
  same_next g h o t =
      next_class_pushed w m g o ∙ same_class (pushed m g o) (pushed m h o) (pushed_lt m g o) (pushed_lt m h o) t ∙ sym (next_class_pushed w m h o)

  module _ (g h : ℕ) (hg : g < 2 ^ m) (hh : h < 2 ^ m) where
    pub sig_same : sig w (2 ^ m) g ≡ sig w (2 ^ m) h → SameTo (history_machine s m) (suc k) g h
    sig_same e = (same_step (history_machine s m) k g h).1 next
      where
        P : PartsAlike w (2 ^ m) g h
        P = sig_parts w (2 ^ m) g h e

        next : (o : Bool) → SameNext (history_machine s m) k ((history_machine s m).next g o) ((history_machine s m).next h o)
        next true = cond_same (history_machine s m) k true true (pushed m g true) (pushed m h true) refl (λ _. next_same g h true P.hits)
        next false =
            cond_same (history_machine s m) k (may_miss s g) (may_miss s h) (pushed m g false) (pushed m h false)
            (sym (S.may g hg) ∙ P.may ∙ S.may h hh)
            (λ t. next_same g h false (P.misses (S.may g hg ∙ t)))

    pub same_sig : SameTo (history_machine s m) (suc k) g h → sig w (2 ^ m) g ≡ sig w (2 ^ m) h
    same_sig t =
        let (_, hits) = same_cond (history_machine s m) k true true (pushed m g true) (pushed m h true) ((same_step (history_machine s m) k g h).0 t true) in
        let (may, misses) = same_cond (history_machine s m) k (may_miss s g) (may_miss s h) (pushed m g false) (pushed m h false) ((same_step (history_machine s m) k g h).0 t false) in
        parts_sig w (2 ^ m) g h (record {
          may = S.may g hg ∙ may ∙ sym (S.may h hh);
          misses = λ a. same_next g h false (misses (sym (S.may g hg) ∙ a));
          hits = same_next g h true (hits refl);
        })
