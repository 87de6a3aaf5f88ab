-- A pattern is kept exactly when the history machine walks it, and the state is then its last m outcomes. By induction on the outcomes still to walk. Assumes nothing.
use mathlib.Core.Path.{◌≡◌, refl, sym, ap, ◌∙◌, subst}
use mathlib.Core.Logic.{◌↔◌}
use mathlib.Core.Option.{Option, none, some, none-ne-some, some-injective}
use mathlib.Core.Bool.{Bool, true, false, cond}
use mathlib.Core.List.{List, [], ◌∷◌, ◌++◌, append_assoc, append-nil}
use Prim.Native.Nat.{ℕ, suc, ◌^◌, ◌-◌}
use lib.Dec.{T}
use Rattle.machines.specs.Machine.{onward, walk, Can, Walks}
use Rattle.meaning.specs.declared.LimitSet.{LimitSet}
use Rattle.meaning.specs.Sets.{SetAllowed, KeptBy}
use Rattle.meaning.proofs.SetLaws.{kept_by_empty, kept_by_prefix, kept_by_hit}
use Rattle.meaning.proofs.Decide.{T_true}
use Rattle.history.specs.History.{history_of, pushed}
use Rattle.history.specs.MayMiss.{may_miss}
use Rattle.history.specs.Machine.{history_next, history_machine}
use Rattle.history.proofs.Histories.{history_start, history_push}
use Rattle.history.proofs.MissLaws.{may_miss_kept}

module _ (s : LimitSet) (m : ℕ) (ok : SetAllowed (suc m) s) where
  -- a possible outcome leads to the history with that outcome
  next_kept : (q : List Bool) (o : Bool) → KeptBy s q → KeptBy s (q ++ o ∷ []) → history_next s m (history_of m q) o ≡ some (history_of m (q ++ o ∷ []))
  next_kept q true k n = ap {B = Option ℕ} some (sym (history_push m q true))
  next_kept q false k n =
      let t : may_miss s (history_of m q) ≡ true = T_true _ ((may_miss_kept m q s ok k).1 n) in
      rw t (ap {B = Option ℕ} some (sym (history_push m q false)))

  -- an outcome that isn't possible isn't kept
  kept_next : (q : List Bool) (o : Bool) (t : ℕ) → KeptBy s q → history_next s m (history_of m q) o ≡ some t → KeptBy s (q ++ o ∷ [])
  kept_next q true t k e = kept_by_hit s q k
  kept_next q false t k e = go (may_miss s (history_of m q)) refl e
    where
      go : (b : Bool) → may_miss s (history_of m q) ≡ b → cond b (some (pushed m (history_of m q) false)) none ≡ some t → KeptBy s (q ++ false ∷ [])
      go true f g = (may_miss_kept m q s ok k).0 (subst (λ z. T z) (sym f) tt)
      go false f g = absurd (none-ne-some t g)

  walk_kept : (q r : List Bool) → KeptBy s q → KeptBy s (q ++ r) → walk (history_machine s m) (history_of m q) r ≡ some (history_of m (q ++ r))
  walk_kept q [] k n = ap {B = Option ℕ} (λ z. some (history_of m z)) (sym (append-nil q))
  walk_kept q (o ∷ r) k n =
      let e = append_assoc q (o ∷ []) r in
      let n₁ : KeptBy s ((q ++ o ∷ []) ++ r) = subst (λ z. KeptBy s z) (sym e) n in
      let k₁ : KeptBy s (q ++ o ∷ []) = kept_by_prefix s (q ++ o ∷ []) r n₁ in
      ap (λ z. onward z (λ t. walk (history_machine s m) t r)) (next_kept q o k k₁)
      ∙ walk_kept (q ++ o ∷ []) r k₁ n₁
      ∙ ap {B = Option ℕ} (λ z. some (history_of m z)) e

  kept_walk : (q r : List Bool) → KeptBy s q → Can (history_machine s m) (history_of m q) r → KeptBy s (q ++ r)
  kept_walk q [] k c = subst (λ z. KeptBy s z) (sym (append-nil q)) k
  kept_walk q (o ∷ r) k (t, w) = go (history_next s m (history_of m q) o) refl w (kept_walk (q ++ o ∷ []) r)
    where
      go : (x : Option ℕ) → history_next s m (history_of m q) o ≡ x → onward x (λ u. walk (history_machine s m) u r) ≡ some t → (KeptBy s (q ++ o ∷ []) → Can (history_machine s m) (history_of m (q ++ o ∷ [])) r → KeptBy s ((q ++ o ∷ []) ++ r)) → KeptBy s (q ++ (o ∷ r))
      go none e w rec = absurd (none-ne-some t w)
      go (some u) e w rec =
          let k₁ = kept_next q o u k e in
          let f : u ≡ history_of m (q ++ o ∷ []) = some-injective u (history_of m (q ++ o ∷ [])) (sym e ∙ next_kept q o k k₁) in
          subst (λ z. KeptBy s z) (append_assoc q (o ∷ []) r)
          (rec k₁ (t, subst (λ z. walk (history_machine s m) z r ≡ some t) f w))

  -- after a kept pattern the state is its last m outcomes
  pub walked_state : (p : List Bool) → KeptBy s p → walk (history_machine s m) (2 ^ m - 1) p ≡ some (history_of m p)
  walked_state p k =
      subst (λ z. walk (history_machine s m) z p ≡ some (history_of m p)) (history_start m)
      (walk_kept [] p (kept_by_empty s (suc m) ok) k)

  pub kept_walked : (p : List Bool) → Walks (history_machine s m) p ↔ KeptBy s p
  kept_walked p = (
    λ c. kept_walk [] p (kept_by_empty s (suc m) ok) (subst (λ z. Can (history_machine s m) z p) (sym (history_start m)) c),
    λ k. (history_of m p, walked_state p k),
  )
