-- A pattern is walked part by part: a beginning can be walked where the whole can, no walk leaves the states, and trying decides. Assumes nothing.
use mathlib.Core.Path.{◌≡◌, refl, sym, ap, ◌∙◌, subst, fun_ext}
use mathlib.Core.Logic.{◌↔◌}
use mathlib.Core.Option.{Option, none, some, none-ne-some}
use mathlib.Core.Bool.{Bool}
use mathlib.Core.List.{List, [], ◌∷◌, ◌++◌}
use Prim.Native.Nat.{ℕ, ◌<◌}
use Rattle.machines.specs.Canonical.{OneTable}
use Rattle.machines.specs.Machine.{Machine, WellMade, onward, walk, Can}

onward_some : (r : Option ℕ) → onward r (λ t. some t) ≡ r
onward_some none = refl
onward_some (some t) = refl

onward_onward : (r : Option ℕ) (f g : ℕ → Option ℕ) → onward r (λ t. onward (f t) g) ≡ onward (onward r f) g
onward_onward none f g = refl
onward_onward (some t) f g = refl

module _ (m : Machine) where
  pub walk_append : (s : ℕ) (p q : List Bool) → walk m s (p ++ q) ≡ onward (walk m s p) (λ t. walk m t q)
  walk_append s [] q = refl
  walk_append s (o ∷ p) q =
      ap (onward (m.next s o)) (fun_ext (λ t. walk_append t p q))
      ∙ onward_onward (m.next s o) (λ t. walk m t p) (λ t. walk m t q)

  pub walk_after : (s t : ℕ) (p q : List Bool) → walk m s p ≡ some t → walk m s (p ++ q) ≡ walk m t q
  walk_after s t p q e = rw (walk_append s p q, e)

  pub walk_snoc : (s t : ℕ) (p : List Bool) (o : Bool) → walk m s p ≡ some t → walk m s (p ++ o ∷ []) ≡ m.next t o
  walk_snoc s t p o e = walk_after s t p (o ∷ []) e ∙ onward_some (m.next t o)

  -- the state after the first job
  pub walk_first : (s t : ℕ) (o : Bool) (p : List Bool) → walk m s (o ∷ p) ≡ some t
      → (u : ℕ) × (m.next s o ≡ some u) × (walk m u p ≡ some t)
  walk_first s t o p e = go (m.next s o) refl
    where
      go : (r : Option ℕ) → m.next s o ≡ r → (u : ℕ) × (m.next s o ≡ some u) × (walk m u p ≡ some t)
      go none f = absurd (none-ne-some t (rw f at e))
      go (some u) f = (u, f, rw f at e)

  pub walk_below : WellMade m → (s t : ℕ) (p : List Bool) → s < m.states → walk m s p ≡ some t → t < m.states
  walk_below w s t [] h e = subst (λ z. z < m.states) (cc) h
  walk_below w s t (o ∷ p) h e =
      let (u, f, g) = walk_first s t o p e in
      walk_below w u t p (w.next_below s u o h f) g

  pub cannot : (s : ℕ) (p : List Bool) → walk m s p ≡ none → Can m s p → ⊥
  cannot s p e (t, f) = none-ne-some t (sym e ∙ f)

  pub can_dec : (s : ℕ) (p : List Bool) → Dec (Can m s p)
  can_dec s p = go (walk m s p) refl
    where
      go : (r : Option ℕ) → walk m s p ≡ r → Dec (Can m s p)
      go none e = no (cannot s p e)
      go (some t) e = yes (t, e)

  pub can_after : (s t : ℕ) (p q : List Bool) → walk m s p ≡ some t → Can m s (p ++ q) ↔ Can m t q
  can_after s t p q e =
      let f = walk_after s t p q e in
      (λ (u, g). (u, sym f ∙ g), λ (u, g). (u, f ∙ g))

  pub can_moves : (s t : ℕ) (o : Bool) (p : List Bool) → m.next s o ≡ some t → Can m s (o ∷ p) ↔ Can m t p
  can_moves s t o p e = can_after s t (o ∷ []) p (rw e)

  pub can_blocked : (s : ℕ) (o : Bool) (p : List Bool) → m.next s o ≡ none → Can m s (o ∷ p) → ⊥
  can_blocked s o p e = cannot s (o ∷ p) (rw e)

  pub can_prefix : (s : ℕ) (p q : List Bool) → Can m s (p ++ q) → Can m s p
  can_prefix s p q c = go (walk m s p) refl
    where
      go : (r : Option ℕ) → walk m s p ≡ r → Can m s p
      go none e = absurd (cannot s (p ++ q) (rw (walk_append s p q, e)) c)
      go (some t) e = (t, e)

-- machines with one table walk alike
pub one_walk : (m n : Machine) → WellMade m → OneTable m n → (s : ℕ) → s < m.states → (p : List Bool) → walk m s p ≡ walk n s p
one_walk m n w o s l [] = refl
one_walk m n w o s l (x ∷ p) = ap (λ z. onward z (λ t. walk m t p)) (o.moves s x l) ∙ go (n.next s x) refl (λ t h. one_walk m n w o t h p)
  where
    go : (r : Option ℕ) → n.next s x ≡ r → ((t : ℕ) → t < m.states → walk m t p ≡ walk n t p) → onward r (λ t. walk m t p) ≡ onward r (λ t. walk n t p)
    go none e ih = refl
    go (some t) e ih = ih t (w.next_below s t x l (o.moves s x l ∙ e))
