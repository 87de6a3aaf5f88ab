-- What one job tells apart: a hit may always follow, so only whether a miss may. So the marks, with the least history of each, are the classes of one job. Assumes nothing.
use mathlib.Core.Path.{◌≡◌, refl, sym, ap, ◌∙◌, subst}
use mathlib.Core.Logic.{◌⊎◌, inl, inr, ⊎_elim, dite}
use mathlib.Core.Option.{none, some, none-ne-some}
use mathlib.Core.Bool.{Bool, true, false, cond, true≢false}
use mathlib.Core.List.{List, [], ◌∷◌}
use Prim.Native.Nat.{ℕ, ◌+◌, ◌%◌, ◌^◌, ◌≤◌, ◌<◌}
use native.Mathlib.Decide.{dec_lt}
use native.Mathlib.Omega.{arith}
use borrow.Author.Tests.{le-leb, lt-leb}
use lib.Dec.{leb}
use lib.ListN.{get_or}
use Rattle.machines.specs.Machine.{Machine, onward, Can}
use Rattle.machines.specs.Same.{SameTo}
use Rattle.meaning.specs.declared.LimitSet.{LimitSet}
use Rattle.history.specs.History.{pushed}
use Rattle.history.specs.MayMiss.{may_miss}
use Rattle.history.specs.Machine.{history_machine}
use Rattle.classes.specs.Area.{high, class_at, may_at}
use Rattle.classes.specs.Stage.{Started, parted_of, Parted, Stage}

-- a miss that may follow, and one that may follow elsewhere
miss_too : (x y : Bool) (a b : ℕ) → x ≡ y → (t : ℕ) × (onward (cond x (some a) none) (λ u. some u) ≡ some t) → (t : ℕ) × (onward (cond y (some b) none) (λ u. some u) ≡ some t)
miss_too true true a b e c = (b, refl)
miss_too true false a b e c = absurd (true≢false e)
miss_too false y a b e (t, c) = absurd (none-ne-some t c)

miss_may : (x : Bool) (a : ℕ) → (t : ℕ) × (onward (cond x (some a) none) (λ u. some u) ≡ some t) → x ≡ true
miss_may true a c = refl
miss_may false a (t, c) = absurd (none-ne-some t c)

module _ (s : LimitSet) (m : ℕ) where
  abbrev M : Machine
  M = history_machine s m

  same_one : (g h : ℕ) → may_miss s g ≡ may_miss s h → SameTo M 1 g h
  same_one g h e [] l = (λ c. (h, refl), λ c. (g, refl))
  same_one g h e (true ∷ []) l = (λ c. (pushed m h true, refl), λ c. (pushed m g true, refl))
  same_one g h e (false ∷ []) l =
      (miss_too (may_miss s g) (may_miss s h) (pushed m g false) (pushed m h false) e, miss_too (may_miss s h) (may_miss s g) (pushed m h false) (pushed m g false) (sym e))
  same_one g h e (o ∷ (q ∷ p)) l = absurd (omega arith)

  one_same : (g h : ℕ) → SameTo M 1 g h → may_miss s g ≡ may_miss s h
  one_same g h t = go (may_miss s g) (may_miss s h) refl refl
    where
      miss : Can M g (false ∷ []) → Can M h (false ∷ [])
      miss = (t (false ∷ []) (omega arith)).0

      back : Can M h (false ∷ []) → Can M g (false ∷ [])
      back = (t (false ∷ []) (omega arith)).1

      may : (x : ℕ) → may_miss s x ≡ true → Can M x (false ∷ [])
      may x e = (pushed m x false, ap (λ b. onward (cond b (some (pushed m x false)) none) (λ u. some u)) e)

      go : (x y : Bool) → may_miss s g ≡ x → may_miss s h ≡ y → x ≡ y
      go true true e f = refl
      go false false e f = refl
      go true false e f = absurd (true≢false (sym (miss_may (may_miss s h) (pushed m h false) (miss (may g e))) ∙ f))
      go false true e f = absurd (true≢false (sym (miss_may (may_miss s g) (pushed m g false) (back (may h f))) ∙ e))

-- two marks or none, and marks that are no third thing
mark_tells : (x y : Bool) → cond x high 0 ≡ cond y high 0 → x ≡ y
mark_tells true true e = refl
mark_tells false false e = refl
mark_tells true false e = absurd (omega arith)
mark_tells false true e = absurd (omega arith)

no_third : (x y z : Bool) → (x ≡ y → ⊥) → (z ≡ y → ⊥) → z ≡ x
no_third true y true p q = refl
no_third false y false p q = refl
no_third true true false p q = absurd (p refl)
no_third true false false p q = absurd (q refl)
no_third false true true p q = absurd (q refl)
no_third false false true p q = absurd (p refl)

module _ (s : LimitSet) (m n : ℕ) (w₀ w w' : List ℕ) (e : n ≡ 2 ^ m) (some_history : 1 ≤ n) (fits : n ≤ high) (B : Started s n w₀ w) (P : Parted n w w') where
  abbrev b : ℕ → Bool
  b h = may_miss s h

  abbrev other : ℕ
  other = P.other

  record Told (h : ℕ) : Type 0 where
    may : may_at w' h ≡ b h
    class : ((class_at w' h ≡ 0) × (b 0 ≡ b h)) ⊎ ((class_at w' h ≡ other) × (other ≤ h) × (b other ≡ b h) × (b h ≡ b 0 → ⊥))

  alike : (g h : ℕ) → g < n → h < n → get_or w g 0 ≡ get_or w h 0 → b g ≡ b h
  alike g h k l f = mark_tells (b g) (b h) (sym (B.entries g k) ∙ f ∙ B.entries h l)

  module _ (h : ℕ) (l : h < n) where
    value : (x y : Bool) → b h ≡ x → b 0 ≡ y → get_or w' h 0 ≡ parted_of (cond y high 0) (cond x high 0) other
    value x y f g =
        P.entered.entries h l
        ∙ ap (λ z. parted_of z (get_or w h 0) other) (B.entries 0 (omega arith) ∙ ap (λ z. cond z high 0) g)
        ∙ ap (λ z. parted_of (cond y high 0) z other) (B.entries h l ∙ ap (λ z. cond z high 0) f)

    module _ (differ : b h ≡ b 0 → ⊥) where
      no_later : other ≤ h
      no_later = dite (dec_lt h other) (λ k. absurd (differ (alike h 0 l (omega arith) (P.apart.before h k)))) (λ k. omega arith)

      other_below : other < n
      other_below = omega (arith, no_later)

      other_too : b other ≡ b h
      other_too =
          no_third (b h) (b 0) (b other) differ
          (λ f. P.apart.here other_below (B.entries other other_below ∙ ap (λ z. cond z high 0) f ∙ sym (B.entries 0 (omega arith))))

    told : Told h
    told = go (b h) (b 0) refl refl
      where
        apart : (x y : Bool) → b h ≡ x → b 0 ≡ y → (x ≡ y → ⊥) → b h ≡ b 0 → ⊥
        apart x y f g n q = n (sym f ∙ q ∙ g)

        go : (x y : Bool) → b h ≡ x → b 0 ≡ y → Told h
        go true true f g = record { may = ap (leb high) (value true true f g) ∙ sym f; class = inl (ap (λ z. z % high) (value true true f g), g ∙ sym f) }
        go false false f g = record { may = ap (leb high) (value false false f g) ∙ sym f; class = inl (ap (λ z. z % high) (value false false f g), g ∙ sym f) }
        go true false f g =
            let d = apart true false f g true≢false in
            let v = value true false f g in
            let k = other_below d in
            record { may = ap (leb high) v ∙ le-leb high (high + other) (omega arith) ∙ sym f; class = inr (ap (λ z. z % high) v ∙ omega (arith, k), no_later d, other_too d, d) }
        go false true f g =
            let d = apart false true f g (λ q. true≢false (sym q)) in
            let v = value false true f g in
            let k = other_below d in
            record { may = ap (leb high) v ∙ lt-leb high (0 + other) (omega (arith, k)) ∙ sym f; class = inr (ap (λ z. z % high) v ∙ omega (arith, k), no_later d, other_too d, d) }

  pub stage_one : Stage s m 1 w'
  stage_one = record {
    may = λ h l. (told h (omega arith)).may;
    no_greater = λ h l. ⊎_elim (λ (c, q). omega (arith, c)) (λ (c, k, q, d). omega (arith, c, k)) (told h (omega arith)).class;
    same = λ h l. ⊎_elim (λ (c, q). subst (λ z. SameTo (history_machine s m) 1 z h) (sym c) (same_one s m 0 h q))
        (λ (c, k, q, d). subst (λ z. SameTo (history_machine s m) 1 z h) (sym c) (same_one s m other h q)) (told h (omega arith)).class;
    least = λ g h i l t. ⊎_elim (λ (c, q). omega (arith, c))
        (λ (c, k, q, d). dite (dec_lt g other)
        (λ below. absurd (d (sym (one_same s m g h t) ∙ alike g 0 (omega arith) (omega arith) (P.apart.before g below))))
        (λ above. omega (arith, c))) (told h (omega arith)).class;
  }
