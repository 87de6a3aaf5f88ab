-- The states of the table stand for the different histories of the set: a move leads to the class of the next history, and of two classes that are the same each is no greater than the other. Assumes nothing.
use mathlib.Core.Path.{◌≡◌, refl, sym, ap, ◌∙◌, subst}
use mathlib.Core.Option.{none, some, none-ne-some}
use mathlib.Core.Bool.{Bool, true, false, cond}
use mathlib.Core.List.{List}
use Prim.Native.Nat.{ℕ, ◌-◌, ◌^◌, ◌≤◌, ◌<◌}
use native.Mathlib.Omega.{arith}
use lib.Pow.{pow_pos}
use Rattle.machines.specs.Same.{Same}
use Rattle.machines.specs.Numbering.{place}
use Rattle.machines.proofs.Rounds.{same_sym}
use Rattle.meaning.specs.declared.LimitSet.{LimitSet}
use Rattle.history.specs.History.{pushed}
use Rattle.history.specs.Machine.{history_next, history_machine}
use Rattle.classes.specs.Area.{class_at, next_class}
use Rattle.classes.specs.Classed.{Classed}
use Rattle.classes.proofs.Converge.{pushed_lt}
use Rattle.classes.proofs.Told.{next_class_pushed}
use Rattle.numbering.specs.Numbered.{number_at, class_of, number_after, move_of, Numbered}
use Rattle.numbering.specs.Work.{Kept, NumberedFrom}
use Rattle.numbering.specs.declared.Numbers.{Numbers}
use Rattle.numbering.specs.Rows.{possible, Leads, Numbering, ReadTo}
use Rattle.numbering.specs.Stores.{Stores}
use Rattle.numbering.proofs.Keeping.{kept_trans}
use Rattle.numbering.proofs.Storing.{stores_then}
use Rattle.numbering.proofs.Classes.{classed_kept}
use Rattle.numbering.proofs.Table.{move_where_possible, number_at_least_1, number_at_most_count, move_leads, well_made, at_sight}
use Rattle.numbering.proofs.Reading.{class_after_below}

none_where_false : (b : Bool) (x : ℕ) → cond b (some x) none ≡ none → b ≡ false
none_where_false true x e = absurd (none-ne-some x (sym e))
none_where_false false x e = refl

module _ (m : ℕ) (w : List ℕ) (count : ℕ) (N : Numbering (2 ^ m) w count (place count false)) (s : LimitSet) (C : Classed s m w) where
  history_move : (j : ℕ) (o : Bool) → j < count
      → history_next s m (class_of (2 ^ m) w j) o ≡ cond (possible w (class_of (2 ^ m) w j) o) (some (pushed m (class_of (2 ^ m) w j) o)) none
  history_move j true l = refl
  history_move j false l =
      ap (λ b. cond b (some (pushed m (class_of (2 ^ m) w j) false)) none) (sym (C.may (class_of (2 ^ m) w j) (N.ordered.histories j l)))

  blocked : (j : ℕ) (o : Bool) → j < count → move_of w (2 ^ m) (class_of (2 ^ m) w j) o ≡ none → history_next s m (class_of (2 ^ m) w j) o ≡ none
  blocked j o l e =
      let d = none_where_false (possible w (class_of (2 ^ m) w j) o) (number_after w (2 ^ m) (class_of (2 ^ m) w j) o - 1)
      (sym (move_where_possible w (2 ^ m) (class_of (2 ^ m) w j) o) ∙ e) in
      history_move j o l ∙ ap (λ b. cond b (some (pushed m (class_of (2 ^ m) w j) o)) none) d

  -- the class that an outcome leads to is that of the history after it
  class_led : (j t : ℕ) (o : Bool) → Leads (2 ^ m) w j t o → class_of (2 ^ m) w t ≡ class_at w (pushed m (class_of (2 ^ m) w j) o)
  class_led j t o L =
      let c = next_class w (2 ^ m) (class_of (2 ^ m) w j) o in
      let e : number_at (2 ^ m) w c - 1 ≡ t = omega (arith, L.there) in
      ap (class_of (2 ^ m) w) (sym e) ∙ N.ordered.class_of_number c (class_after_below N j o) (omega (arith, L.there))
      ∙ next_class_pushed w m (class_of (2 ^ m) w j) o

  moves : (j t : ℕ) (o : Bool) → j < count → move_of w (2 ^ m) (class_of (2 ^ m) w j) o ≡ some t
      → (u : ℕ) × (history_next s m (class_of (2 ^ m) w j) o ≡ some u) × Same (history_machine s m) (class_of (2 ^ m) w t) u
  moves j t o l e =
      let L = move_leads (2 ^ m) w count N j t o l e in
      let u = pushed m (class_of (2 ^ m) w j) o in (
        u,
        history_move j o l ∙ ap (λ b. cond b (some u) none) L.may,
        subst (λ c. Same (history_machine s m) c u) (sym (class_led j t o L)) (C.same u (pushed_lt m (class_of (2 ^ m) w j) o)),
      )

  -- of two classes that are the same each is no greater than the other
  no_greater : (j t : ℕ) → j < count → t < count → Same (history_machine s m) (class_of (2 ^ m) w j) (class_of (2 ^ m) w t) → class_of (2 ^ m) w t ≤ class_of (2 ^ m) w j
  no_greater j t k l e =
      omega (arith, N.ordered.own_class t l, C.least (class_of (2 ^ m) w j) (class_of (2 ^ m) w t) (N.ordered.histories j k) (N.ordered.histories t l) e)

  apart : (j t : ℕ) → j < count → t < count → Same (history_machine s m) (class_of (2 ^ m) w j) (class_of (2 ^ m) w t) → j ≡ t
  apart j t k l e =
      let a = no_greater j t k l e in
      let b = no_greater t j l k (same_sym (history_machine s m) (class_of (2 ^ m) w j) (class_of (2 ^ m) w t) e) in
      let d : class_of (2 ^ m) w j ≡ class_of (2 ^ m) w t = omega arith in
      omega (arith, ap (number_at (2 ^ m) w) d, N.ordered.number_of_class j k, N.ordered.number_of_class t l)

  pub numbered : Numbered s m w count
  numbered = record {
    some_state = N.some_state;
    no_more = omega (arith, N.ordered.rest_free);
    well_made = well_made (2 ^ m) w count N;
    at_sight = at_sight (2 ^ m) w count N;
    stands = record {
      start = subst (λ c. Same (history_machine s m) c (2 ^ m - 1)) (sym N.start) (C.same (2 ^ m - 1) (omega (arith, pow_pos m)));
      blocked = blocked;
      moves = moves;
      apart = apart;
    };
    histories = N.ordered.histories;
    hits_numbered = λ j l. (number_at_least_1 (2 ^ m) w count N j true l refl, number_at_most_count (2 ^ m) w count N j true);
    misses_numbered = λ j l a. (number_at_least_1 (2 ^ m) w count N j false l a, number_at_most_count (2 ^ m) w count N j false);
  }

pub numbered_from : (n : ℕ) (w w' : List ℕ) (count p : ℕ) → Kept n w w' → Numbering n w' count p → p ≡ place count false
    → NumberedFrom n w w' count
numbered_from n w w' count p K N e = record {
  numbered = λ s m f C.
      let N₁ : Numbering n w' count (place count false) = subst (Numbering n w' count) e N in
      let N₂ : Numbering (2 ^ m) w' count (place count false) = subst (λ k. Numbering k w' count (place count false)) f N₁ in
      numbered m w' count N₂ s (classed_kept s m w C w' (subst (λ k. Kept k w w') f K));
  kept = K;
}

-- of the slice that was lent
pub numbered_told : (n : ℕ) (w w' : List ℕ) (a b c : Numbers) (p : ℕ) → a.n ≡ n → a.work.now ≡ w
    → Stores (λ n w w' count r. ReadTo n w w' 0 r (place 0 false)) a b → Stores (λ n w w' count r. Numbering n w' r p × Kept n w w') b c
    → p ≡ place c.count false → w' ≡ c.work.now → NumberedFrom n w w' c.count
numbered_told n w w' a b c p e f S I q g =
    let t : Stores (λ n w w' count r. NumberedFrom n w w' r) a c =
    stores_then (λ R (N, K). numbered_from a.n a.work.now c.work.now c.count p (kept_trans R.kept K) N q) S I in
    subst (λ z. NumberedFrom n w z c.count) (sym g)
    (subst (λ z. NumberedFrom n z c.work.now c.count) f (subst (λ z. NumberedFrom z a.work.now c.work.now c.count) e t.stored))
