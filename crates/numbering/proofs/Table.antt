-- Once every row is read the work area writes a table that is numbered at first sight: the entries before a state's first lead to lower states. Assumes nothing.
use mathlib.Core.Path.{◌≡◌, refl, sym, ap, ◌∙◌}
use mathlib.Core.Logic.{dite}
use mathlib.Core.Option.{Option, none, some, none-ne-some, some-injective}
use mathlib.Core.Bool.{Bool, true, false, cond}
use mathlib.Core.List.{List}
use Prim.Native.Nat.{ℕ, ◌-◌, ◌≤◌, ◌<◌}
use native.Mathlib.Decide.{dec_lt}
use native.Mathlib.Omega.{arith}
use Rattle.patterns.proofs.Numbers.{bit_le}
use Rattle.machines.specs.Machine.{WellMade}
use Rattle.machines.specs.Numbering.{place, FirstSeen, NumberedAtSight}
use Rattle.classes.specs.Area.{next_class}
use Rattle.numbering.specs.Numbered.{class_of, number_after, move_of, numbered_machine}
use Rattle.numbering.specs.Rows.{possible, Leads, Found, Numbering}
use Rattle.numbering.proofs.Reading.{place_one, class_after_below}

some_where_true : (b : Bool) (x t : ℕ) → cond b (some x) none ≡ some t → (b ≡ true) × (x ≡ t)
some_where_true true x t e = (refl, some-injective x t e)
some_where_true false x t e = absurd (none-ne-some t e)

pub move_where_possible : (w : List ℕ) (n h : ℕ) (o : Bool)
    → move_of w n h o ≡ cond (possible w h o) (some (number_after w n h o - 1)) none
move_where_possible w n h true = refl
move_where_possible w n h false = refl

module _ (n : ℕ) (w : List ℕ) (count : ℕ) (N : Numbering n w count (place count false)) where
  pub number_at_least_1 : (j : ℕ) (o : Bool) → j < count → possible w (class_of n w j) o ≡ true
      → 1 ≤ number_after w n (class_of n w j) o
  number_at_least_1 j o l = N.closed j o l (omega (arith, bit_le o))

  pub number_at_most_count : (j : ℕ) (o : Bool) → number_after w n (class_of n w j) o ≤ count
  number_at_most_count j o = N.ordered.no_more (next_class w n (class_of n w j) o) (class_after_below N j o)

  pub move_leads : (j t : ℕ) (o : Bool) → j < count → move_of w n (class_of n w j) o ≡ some t → Leads n w j t o
  move_leads j t o l e =
      let (a, b) = some_where_true (possible w (class_of n w j) o) (number_after w n (class_of n w j) o - 1) t
      (sym (move_where_possible w n (class_of n w j) o) ∙ e) in
      record { may = a; there = omega (arith, number_at_least_1 j o l a) }

  leads_move : (j t : ℕ) (o : Bool) → Leads n w j t o → move_of w n (class_of n w j) o ≡ some t
  leads_move j t o L =
      let e : number_after w n (class_of n w j) o - 1 ≡ t = omega (arith, L.there) in
      move_where_possible w n (class_of n w j) o
      ∙ ap (λ b. cond b (some (number_after w n (class_of n w j) o - 1)) none) L.may
      ∙ ap {B = Option ℕ} some e

  pub well_made : WellMade (numbered_machine n w count)
  well_made = record {
    start_below = N.some_state;
    next_below = λ j t o l e. omega (arith, (move_leads j t o l e).there, number_at_most_count j o);
  }

  -- no entry leads to t before the place where it was found
  none_before : (t s r : ℕ) (o x : Bool) → Found n w (place count false) t s o → r < count
      → move_of w n (class_of n w r) x ≡ some t → place s o ≤ place r x
  none_before t s r o x F l e = dite (dec_lt (place r x) (place s o))
      (λ b. absurd (omega (arith, F.lower_before r t x b (move_leads r t x l e))))
      (λ b. omega arith)

  first_seen : (t s : ℕ) (o : Bool) → Found n w (place count false) t s o → FirstSeen (numbered_machine n w count) t s o
  first_seen t s o F = record {
    row_before = F.row_before;
    here = leads_move s t o F.here;
    none_before = λ r x l e. none_before t s r o x F l e;
  }

  in_order : (t u s r : ℕ) (o x : Bool) → 1 ≤ t → t < u → u < count → FirstSeen (numbered_machine n w count) t s o
      → FirstSeen (numbered_machine n w count) u r x → place s o < place r x
  in_order t u s r o x a b l f g =
      let (q, y, F) = N.found t a (omega arith) in
      let i = f.none_before q y (omega (arith, F.row_before)) (leads_move q t y F.here) in
      let L = move_leads r u x (omega (arith, g.row_before)) g.here in
      dite (dec_lt (place q y) (place r x)) (λ h. omega arith) (λ h.
      dite (dec_lt (place r x) (place q y)) (λ k. absurd (omega (arith, F.lower_before r u x k L))) (λ k.
      let (d, e) = place_one r q x y (omega arith) in
      let z : number_after w n (class_of n w r) x ≡ number_after w n (class_of n w q) y = cc in
      absurd (omega (arith, L.there, F.here.there))))

  pub at_sight : NumberedAtSight (numbered_machine n w count)
  at_sight = record {
    starts_at_0 = refl;
    seen = λ t a l. let (s, o, F) = N.found t a l in (s, o, first_seen t s o F);
    in_order = in_order;
  }
