-- Reading one more entry: what the earlier entries lead to has a number already, so it stays, and a new number is first seen at this entry. Assumes nothing.
use mathlib.Core.Path.{◌≡◌, refl, sym, ap, ◌∙◌}
use mathlib.Core.Logic.{dite}
use mathlib.Core.Bool.{Bool, true, false}
use mathlib.Core.List.{List}
use Prim.Native.Nat.{ℕ, ◌+◌, ◌-◌, ◌≤◌, ◌<◌}
use native.Mathlib.Decide.{dec_lt}
use native.Mathlib.Omega.{arith}
use Rattle.patterns.proofs.Numbers.{bit_le}
use Rattle.machines.specs.Numbering.{place}
use Rattle.history.specs.History.{shifted}
use Rattle.history.proofs.Shifted.{shifted_lt}
use Rattle.classes.specs.Area.{next_class}
use Rattle.numbering.specs.Numbered.{number_at, class_of}
use Rattle.numbering.specs.Rows.{Visited, possible, class_after, Leads, Found, Numbering, ReadTo}
use Rattle.numbering.proofs.Keeping.{kept_none, class_stays, possible_stays, ready_kept}

-- a place tells row and outcome
pub place_one : (s r : ℕ) (o x : Bool) → place s o ≡ place r x → (s ≡ r) × (o ≡ x)
place_one s r true true e = (omega arith, refl)
place_one s r false false e = (omega arith, refl)
place_one s r true false e = absurd (omega arith)
place_one s r false true e = absurd (omega arith)

pub some_histories : {n : ℕ} {w : List ℕ} {count p : ℕ} → Numbering n w count p → 1 ≤ n
some_histories N = omega (arith, N.some_state, N.ordered.rest_free)

pub class_after_below : {n : ℕ} {w : List ℕ} {count p : ℕ} → Numbering n w count p → (s : ℕ) (o : Bool) → class_after n w s o < n
class_after_below {n} {w} N s o =
    let l = shifted_lt n (class_of n w s) o (some_histories N) in
    omega (arith, N.ready.no_greater (shifted (n - 1) (class_of n w s) o) l)

row_no_later : (s r : ℕ) (o x : Bool) → place s o < place r x → s ≤ r
row_no_later s r o x l = omega (arith, bit_le x)

-- an outcome that isn't possible is passed over
pub read_none : (n : ℕ) (w : List ℕ) (count i : ℕ) (o : Bool) → Numbering n w count (place i o)
    → possible w (class_of n w i) o ≡ false → ReadTo n w w count count (place i o + 1)
read_none n w count i o N d = record {
  numbering = record {
    ready = N.ready;
    ordered = N.ordered;
    some_state = N.some_state;
    start = N.start;
    closed = λ s x l b m. dite (dec_lt (place s x) (place i o)) (λ a. N.closed s x l a m) (λ a.
        let (f, g) = place_one s i x o (omega arith) in
        let z : ◌≡◌ {A = ℕ} 0 1 = cc in
        absurd (omega arith));
    found = λ t a l.
        let (s, x, F) = N.found t a l in (
          s,
          x,
          record {
            read = omega (arith, F.read);
            row_before = F.row_before;
            here = F.here;
            lower_before = F.lower_before;
          },
        );
  };
  kept = kept_none n w;
  grows = omega arith;
}

module _ (n : ℕ) (w w' : List ℕ) (count r i : ℕ) (o : Bool) (N : Numbering n w count (place i o)) (il : i < count)
    (may : possible w (class_of n w i) o ≡ true) (G : Visited n w w' (class_after n w i o) count r) where
  after_stays : (s : ℕ) (x : Bool) → s < count → class_after n w' s x ≡ class_after n w s x
  after_stays s x l =
      ap (λ c. next_class w' n c x) (G.order_stays s l)
      ∙ class_stays n w w' G.kept (shifted (n - 1) (class_of n w s) x)
      (shifted_lt n (class_of n w s) x (some_histories N))

  outcome_stays : (s : ℕ) (x : Bool) → s < count → possible w' (class_of n w' s) x ≡ possible w (class_of n w s) x
  outcome_stays s x l =
      ap (λ c. possible w' c x) (G.order_stays s l)
      ∙ possible_stays n w w' G.kept (class_of n w s) (N.ordered.histories s l) x

  number_stays : (s : ℕ) (x : Bool) → s < count → 1 ≤ number_at n w (class_after n w s x)
      → number_at n w' (class_after n w' s x) ≡ number_at n w (class_after n w s x)
  number_stays s x l p = ap (number_at n w') (after_stays s x l) ∙ G.numbers_stay (class_after n w s x) (class_after_below N s x) p

  leads_on : (s t : ℕ) (x : Bool) → s < count → Leads n w s t x → Leads n w' s t x
  leads_on s t x l L = record {
    may = outcome_stays s x l ∙ L.may;
    there = number_stays s x l (omega (arith, L.there)) ∙ L.there;
  }

  leads_back : (s t : ℕ) (x : Bool) → s < count → place s x < place i o → Leads n w' s t x → Leads n w s t x
  leads_back s t x l b L =
      let m = sym (outcome_stays s x l) ∙ L.may in
      record { may = m; there = sym (number_stays s x l (N.closed s x l b m)) ∙ L.there }

  -- a number that was there is found where it was, a new one here
  found_more : (t : ℕ) → 1 ≤ t → t < r → (s : ℕ) × (x : Bool) × Found n w' (place i o + 1) t s x
  found_more t a l = dite (dec_lt t count)
      (λ b.
      let (s, x, F) = N.found t a b in (
        s,
        x,
        record {
          read = omega (arith, F.read);
          row_before = F.row_before;
          here = leads_on s t x (omega (arith, F.row_before)) F.here;
          lower_before = λ q u y c L.
              F.lower_before q u y c
              (leads_back q u y (omega (arith, row_no_later q s y x c, F.row_before)) (omega (arith, F.read)) L);
        },
      ))
      (λ b. (
        i,
        o,
        record {
          read = omega arith;
          row_before = omega arith;
          here = record {
            may = outcome_stays i o il ∙ may;
            there = ap (number_at n w') (after_stays i o il) ∙ G.new_number t (omega arith) l;
          };
          lower_before = λ q u y c L.
              let M = leads_back q u y (omega (arith, row_no_later q i y o c)) c L in
              omega (arith, M.there, N.ordered.no_more (class_after n w q y) (class_after_below N q y));
        },
      ))

  closed_more : (s : ℕ) (x : Bool) → s < r → place s x < place i o + 1 → possible w' (class_of n w' s) x ≡ true
      → 1 ≤ number_at n w' (class_after n w' s x)
  closed_more s x l b m = dite (dec_lt (place s x) (place i o))
      (λ a.
      let k : s < count = omega (arith, row_no_later s i x o a) in
      let c = N.closed s x k a (sym (outcome_stays s x k) ∙ m) in
      omega (arith, number_stays s x k c))
      (λ a.
      let (f, g) = place_one s i x o (omega arith) in
      let q : number_at n w' (class_after n w' s x) ≡ number_at n w' (class_after n w i o) = cc (after_stays i o il) in
      omega (arith, q, G.numbered))

  pub read_more : ReadTo n w w' count r (place i o + 1)
  read_more = record {
    numbering = record {
      ready = ready_kept n w w' G.kept N.ready;
      ordered = G.ordered;
      some_state = omega (arith, N.some_state, G.grows);
      start = G.order_stays 0 N.some_state ∙ N.start
          ∙ sym (class_stays n w w' G.kept (n - 1) (omega (arith, some_histories N)));
      closed = closed_more;
      found = found_more;
    };
    kept = G.kept;
    grows = G.grows;
  }
