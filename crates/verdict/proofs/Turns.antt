-- What a turn does to a pattern that stands so far: where it is kept, one outcome more stands, and where it is lost, the pattern is lost at that job by that limit, and what is then said of the window is so. Assumes nothing.
use mathlib.Core.Path.{◌≡◌, refl, sym, ap, ◌∙◌, subst}
use mathlib.Core.Bool.{Bool, true, false}
use mathlib.Core.List.{List, [], ◌∷◌, ◌++◌}
use Prim.Native.Nat.{ℕ, ◌+◌, ◌-◌, ◌^◌, ◌<◌, ◌≤◌}
use native.Mathlib.Numerals.{add-one}
use native.Mathlib.Omega.{arith}
use lib.Dec.{T}
use lib.ListN.{length, get_or, take, length-take}
use lib.Seq.{take-take, take-suc, take_all}
use lib.IntN.{pos, neg_ℤ, ◌-ℤ◌}
use Rattle.meaning.specs.declared.LimitSet.{LimitSet}
use Rattle.meaning.specs.Kept.{Kept}
use Rattle.meaning.specs.Broken.{EarliestBroken, BrokenFrom}
use Rattle.meaning.specs.Longest.{longest}
use Rattle.meaning.specs.Sets.{SetAllowed, KeptBy, LostAt, rule_at}
use Rattle.meaning.proofs.Decide.{T_of}
use Rattle.meaning.proofs.Places.{steps_swap}
use Rattle.meaning.proofs.SetLaws.{kept_by_hit, kept_by_take, kept_by_empty}
use Rattle.history.specs.History.{history_of, pushed}
use Rattle.history.specs.MayMiss.{Blocks, may_miss_under}
use Rattle.history.specs.Reaches.{Reaches}
use Rattle.history.proofs.Histories.{history_push, history_start}
use Rattle.history.proofs.MissLaws.{decides_under, may_miss_kept}
use Rattle.history.proofs.Blocking.{none_blocks}
use Rattle.history.proofs.Broken.{reaches_earliest}
use Rattle.std.specs.Prelude.{Some, Ok, Err}
use Rattle.verdict.specs.declared.Loss.{Loss}
use Rattle.verdict.specs.Judge.{Verdict}
use Rattle.verdict.specs.Turn.{Turned, SaysLost, Stands}

abbrev m : ℕ
m = longest - 1

-- before the first outcome, and after the last
pub stands_first : (s : LimitSet) (p : List Bool) → SetAllowed longest s → Stands s p 0 (2 ^ m - 1)
stands_first s p ok = record { kept = kept_by_empty s longest ok; history = sym (history_start m); within = omega arith }

pub stands_last : (s : LimitSet) (p : List Bool) (i h : ℕ) → length p ≤ i → Stands s p i h → KeptBy s p
stands_last s p i h l stands = subst (λ z. KeptBy s z) (take_all i p l) stands.kept

module _ (s : LimitSet) (ok : SetAllowed longest s) (p : List Bool) (i h : ℕ) (l : i < length p) (stands : Stands s p i h) where
  next_is : (o : Bool) → get_or p i false ≡ o → take (i + 1) p ≡ take i p ++ o ∷ []
  next_is o e = ap (λ z. take z p) (add-one i) ∙ take-suc p i false l ∙ ap {B = List Bool} (λ z. take i p ++ z ∷ []) e

  -- the history is pushed, and what is kept is said
  goes_on : (o : Bool) → get_or p i false ≡ o → (h' : ℕ) → h' ≡ pushed m h o → KeptBy s (take i p ++ o ∷ []) → Stands s p (i + 1) h'
  goes_on o e h' q k = record {
    kept = subst (λ z. KeptBy s z) (sym (next_is o e)) k;
    history = q ∙ ap (λ z. pushed m z o) stands.history ∙ sym (history_push m (take i p) o) ∙ ap (history_of m) (sym (next_is o e));
    within = omega (arith, q);
  }

  pub turned_kept : (o : Bool) → get_or p i false ≡ o → (h' : ℕ) → Turned s h o (Ok h') → Stands s p (i + 1) h'
  turned_kept true e h' q = goes_on true e h' q (kept_by_hit s (take i p) stands.kept)
  turned_kept false e h' (blocks, q) =
      goes_on false e h' q
      ((may_miss_kept m (take i p) s ok stands.kept).0 (T_of _ (none_blocks s (history_of m (take i p)) s.count (subst (λ z. Blocks s z s.count) stands.history blocks) refl)))

  module _ (miss : get_or p i false ≡ false) (n : ℕ) (blocks : Blocks s h n) where
    -- what limit j says of the miss
    decided : (j : ℕ) → j < s.count → T (may_miss_under (rule_at s j) h) → Kept (rule_at s j) (take (i + 1) p)
    decided j lt t =
        subst (λ z. Kept (rule_at s j) z) (sym (next_is false miss))
        ((decides_under m (take i p) (rule_at s j) (ok.each j lt).rule_allowed (stands.kept j lt)).0 (subst (λ z. T (may_miss_under (rule_at s j) z)) stands.history t))

    blocked : (j : ℕ) (lt : j < s.count) → may_miss_under (rule_at s j) h ≡ false → Kept (rule_at s j) (take (i + 1) p) → ⊥
    blocked j lt f g =
        subst (λ z. T z) (ap (may_miss_under (rule_at s j)) (sym stands.history) ∙ f)
        ((decides_under m (take i p) (rule_at s j) (ok.each j lt).rule_allowed (stands.kept j lt)).1 (subst (λ z. Kept (rule_at s j) z) (next_is false miss) g))

    lost_here : n < s.count → LostAt s p (i + 1) n
    lost_here lt = record {
      lost = λ g. blocked n lt (blocks.here lt) (g n lt);
      shortest = λ j k. subst (λ z. KeptBy s z) (take-take j i p (omega arith)) (kept_by_take s j (take i p) stands.kept);
      breaks = blocked n lt (blocks.here lt);
      lowest = λ j k. decided j (omega arith) (T_of _ (blocks.before j k));
    }

    -- place i is job i + 1, and the window begins so many places before it
    said_from : n < s.count → (back : ℕ) → Reaches (rule_at s n) h back → BrokenFrom (rule_at s n) (take (i + 1) p) (pos (i + 1) -ℤ pos back)
    said_from lt back r =
        let rule = rule_at s n in
        let q = take i p in
        let e : length q ≡ i = omega (arith, length-take i p) in
        let b = reaches_earliest m q rule (ok.each n lt).rule_allowed back (stands.kept n lt) (subst (λ z. Reaches rule z back) stands.history r) in (
          pos i -ℤ pos back,
          subst (λ z. EarliestBroken rule z (pos i -ℤ pos back)) (sym (next_is false miss)) (subst (λ z. EarliestBroken rule (q ++ false ∷ []) (pos z -ℤ pos back)) e b),
          steps_swap (pos i) (pos 1) (neg_ℤ (pos back)),
        )

  pub turned_lost : (o : Bool) → get_or p i false ≡ o → (n : ℕ) → Turned s h o (Err n) → (r : Loss) → SaysLost s h i n r → Verdict s p (Ok (Some r))
  turned_lost true e n t r q = absurd t
  turned_lost false e n (blocks, lt) r (back, b, q) = rw q (lost_here e n blocks lt, said_from e n blocks lt back b)

-- whatever was turned, the history that is left is a history
pub turned_within : (s : LimitSet) (h : ℕ) (o : Bool) (h' : ℕ) → Turned s h o (Ok h') → h' < 2 ^ m
turned_within s h true h' q = omega (arith, q)
turned_within s h false h' (_, q) = omega (arith, q)

-- a turn is lost where a limit of the set blocks it
pub turned_blocks : (s : LimitSet) (h : ℕ) (o : Bool) (n : ℕ) → Turned s h o (Err n) → Blocks s h n × (n < s.count)
turned_blocks s h true n t = absurd t
turned_blocks s h false n t = t
