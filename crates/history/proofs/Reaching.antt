-- The earliest window that a miss breaks. Of all but RowHit it is the one that the miss ends; under RowHit it has as many outcomes before the miss as are without a row, since the hits after the miss are too few for one. Assumes nothing.
use mathlib.Core.Path.{◌≡◌, refl, sym, ap, ◌∙◌}
use mathlib.Core.Logic.{dite}
use mathlib.Core.Bool.{true, false, false≢true}
use mathlib.Core.List.{[], ◌∷◌, ◌++◌, reverse, reverse-cons, reverse-append, append_assoc}
use Prim.Native.Nat.{ℕ, zero, suc, ◌+◌, ◌-◌, ◌/◌, ◌≤◌, ◌<◌}
use native.Mathlib.Decide.{dec_lt}
use native.Mathlib.Omega.{arith}
use borrow.Author.Tests.{leb-false}
use lib.Dec.{leb}
use lib.ListN.{length, replicate, length-append, length-replicate, length-reverse}
use Rattle.meaning.specs.declared.Kind.{Kind}
use Rattle.meaning.specs.declared.Kind.TheVariants.{AnyHit, RowHit, AnyMiss, RowMiss}
use Rattle.meaning.specs.Limit.{any_hit, row_hit, RuleAllowed, width}
use Rattle.meaning.specs.KindOf.{rule_with}
use Rattle.meaning.specs.Holds.{hits, Holds}
use Rattle.meaning.specs.Test.{has_run}
use Rattle.meaning.proofs.Decide.{T_of, T_true, run_iff}
use Rattle.meaning.proofs.MissMore.{hits_append, hits_replicate, run_after}
use Rattle.meaning.proofs.TwoKinds.{any_miss_hit, row_miss_hit}
use Rattle.history.specs.History.{newest}
use Rattle.history.specs.MayMiss.{may_miss_under}
use Rattle.history.specs.Reaches.{over_miss, Reaches}
use Rattle.history.proofs.Runs.{hits_reverse, reverse_replicate, row_reverse, row_some, run_after_misses, run_reverse, run_short}

length_newest : (n h : ℕ) → length (newest n h) ≡ n
unfolding newest
length_newest zero h = refl
length_newest (suc n) h = ap suc (length_newest n (h / 2))

length_over : (k n h : ℕ) → n < k → length (over_miss k n h) ≡ k
length_over k n h l =
    omega (arith, length-append (reverse (newest n h)) (false ∷ replicate (k - suc n) true), length-reverse (newest n h), length_newest n h, length-replicate (k - suc n) true)

hits_over : (k n h : ℕ) → hits (over_miss k n h) ≡ hits (newest n h) + (k - suc n)
hits_over k n h =
    omega (arith, hits_append (reverse (newest n h)) (false ∷ replicate (k - suc n) true), hits_reverse (newest n h), hits_replicate (k - suc n))

-- read from the newest on, it is the hits after the miss, the miss, and the newest outcomes before it
over_reverse : (k n h : ℕ) → reverse (replicate (k - suc n) true ++ false ∷ newest n h) ≡ over_miss k n h
over_reverse k n h =
    let after = replicate (k - suc n) true in
    reverse-append after (false ∷ newest n h)
    ∙ ap (λ w. w ++ reverse after) (reverse-cons false (newest n h))
    ∙ ap (λ w. (reverse (newest n h) ++ false ∷ []) ++ w) (reverse_replicate (k - suc n) true)
    ∙ append_assoc (reverse (newest n h)) (false ∷ []) after

-- too few hits after the miss leave the row to the outcomes before it
row_over : (x k n h : ℕ) → k - suc n < x → has_run x (over_miss k n h) ≡ has_run x (newest n h)
row_over x k n h l =
    let w = false ∷ newest n h in
    ap (has_run x) (sym (over_reverse k n h))
    ∙ row_reverse x (replicate (k - suc n) true ++ w)
    ∙ run_short x (k - suc n) w l refl
    ∙ run_after_misses x 1 (newest n h)

-- RowHit(x, k), where n is the most outcomes that are without a row
pub row_reaches : (w x k h n : ℕ) → RuleAllowed w (row_hit x k) → may_miss_under (row_hit x k) h ≡ false
    → (n ≤ k - 1) × (has_run x (newest n h) ≡ false) × ((a : ℕ) → n < a → a ≤ k - 1 → has_run x (newest a h) ≡ true) → Reaches (row_hit x k) h n
row_reaches w x k h n ok blocked (short, none, later) =
    let some : 0 < x = row_some x (newest (k - x) h) blocked in
    let far : k - x ≤ n = dite (dec_lt n (k - x)) (λ l. absurd (false≢true (sym blocked ∙ later (k - x) l (omega (arith, ok))))) (λ l. omega arith) in
    record {
      within = omega (arith, ok);
      broken = λ r. false≢true (sym none ∙ sym (row_over x k n h (omega arith)) ∙ T_true _ ((run_iff x (over_miss k n h)).1 r));
      farthest = λ a l m. run_after x (reverse (newest a h)) _ (run_reverse x (newest a h) ((run_iff x (newest a h)).0 (T_of _ (later a l (omega arith)))));
    }

-- every other kind, where the n outcomes and the miss are the window
any_broken : (x k h n : ℕ) → n + 1 ≡ k → leb x (hits (newest (k - 1) h)) ≡ false → Holds (any_hit x k) (over_miss k n h) → ⊥
any_broken x k h n e blocked m =
    let last : k - 1 ≡ n = omega arith in
    omega (arith, leb-false x (hits (newest (k - 1) h)) blocked, hits_over k n h, ap (λ z. hits (newest z h)) last)

end_broken : (w : ℕ) (kind : Kind) (x k h n : ℕ) → (kind ≡ RowHit → ⊥) → RuleAllowed w (rule_with kind x k) → may_miss_under (rule_with kind x k) h ≡ false
    → n + 1 ≡ width (rule_with kind x k) → Holds (rule_with kind x k) (over_miss (width (rule_with kind x k)) n h) → ⊥
end_broken w AnyHit x k h n d ok blocked e m = any_broken x k h n e blocked m
end_broken w RowHit x k h n d ok blocked e m = d refl
end_broken w AnyMiss x k h n d ok blocked e m = any_broken (k - x) k h n e blocked ((any_miss_hit x k (over_miss k n h) ok.2 (length_over k n h (omega arith))).0 m)
end_broken w RowMiss x k h n d ok blocked e m = any_broken 1 x h n e blocked ((row_miss_hit x (over_miss x n h)).0 m)

pub end_reaches : (w : ℕ) (kind : Kind) (x k h n : ℕ) → (kind ≡ RowHit → ⊥) → RuleAllowed w (rule_with kind x k) → may_miss_under (rule_with kind x k) h ≡ false
    → n + 1 ≡ width (rule_with kind x k) → Reaches (rule_with kind x k) h n
end_reaches w kind x k h n d ok blocked e = record {
  within = omega arith;
  broken = end_broken w kind x k h n d ok blocked e;
  farthest = λ a f g. absurd (omega arith);
}
