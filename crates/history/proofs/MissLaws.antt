-- After a kept pattern a miss may follow, by the history alone, exactly when the pattern with the miss is kept: the laws of one miss more, read off the newest bits. Assumes nothing.
use mathlib.Core.Path.{◌≡◌, refl, sym, ap, ◌∙◌, subst}
use mathlib.Core.Logic.{◌↔◌}
use mathlib.Core.Bool.{Bool, false}
use mathlib.Core.List.{List, [], ◌∷◌, ◌++◌}
use Prim.Native.Nat.{ℕ, zero, suc, ◌-◌, ◌≤◌}
use native.Mathlib.Omega.{arith}
use lib.Dec.{T, leb, leb→le, le→leb}
use Rattle.meaning.specs.declared.LimitSet.{LimitSet}
use Rattle.meaning.specs.Limit.{Rule, any_hit, row_hit, any_miss, row_miss, RuleAllowed}
use Rattle.meaning.specs.Holds.{hits, Run}
use Rattle.meaning.specs.Window.{recent}
use Rattle.meaning.specs.Kept.{Kept}
use Rattle.meaning.specs.Sets.{SetAllowed, KeptBy, rule_at}
use Rattle.meaning.specs.Test.{has_run}
use Rattle.meaning.proofs.TwoKinds.{any_miss_kept, row_miss_kept}
use Rattle.meaning.proofs.MissMore.{miss_more_any, miss_more_row}
use Rattle.meaning.proofs.Decide.{run_iff, every_at, every_from}
use Rattle.history.specs.History.{history_of, newest}
use Rattle.history.specs.MayMiss.{may_miss_under, may_miss}
use Rattle.history.proofs.Histories.{newest_history}
use Rattle.history.proofs.Runs.{hits_reverse, run_reverse, run_unreverse}

-- the test says whether one more miss keeps a kept pattern
abbrev pub Decides : Bool → Rule → List Bool → Type 0
Decides b l p = Kept l p → T b ↔ Kept l (p ++ false ∷ [])

-- a rule that keeps the same patterns is decided by the same test
same_decides : (b : Bool) (l n : Rule) (p : List Bool) → ((q : List Bool) → Kept l q ↔ Kept n q) → Decides b n p → Decides b l p
same_decides b l n p f d k =
    let s = d ((f p).0 k) in
    (λ t. (f (p ++ false ∷ [])).1 (s.0 t), λ h. s.1 ((f (p ++ false ∷ [])).0 h))

module _ (m : ℕ) (p : List Bool) where
  hits_newest : (n : ℕ) → n ≤ m → hits (newest n (history_of m p)) ≡ hits (recent p n)
  hits_newest n h = ap hits (newest_history m p n h) ∙ hits_reverse (recent p n)

  decides_any : (x k : ℕ) → 1 ≤ k → k ≤ suc m → Decides (leb x (hits (newest (k - 1) (history_of m p)))) (any_hit x k) p
  decides_any x k wide short h =
      let s = miss_more_any x k p wide h in
      let n = hits (newest (k - 1) (history_of m p)) in
      let e = hits_newest (k - 1) (omega arith) in
      (λ t. s.1 (omega (arith, leb→le x n t)), λ g. le→leb x n (omega (arith, s.0 g)))

  run_newest : (x n : ℕ) → n ≤ m → T (has_run x (newest n (history_of m p))) ↔ Run x (recent p n)
  run_newest x n h =
      let e = newest_history m p n h in
      let w = newest n (history_of m p) in (
        λ t. run_unreverse x (recent p n) (subst (λ z. Run x z) e ((run_iff x w).0 t)),
        λ r. (run_iff x w).1 (subst (λ z. Run x z) (sym e) (run_reverse x (recent p n) r)),
      )

  decides_row : (x k : ℕ) → 1 ≤ k → k ≤ suc m → x ≤ k → Decides (has_run x (newest (k - x) (history_of m p))) (row_hit x k) p
  decides_row zero k wide short fits h =
      let s = miss_more_row zero k p fits h in (
        λ t. s.1 ([], recent p (k - zero), refl),
        λ g. (run_iff zero (newest (k - zero) (history_of m p))).1 ([], newest (k - zero) (history_of m p), refl),
      )
  decides_row (suc x) k wide short fits h =
      let s = miss_more_row (suc x) k p fits h in
      let r = run_newest (suc x) (k - suc x) (omega arith) in
      (λ t. s.1 (r.0 t), λ g. r.1 (s.0 g))

  pub decides_under : (l : Rule) → RuleAllowed (suc m) l → Decides (may_miss_under l (history_of m p)) l p
  decides_under (any_hit x k) (a, b, c) = decides_any x k a b
  decides_under (row_hit x k) (a, b, c) = decides_row x k a b c
  decides_under (any_miss x k) (a, b, c) =
      same_decides (may_miss_under (any_miss x k) (history_of m p)) (any_miss x k) (any_hit (k - x) k) p (any_miss_kept x k c) (decides_any (k - x) k a b)
  decides_under (row_miss x) (a, b) =
      same_decides (may_miss_under (row_miss x) (history_of m p)) (row_miss x) (any_hit 1 x) p (row_miss_kept x) (decides_any 1 x a b)

  pub may_miss_kept : (s : LimitSet) → SetAllowed (suc m) s → KeptBy s p → T (may_miss s (history_of m p)) ↔ KeptBy s (p ++ false ∷ [])
  unfolding may_miss
  may_miss_kept s ok k = (
    λ t i h. (decides_under (rule_at s i) (ok.each i h).rule_allowed (k i h)).0 (every_at s.count (λ i. may_miss_under (rule_at s i) (history_of m p)) t i h),
    λ n. every_from s.count (λ i. may_miss_under (rule_at s i) (history_of m p)) (λ i h. (decides_under (rule_at s i) (ok.each i h).rule_allowed (k i h)).1 (n i h)),
  )
