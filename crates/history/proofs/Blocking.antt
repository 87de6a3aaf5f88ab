-- The lowest limit that blocks a miss: none blocks exactly when a miss may follow. Assumes nothing.
use mathlib.Core.Path.{◌≡◌, refl, sym, ◌∙◌}
use mathlib.Core.Bool.{Bool, true, false, not, false≢true}
use Prim.Native.Nat.{ℕ, ◌<◌}
use native.Mathlib.Omega.{arith}
use Rattle.std.specs.Prelude.{Option, Some, None}
use Rattle.std.specs.Option.{is_some}
use Rattle.meaning.specs.declared.LimitSet.{LimitSet}
use Rattle.meaning.specs.Sets.{rule_at}
use Rattle.meaning.proofs.Decide.{T_true, T_of, every_at, every_from, not_T_false}
use Rattle.history.specs.MayMiss.{may_miss_under, may_miss, Blocks, BlockedBy}

module _ (s : LimitSet) (h : ℕ) where
  pub none_blocks : (i : ℕ) → Blocks s h i → i ≡ s.count → may_miss s h ≡ true
  unfolding may_miss
  none_blocks i b e = T_true _ (every_from s.count (λ j. may_miss_under (rule_at s j) h) (λ j l. T_of _ (b.before j (omega arith))))

  pub one_blocks : (i : ℕ) → Blocks s h i → i < s.count → may_miss s h ≡ false
  unfolding may_miss
  one_blocks i b l = not_T_false _ (λ t. false≢true (sym (b.here l) ∙ T_true _ (every_at s.count (λ j. may_miss_under (rule_at s j) h) t i l)))

  pub none_blocked : (r : Option ℕ) (none : Bool) → BlockedBy s h r → is_some r ≡ not none → none ≡ may_miss s h
  none_blocked (Some i) true b e = absurd (false≢true (sym e))
  none_blocked (Some i) false b e = sym (one_blocks i b.0 b.1)
  none_blocked None true b e = sym (none_blocks s.count b refl)
  none_blocked None false b e = absurd (false≢true e)
