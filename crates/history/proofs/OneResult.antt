-- `Blocks` allows one result, and so `BlockedBy`: of two, the lower names a limit that would both block a miss and let it pass. So does `Reaches`: of two, the greater names a window that would both be broken and hold. Assumes nothing.
use mathlib.Core.Path.{◌≡◌, refl, sym, ap, ◌∙◌}
use mathlib.Core.Logic.{dite}
use mathlib.Core.Bool.{false≢true}
use Prim.Native.Nat.{ℕ, ◌≤◌}
use native.Mathlib.Decide.{dec_lt}
use native.Mathlib.Omega.{arith}
use Rattle.std.specs.Prelude.{Option, Some, None}
use Rattle.meaning.specs.declared.LimitSet.{LimitSet}
use Rattle.meaning.specs.Limit.{Rule}
use Rattle.history.specs.MayMiss.{Blocks, BlockedBy}
use Rattle.history.specs.Reaches.{Reaches}

module _ (s : LimitSet) (h : ℕ) where
  blocks_le : (i j : ℕ) → Blocks s h i → Blocks s h j → j ≤ i
  blocks_le i j b c =
      dite (dec_lt i j) (λ l. absurd (false≢true (sym (b.here (omega (arith, c.within))) ∙ c.before i l))) (λ l. omega arith)

  pub blocks_one_result : (i j : ℕ) → Blocks s h i → Blocks s h j → i ≡ j
  blocks_one_result i j b c = omega (arith, blocks_le i j b c, blocks_le j i c b)

  pub blocked_one_result : (r q : Option ℕ) → BlockedBy s h r → BlockedBy s h q → r ≡ q
  blocked_one_result (Some i) (Some j) b c = ap Some (blocks_one_result i j b.0 c.0)
  blocked_one_result (Some i) None b c = absurd (omega (arith, blocks_le i s.count b.0 c, b.1))
  blocked_one_result None (Some j) b c = absurd (omega (arith, blocks_le j s.count c.0 b, c.1))
  blocked_one_result None None b c = refl

module _ (l : Rule) (h : ℕ) where
  reaches_le : (a b : ℕ) → Reaches l h a → Reaches l h b → b ≤ a
  reaches_le a b r s = dite (dec_lt a b) (λ m. absurd (s.broken (r.farthest b (omega arith) s.within))) (λ m. omega arith)

  pub reaches_one_result : (a b : ℕ) → Reaches l h a → Reaches l h b → a ≡ b
  reaches_one_result a b r s = omega (arith, reaches_le a b r s, reaches_le b a s r)
