-- What allowed numbers say of windows: that of a limit has at least one job and no more than the longest, and a set stays allowed where the longest is cut down to its own widest, or raised. Assumes nothing.
use mathlib.Core.Path.{◌≡◌, subst}
use Prim.Native.Nat.{ℕ, zero, suc, ◌≤◌, ◌<◌}
use native.Mathlib.Omega.{arith}
use Rattle.meaning.specs.declared.Limit.{Limit}
use Rattle.meaning.specs.declared.LimitSet.{LimitSet}
use Rattle.meaning.specs.Limit.{Rule, any_hit, row_hit, any_miss, row_miss, Allowed, RuleAllowed, rule_from, rule_of, width}
use Rattle.meaning.specs.Sets.{SetAllowed, limit_at, rule_at}

-- the numbers of an allowed limit and its window: of the first three kinds, and of the fourth
pub allowed_numbers : (w : ℕ) (l : Limit) → Allowed w l → l.kind ≤ 2 → (1 ≤ l.k) × (l.k ≤ w) × (l.x ≤ l.k)
allowed_numbers w l a = go l.kind a.rule_allowed
  where
    go : (kind : ℕ) → RuleAllowed w (rule_from kind l.x l.k) → kind ≤ 2 → (1 ≤ l.k) × (l.k ≤ w) × (l.x ≤ l.k)
    go zero a h = a
    go (suc zero) a h = a
    go (suc (suc zero)) a h = a
    go (suc (suc (suc kind))) a h = absurd (omega arith)

pub allowed_row_miss : (w : ℕ) (l : Limit) → Allowed w l → l.kind ≡ 3 → (1 ≤ l.x) × (l.x ≤ w)
allowed_row_miss w l a e = subst (λ kind. RuleAllowed w (rule_from kind l.x l.k)) e a.rule_allowed

pub width_allowed : (w : ℕ) (l : Rule) → RuleAllowed w l → (1 ≤ width l) × (width l ≤ w)
width_allowed w (any_hit x k) (a, b, c) = (a, b)
width_allowed w (row_hit x k) (a, b, c) = (a, b)
width_allowed w (any_miss x k) (a, b, c) = (a, b)
width_allowed w (row_miss x) a = a

narrower : (w v : ℕ) (l : Rule) → RuleAllowed w l → width l ≤ v → RuleAllowed v l
narrower w v (any_hit x k) (a, b, c) h = (a, h, c)
narrower w v (row_hit x k) (a, b, c) h = (a, h, c)
narrower w v (any_miss x k) (a, b, c) h = (a, h, c)
narrower w v (row_miss x) (a, b) h = (a, h)

-- every limit's window is no wider than v
pub set_narrower : (w v : ℕ) (s : LimitSet) → SetAllowed w s → ((i : ℕ) → i < s.count → width (rule_of (limit_at s i)) ≤ v) → SetAllowed v s
set_narrower w v s a h = record {
  some_limit = a.some_limit;
  eight_places = a.eight_places;
  each = λ i l. record {
    kind_known = (a.each i l).kind_known;
    rule_allowed = narrower w v (rule_of (limit_at s i)) (a.each i l).rule_allowed (h i l);
    k_unused = (a.each i l).k_unused;
  };
}

-- a longest window that a set is allowed under has a job at least, and a longer one allows the set too
pub some_window : (w : ℕ) (s : LimitSet) → SetAllowed w s → 1 ≤ w
some_window w s a = omega (arith, width_allowed w (rule_at s 0) (a.each 0 a.some_limit).rule_allowed)

pub set_wider : (w v : ℕ) (s : LimitSet) → w ≤ v → SetAllowed w s → SetAllowed v s
set_wider w v s h a = set_narrower w v s a (λ i l. omega (arith, width_allowed w (rule_at s i) (a.each i l).rule_allowed))
