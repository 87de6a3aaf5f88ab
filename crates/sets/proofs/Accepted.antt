-- What bytes, a set and a limit hold where all their rows are passed, and that the rows are passed where they hold it: each row is read as the test on numbers that it is. Assumes nothing.
use mathlib.Core.Path.{◌≡◌, refl, sym, ap₂, ◌∙◌, subst}
use mathlib.Core.Logic.{dite, if_pos, if_neg}
use mathlib.Core.Bool.{true, false, ◌||◌, true≢false}
use mathlib.Core.List.{List, [], ◌∷◌}
use Prim.Native.Nat.{ℕ, zero, suc, ◌+◌, ◌-◌, ◌*◌, ◌≤◌, ◌<◌}
use native.Mathlib.Decide.{ℕ_discrete}
use native.Mathlib.Omega.{arith}
use borrow.Author.Tests.{ltb-false, eqb-true, eqb-false, not-false, le-ltb, eq-eqb, ne_eqb}
use lib.Dec.{eqb, ltb}
use lib.ListN.{length}
use Rattle.layout.specs.Bytes.{length_field, version}
use Rattle.layout.specs.Refusal.{passed, first}
use Rattle.layout.specs.Head.{head_rows as opening_rows}
use Rattle.layout.proofs.Head.{head_passed as head_says}
use Rattle.layout.proofs.Rows.{and_then, first_skip, passed_first, first_append, both_passed, passed_before, or_none}
use Rattle.meaning.specs.declared.Limit.{Limit}
use Rattle.meaning.specs.declared.LimitSet.{LimitSet}
use Rattle.meaning.specs.Limit.{Allowed}
use Rattle.meaning.specs.Sets.{limit_at, SetAllowed, LimitsNothing}
use Rattle.meaning.proofs.Nothing.{nothing_dec}
use Rattle.sets.specs.Bytes.{count_of, set_of}
use Rattle.sets.specs.Rows.{k_outside, x_outside, limit_rows, limits_rows, limits_nothing, nothing_row, test_rows, head_rows, set_rows, memory_rows}

-- from 1 to w: a count, the k of kinds 0, 1 and 2, the x of kind 3
pub within : (w n : ℕ) → (eqb n 0 || ltb w n) ≡ false → (1 ≤ n) × (n ≤ w)
within w n e =
    let (a, b) = or_none (eqb n 0) (ltb w n) e in
    let z : n ≡ 0 → ⊥ = eqb-false n 0 a in
    (omega arith, ltb-false w n b)

-- kinds 0, 1 and 2
k_and_x : (w x k : ℕ) → (eqb k 0 || ltb w k) ≡ false → ltb k x ≡ false → (1 ≤ k) × (k ≤ w) × (x ≤ k)
k_and_x w x k e f = let (a, b) = within w k e in (a, b, ltb-false k x f)

abbrev limit : (kind x k : ℕ) → Limit
limit kind x k = record { kind = kind; x = x; k = k }

numbers_allowed : (w kind x k : ℕ) → kind ≤ 3 → k_outside w (limit kind x k) ≡ false → x_outside w (limit kind x k) ≡ false → Allowed w (limit kind x k)
numbers_allowed w zero x k h e f = record { kind_known = h; rule_allowed = k_and_x w x k e f; k_unused = λ q. absurd (omega arith) }
numbers_allowed w (suc zero) x k h e f = record { kind_known = h; rule_allowed = k_and_x w x k e f; k_unused = λ q. absurd (omega arith) }
numbers_allowed w (suc (suc zero)) x k h e f = record { kind_known = h; rule_allowed = k_and_x w x k e f; k_unused = λ q. absurd (omega arith) }
numbers_allowed w (suc (suc (suc zero))) x k h e f = record { kind_known = h; rule_allowed = within w x f; k_unused = λ q. eqb-true k 0 (not-false (eqb k 0) e) }
numbers_allowed w (suc (suc (suc (suc kind)))) x k h e f = absurd (omega arith)

limit_allowed : (w : ℕ) (l : Limit) (i : ℕ) → first (limit_rows w l i) ≡ passed → Allowed w l
limit_allowed w l i e =
    let (a, e₁) = passed_first _ _ e in
    let (b, e₂) = passed_first _ _ e₁ in
    let (d, e₃) = passed_first _ _ e₂ in
    numbers_allowed w l.kind l.x l.k (ltb-false 3 l.kind a) b d

some_eqb : (n : ℕ) → 1 ≤ n → eqb n 0 ≡ false
some_eqb n h = ne_eqb n 0 (λ e. omega arith)

ruleset tests = (le-ltb, eq-eqb, some_eqb)

allowed_limit : (w : ℕ) (l : Limit) (i : ℕ) → Allowed w l → first (limit_rows w l i) ≡ passed
unfolding first
allowed_limit w l i a = go l.kind a
  where
    go : (kind : ℕ) → Allowed w (limit kind l.x l.k) → first (limit_rows w (limit kind l.x l.k) i) ≡ passed
    go zero a = search tests
    go (suc zero) a = search tests
    go (suc (suc zero)) a = search tests
    go (suc (suc (suc zero))) a = let z : l.k ≡ 0 = a.k_unused refl in search tests
    go (suc (suc (suc (suc kind)))) a = absurd (omega arith)

module _ (w : ℕ) (s : LimitSet) where
  limits_each : (i n : ℕ) → first (limits_rows w s i n) ≡ passed → (j : ℕ) → i ≤ j → j < i + n → Allowed w (limit_at s j)
  unfolding limits_rows
  limits_each i zero e j l h = absurd (omega arith)
  limits_each i (suc n) e j l h =
      let (a, b) = both_passed (limit_rows w (limit_at s i) i) (limits_rows w s (suc i) n) e in
      dite (ℕ_discrete i j) (λ q. subst (λ z. Allowed w (limit_at s z)) q (limit_allowed w (limit_at s i) i a))
      (λ q. limits_each (suc i) n b j (omega arith) (omega arith))

  each_limits : (i n : ℕ) → ((j : ℕ) → i ≤ j → j < i + n → Allowed w (limit_at s j)) → first (limits_rows w s i n) ≡ passed
  unfolding limits_rows first
  each_limits i zero a = refl
  each_limits i (suc n) a =
      first_append (limit_rows w (limit_at s i) i) (limits_rows w s (suc i) n)
      ∙ ap₂ and_then (allowed_limit w (limit_at s i) i (a i (omega arith) (omega arith))) (each_limits (suc i) n (λ j l h. a j (omega arith) (omega arith)))

module _ (w : ℕ) (s : LimitSet) where
  passed_both : first (test_rows w s) ≡ passed → (first (limits_rows w s 0 s.count) ≡ passed) × (first (nothing_row s ∷ []) ≡ passed)
  passed_both = both_passed (limits_rows w s 0 s.count) (nothing_row s ∷ [])

  allowed_of : (1 ≤ s.count) × (s.count ≤ 8) → first (test_rows w s) ≡ passed → SetAllowed w s
  allowed_of (a, b) e = record { some_limit = a; eight_places = b; each = λ i h. limits_each w s 0 s.count (passed_both e).0 i (omega arith) (omega arith) }

  something_of : first (test_rows w s) ≡ passed → (LimitsNothing s → ⊥)
  something_of e n = true≢false (sym (if_pos (nothing_dec s) n true false) ∙ (passed_first (nothing_row s) [] (passed_both e).1).0)

  passed_tests : SetAllowed w s → (LimitsNothing s → ⊥) → first (test_rows w s) ≡ passed
  unfolding first
  passed_tests a f =
      passed_before (limits_rows w s 0 s.count) (nothing_row s ∷ []) (each_limits w s 0 s.count (λ j l h. a.each j (omega arith)))
      ∙ first_skip 21 0 (limits_nothing s) [] (if_neg (nothing_dec s) f true false)

  pub memory_allowed : first (memory_rows w s) ≡ passed → SetAllowed w s
  memory_allowed e = let (a, b) = passed_first _ _ e in allowed_of (within 8 s.count a) b

  pub memory_something : first (memory_rows w s) ≡ passed → LimitsNothing s → ⊥
  memory_something e = something_of (passed_first _ _ e).1

-- what the head of accepted bytes says
pub record Head (b : List ℕ) : Type 0 where
  pub whole : length b ≡ 6 + 3 * count_of b
  pub rest : length_field b ≡ 2 + 3 * count_of b
  pub one : version b ≡ 1
  pub some : 1 ≤ count_of b
  pub eight : count_of b ≤ 8

pub passed_head : (b : List ℕ) → first (head_rows b) ≡ passed → Head b
passed_head b e =
    let (p, q) = both_passed (opening_rows 6 1 1 2 b) _ e in
    let (n, m, v) = head_says 6 1 1 2 b p in
    let (a₃, e₃) = passed_first _ _ q in
    let (a₄, e₄) = passed_first _ _ e₃ in
    let r = eqb-true (length_field b) (2 + 3 * count_of b) (not-false _ a₄) in
    let (s, t) = within 8 (count_of b) a₃ in
    record { whole = omega arith; rest = r; one = v; some = s; eight = t }

head_passed : (b : List ℕ) → Head b → first (head_rows b) ≡ passed
unfolding first
head_passed b h =
    let n : 6 ≤ length b = omega arith in
    let m : length_field b ≡ length b - 4 = omega arith in
    search tests

module _ (w : ℕ) (b : List ℕ) (e : first (set_rows w b) ≡ passed) where
  both : (first (head_rows b) ≡ passed) × (first (test_rows w (set_of b)) ≡ passed)
  both = both_passed (head_rows b) (test_rows w (set_of b)) e

  pub accepted_head : Head b
  accepted_head = passed_head b both.0

  pub accepted_allowed : SetAllowed w (set_of b)
  accepted_allowed = allowed_of w (set_of b) (accepted_head.some, accepted_head.eight) both.1

  pub accepted_something : LimitsNothing (set_of b) → ⊥
  accepted_something = something_of w (set_of b) both.1

pub passed_rows : (w : ℕ) (b : List ℕ) → Head b → SetAllowed w (set_of b) → (LimitsNothing (set_of b) → ⊥) → first (set_rows w b) ≡ passed
passed_rows w b h a f = passed_before (head_rows b) (test_rows w (set_of b)) (head_passed b h) ∙ passed_tests w (set_of b) a f
