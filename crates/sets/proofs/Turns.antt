-- What a turn of each loop does to the definition that the loop computes: of a list from limit i on, its first limit comes off, or one more is put on. Assumes nothing.
use mathlib.Core.Path.{◌≡◌, refl, sym, ap, ap₂, ◌∙◌}
use mathlib.Core.Bool.{Bool, cond, ◌&&◌, and_comm}
use mathlib.Core.List.{List, [], ◌∷◌, ◌++◌, append_assoc, append-nil}
use Prim.Native.Nat.{ℕ, zero, suc, ◌+◌, ◌-◌, ◌*◌, ◌≤◌, ◌<◌}
use native.Mathlib.Numerals.{add-one}
use native.Mathlib.Omega.{arith}
use borrow.Author.Tests.{le-ltb, lt-ltb, eq-eqb, ne_eqb}
use lib.ListN.{length, replicate, set, take, drop, length-append, take-append-drop}
use lib.Seq.{set_at, length-take-le}
use Rattle.layout.specs.Refusal.{Row, passed, refused, first}
use Rattle.layout.proofs.Rows.{refused_before, passed_before}
use Rattle.layout.proofs.Runs.{one_more, put_next}
use Rattle.meaning.specs.declared.LimitSet.{LimitSet}
use Rattle.meaning.specs.Sets.{zero_limit, limit_at, rule_at}
use Rattle.meaning.specs.Test.{every, idle}
use Rattle.meaning.proofs.Nothing.{nothing_tested}
use Rattle.sets.specs.Bytes.{limit_in, limits_in, set_with, bytes_of_limit, limit_bytes}
use Rattle.sets.specs.Rows.{limit_rows, limits_rows, nothing_row, test_rows}

-- a test in code is the test in a row
pub ruleset tests = (lt-ltb, le-ltb, eq-eqb, ne_eqb)

module _ (w : ℕ) (s : LimitSet) (i c : ℕ) where
  abbrev later : List Row
  later = limits_rows w s (i + 1) (c - (i + 1))

  limits_turn : i < c → limits_rows w s i (c - i) ≡ limit_rows w (limit_at s i) i ++ later
  unfolding limits_rows
  limits_turn h = let g : c - i ≡ suc (c - (i + 1)) = omega arith in rw (g, add-one i)

  pub limits_refused : {n v : ℕ} → i < c → first (limit_rows w (limit_at s i) i) ≡ refused n v → first (limits_rows w s i (c - i)) ≡ refused n v
  limits_refused h e = ap first (limits_turn h) ∙ refused_before _ later e

  pub limits_passed : i < c → first (limit_rows w (limit_at s i) i) ≡ passed → first (limits_rows w s i (c - i)) ≡ first later
  limits_passed h e = ap first (limits_turn h) ∙ passed_before _ later e

  limits_end : c ≤ i → first (limits_rows w s i (c - i)) ≡ passed
  unfolding limits_rows first
  limits_end h = let g : c - i ≡ zero = omega arith in rw g

-- whether the first i limits can't be broken
module _ (s : LimitSet) where
  abbrev pub idle_to : ℕ → Bool
  idle_to i = every i (λ j. idle (rule_at s j))

  pub idle_turn : (i : ℕ) (before this : Bool) → before ≡ idle_to i → this ≡ idle (rule_at s i) → (before && this) ≡ idle_to (i + 1)
  idle_turn i before this e f = and_comm before this ∙ ap₂ ◌&&◌ f e ∙ ap idle_to (sym (add-one i))

  -- past the last limit: where the rows of all limits are passed, 21 decides
  pub tests_end : (w i : ℕ) (all : Bool) → i ≡ s.count → first (limits_rows w s 0 s.count) ≡ first (limits_rows w s i (s.count - i)) → all ≡ idle_to i → first (test_rows w s) ≡ cond all (refused 21 0) passed
  unfolding first
  tests_end w i all e r f =
      passed_before (limits_rows w s 0 s.count) (nothing_row s ∷ []) (r ∙ limits_end w s i s.count (omega arith))
      ∙ ap (λ b. cond b (refused 21 0) passed) (nothing_tested s ∙ sym (f ∙ ap idle_to e))

limits_one_more : (b : List ℕ) (i : ℕ) → limits_in b 0 i ++ limit_in b i ∷ [] ≡ limits_in b 0 (i + 1)
unfolding limits_in
limits_one_more b = one_more (λ j. limit_in b j ∷ []) (limits_in b) (λ i. refl) (λ i n. refl)

bytes_one_more : (s : LimitSet) (i : ℕ) → limit_bytes s 0 i ++ bytes_of_limit (limit_at s i) ≡ limit_bytes s 0 (i + 1)
unfolding limit_bytes
bytes_one_more s = one_more (λ j. bytes_of_limit (limit_at s j)) (limit_bytes s) (λ i. refl) (λ i n. refl)

pub length_in : (b : List ℕ) (i n : ℕ) → length (limits_in b i n) ≡ n
unfolding limits_in
length_in b i zero = refl
length_in b i (suc n) = ap suc (length_in b (suc i) n)

pub set_turn : (b : List ℕ) (i : ℕ) → i < 8 → set (set_with b i).limits i (limit_in b i) ≡ (set_with b (i + 1)).limits
set_turn b i h =
    let g : 8 - i ≡ suc (8 - (i + 1)) = omega arith in
    let rest = replicate (8 - (i + 1)) zero_limit in
    ap (λ n. set (limits_in b 0 i ++ replicate n zero_limit) i (limit_in b i)) g
    ∙ set_at (limits_in b 0 i) zero_limit rest (limit_in b i) i (length_in b 0 i)
    ∙ sym (append_assoc (limits_in b 0 i) (limit_in b i ∷ []) rest)
    ∙ ap (λ l. l ++ rest) (limits_one_more b i)

pub length_bytes : (s : LimitSet) (i n : ℕ) → length (limit_bytes s i n) ≡ 3 * n
unfolding limit_bytes
length_bytes s i zero = refl
length_bytes s i (suc n) = let h = length_bytes s (suc i) n in omega arith

abbrev pub written_to : LimitSet → List ℕ → ℕ → List ℕ
written_to s d i = take 6 d ++ limit_bytes s 0 i ++ drop (6 + 3 * i) d

pub write_none : (s : LimitSet) (d : List ℕ) → d ≡ written_to s d 0
unfolding limit_bytes
write_none s d = sym (ap (λ l. l ++ drop 6 d) (append-nil (take 6 d)) ∙ take-append-drop 6 d)

pub write_turn : (s : LimitSet) (d out out' : List ℕ) (i : ℕ) → 6 ≤ length d → out ≡ written_to s d i
    → out' ≡ take (6 + 3 * i) out ++ bytes_of_limit (limit_at s i) ++ drop (6 + 3 * i + 3) out → out' ≡ written_to s d (i + 1)
write_turn s d out out' i h e f =
    let p = take 6 d ++ limit_bytes s 0 i in
    let v = bytes_of_limit (limit_at s i) in
    let n : length p ≡ 6 + 3 * i = length-append (take 6 d) (limit_bytes s 0 i) ∙ ap₂ ◌+◌ (length-take-le 6 d h) (length_bytes s 0 i) in
    let g : 6 + 3 * i + 3 ≡ 6 + 3 * (i + 1) = omega arith in
    f ∙ ap (λ o. take (6 + 3 * i) o ++ v ++ drop (6 + 3 * i + 3) o) e
    ∙ put_next d p v (6 + 3 * i) 3 n
    ∙ ap₂ (λ l k. l ++ drop k d) (append_assoc (take 6 d) (limit_bytes s 0 i) v ∙ ap (λ l. take 6 d ++ l) (bytes_one_more s i)) g
