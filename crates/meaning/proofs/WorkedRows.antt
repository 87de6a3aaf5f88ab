-- The rows of RULES, Patterns to try that are marked proved and speak of patterns, as one list under one claim. Each row is decided by a test that is shown to agree with the definitions, and the checker computes the tests. Assumes nothing.
use mathlib.Core.Logic.{dite, ⊎_elim}
use mathlib.Core.Bool.{Bool, true, false, not, ◌&&◌, ◌||◌}
use mathlib.Core.List.{List, [], ◌∷◌, ◌++◌}
use Prim.Native.Nat.{ℕ, zero, suc}
use native.Mathlib.Decide.{dec_lt}
use native.Mathlib.Omega.{arith}
use lib.Dec.{T, T_not, leb, ltb, leb→le, ltb→lt}
use lib.ListN.{length, take, replicate}
use lib.IntN.{ℤ, pos, negsuc, nat_abs, ◌+ℤ◌, ◌-ℤ◌}
use lib.Signed.{lt_z}
use Rattle.patterns.specs.Number.{code}
use Rattle.patterns.specs.Order.{NoLater, shorter}
use Rattle.patterns.proofs.Codes.{no_later_code}
use Rattle.meaning.specs.declared.LimitSet.{LimitSet}
use Rattle.meaning.specs.Limit.{Rule, width}
use Rattle.meaning.specs.Sets.{zero_limit, rule_at, KeptBy, LostAt, Panic}
use Rattle.meaning.specs.Broken.{job_at, BrokenFrom, LostFrom}
use Rattle.meaning.specs.Covers.{Between, FirstBetween}
use Rattle.meaning.specs.Test.{every, holds_test, window_test, kept_test, kept_by_test}
use Rattle.meaning.proofs.Decide.{and_T, or_case, every_at, holds_iff, kept_iff}
use Rattle.meaning.proofs.Search.{kept_by_iff}
use Rattle.meaning.proofs.Places.{same_place}
use Rattle.meaning.proofs.Earliest.{earliest_tested}

pub data Row : Type 0 where
  kept : LimitSet → List Bool → Row
  lost : LimitSet → List Bool → (job limit : ℕ) → (first : ℤ) → Row
  panic : LimitSet → List Bool → Row
  between : LimitSet → LimitSet → List Bool → Row

abbrev pub Holds : Row → Type 0
Holds (kept s p) = KeptBy s p
Holds (lost s p job limit first) = LostFrom s p job limit first
Holds (panic s p) = Panic s p
Holds (between a b p) = FirstBetween a b p

-- f is true of every pattern of n outcomes
abbrev every_pattern : ℕ → (List Bool → Bool) → Bool
every_pattern zero f = f []
every_pattern (suc n) f = every_pattern n (λ q. f (false ∷ q)) && every_pattern n (λ q. f (true ∷ q))

abbrev lost_test : LimitSet → List Bool → ℕ → ℕ → Bool
lost_test s p j i =
    every j (λ n. kept_by_test s (take n p))
    && (ltb i s.count && (not (kept_test (rule_at s i) (take j p)) && every i (λ n. kept_test (rule_at s n) (take j p))))

-- of the windows that the test of kept looks at, counted from one width before the pattern, the one from job first on fails and none before it
abbrev from_test : Rule → List Bool → ℤ → Bool
from_test l p first =
    let j = nat_abs (first +ℤ pos (width l) -ℤ pos 1) in
    let said = job_at (pos j -ℤ pos (width l)) in
    (not (lt_z first said) && not (lt_z said first)) && (holds_test l (replicate (width l) true) && (not (window_test l p j) && every j (window_test l p)))

abbrev between_test : LimitSet → LimitSet → List Bool → Bool
between_test a b p = kept_by_test a p && not (kept_by_test b p)

-- no pattern between the sets comes before p
abbrev first_test : LimitSet → LimitSet → List Bool → Bool
first_test a b p = every (suc (length p)) (λ n. every_pattern n (λ q. not (between_test a b q) || leb (code p) (code q)))

abbrev test : Row → Bool
test (kept s p) = kept_by_test s p
test (lost s p job limit first) = lost_test s p job limit && from_test (rule_at s limit) (take job p) first
test (panic s p) = kept_by_test s p && not (kept_by_test s (p ++ false ∷ []))
test (between a b p) = between_test a b p && first_test a b p

every_pattern_lem : (q : List Bool) (f : List Bool → Bool) → T (every_pattern (length q) f) → T (f q)
every_pattern_lem [] f t = t
every_pattern_lem (false ∷ q) f t = every_pattern_lem q (λ r. f (false ∷ r)) ((and_T (every_pattern (length q) (λ r. f (false ∷ r))) _).0 t).0
every_pattern_lem (true ∷ q) f t = every_pattern_lem q (λ r. f (true ∷ r)) ((and_T (every_pattern (length q) (λ r. f (false ∷ r))) _).0 t).1

not_kept : (s : LimitSet) (p : List Bool) → T (not (kept_by_test s p)) → KeptBy s p → ⊥
not_kept s p t k = T_not (kept_by_test s p) t ((kept_by_iff s p).1 k)

lost_holds : (s : LimitSet) (p : List Bool) (j i : ℕ) → T (lost_test s p j i) → LostAt s p j i
lost_holds s p j i t =
    let (short, t₂) = (and_T (every j (λ n. kept_by_test s (take n p))) _).0 t in
    let (low, t₃) = (and_T (ltb i s.count) _).0 t₂ in
    let (bad, before) = (and_T (not (kept_test (rule_at s i) (take j p))) _).0 t₃ in
    let l = ltb→lt i s.count low in
    record {
      lost = λ k. T_not (kept_test (rule_at s i) (take j p)) bad ((kept_iff (rule_at s i) (take j p)).1 (k i l));
      shortest = λ n h. (kept_by_iff s (take n p)).0 (every_at j (λ n. kept_by_test s (take n p)) short n h);
      breaks = λ k. T_not (kept_test (rule_at s i) (take j p)) bad ((kept_iff (rule_at s i) (take j p)).1 k);
      lowest = λ n h. (kept_iff (rule_at s n) (take j p)).0 (every_at i (λ n. kept_test (rule_at s n) (take j p)) before n h);
    }

from_holds : (l : Rule) (p : List Bool) (first : ℤ) → T (from_test l p first) → BrokenFrom l p first
from_holds l p first t =
    let k = width l in
    let j = nat_abs (first +ℤ pos k -ℤ pos 1) in
    let said = job_at (pos j -ℤ pos k) in
    let (same, t₂) = (and_T (not (lt_z first said) && not (lt_z said first)) _).0 t in
    let (after, before) = (and_T (not (lt_z first said)) _).0 same in
    let (hits, t₃) = (and_T (holds_test l (replicate k true)) _).0 t₂ in
    let (fails, none) = (and_T (not (window_test l p j)) _).0 t₃ in (
      pos j -ℤ pos k,
      earliest_tested l p ((holds_iff l (replicate k true)).0 hits) j (T_not (window_test l p j) fails) (every_at j (window_test l p) none),
      same_place first said (λ h. T_not (lt_z first said) after h.lt) (λ h. T_not (lt_z said first) before h.lt),
    )

module _ (a b : LimitSet) (p : List Bool) (t : T (first_test a b p)) where
  none_earlier : (q : List Bool) → Between a b q → NoLater p q
  none_earlier q (ka, nb) =
      dite (dec_lt (length p) (length q)) shorter (λ h.
      let e = every_at (suc (length p)) (λ n. every_pattern n (λ q. not (between_test a b q) || leb (code p) (code q))) t (length q) (omega arith) in
      let f = every_pattern_lem q (λ q. not (between_test a b q) || leb (code p) (code q)) e in
      let w : T (between_test a b q) = (and_T (kept_by_test a q) _).1 ((kept_by_iff a q).1 ka, refused (kept_by_test b q) (λ k. nb ((kept_by_iff b q).0 k))) in
      ⊎_elim (λ n. absurd (T_not (between_test a b q) n w)) (λ c. (no_later_code p q).1 (leb→le (code p) (code q) c))
      (or_case (not (between_test a b q)) (leb (code p) (code q)) f))
    where
      refused : (x : Bool) → (T x → ⊥) → T (not x)
      refused true f = absurd (f tt)
      refused false f = tt

holds : (r : Row) → T (test r) → Holds r
holds (kept s p) t = (kept_by_iff s p).0 t
holds (lost s p j i f) t =
    let (at, from) = (and_T (lost_test s p j i) _).0 t in
    (lost_holds s p j i at, from_holds (rule_at s i) (take j p) f from)
holds (panic s p) t =
    let (k, n) = (and_T (kept_by_test s p) _).0 t in
    record { kept = (kept_by_iff s p).0 k; miss_loses = not_kept s (p ++ false ∷ []) n }
holds (between a b p) t =
    let (w, f) = (and_T (between_test a b p) _).0 t in
    let (k, n) = (and_T (kept_by_test a p) _).0 w in
    record { between = ((kept_by_iff a p).0 k, not_kept b p n); none_earlier = none_earlier a b p f }

abbrev All : List Row → Type 0
All [] = Unit {0}
All (r ∷ rows) = Holds r × All rows

abbrev tests : List Row → Bool
tests [] = true
tests (r ∷ rows) = test r && tests rows

all_hold : (rows : List Row) → T (tests rows) → All rows
all_hold [] t = tt
all_hold (r ∷ rows) t = let (h, hs) = (and_T (test r) (tests rows)).0 t in (holds r h, all_hold rows hs)

-- a set of one limit
abbrev pub alone : (kind x k : ℕ) → LimitSet
alone kind x k = record { count = 1; limits = record { kind = kind; x = x; k = k } ∷ replicate 7 zero_limit }

abbrev pub any_hit : ℕ → ℕ → LimitSet
any_hit x k = alone 0 x k

abbrev pub row_hit : ℕ → ℕ → LimitSet
row_hit x k = alone 1 x k

abbrev pub any_miss : ℕ → ℕ → LimitSet
any_miss x k = alone 2 x k

abbrev row_miss : ℕ → LimitSet
row_miss x = alone 3 x 0

abbrev o : Bool
o = false

abbrev i : Bool
i = true

abbrev mixed : List Bool
mixed = i ∷ i ∷ o ∷ o ∷ i ∷ i ∷ o ∷ i ∷ []

abbrev spread : List Bool
spread = i ∷ o ∷ i ∷ o ∷ i ∷ o ∷ i ∷ o ∷ o ∷ i ∷ []

abbrev seven_then_three : List Bool
seven_then_three = i ∷ i ∷ i ∷ i ∷ i ∷ i ∷ i ∷ o ∷ o ∷ o ∷ []

abbrev pub rows : List Row
rows =
    kept (any_hit 2 4) mixed
    ∷ lost (any_hit 1 2) mixed 4 0 (pos 3)
    ∷ kept (any_hit 3 10) (spread ++ o ∷ o ∷ o ∷ o ∷ [])
    ∷ lost (any_hit 3 10) (spread ++ o ∷ o ∷ o ∷ o ∷ o ∷ []) 15 0 (pos 6)
    ∷ kept (row_hit 4 10) seven_then_three
    ∷ panic (row_hit 4 10) seven_then_three
    ∷ between (any_miss 2 5) (any_miss 3 7) (o ∷ o ∷ i ∷ i ∷ i ∷ o ∷ o ∷ [])
    ∷ between (any_miss 3 7) (any_miss 2 5) (o ∷ o ∷ o ∷ [])
    ∷ kept (row_miss 2) (o ∷ [])
    ∷ panic (row_miss 2) (o ∷ [])
    ∷ lost (row_miss 2) (o ∷ o ∷ []) 2 0 (pos 1)
    ∷ lost (row_hit 2 5) (o ∷ o ∷ o ∷ []) 3 0 (pos 0)
    ∷ lost (any_miss 2 5) (o ∷ o ∷ o ∷ i ∷ i ∷ i ∷ i ∷ []) 3 0 (negsuc 0)
    ∷ lost (any_hit 12 12) (o ∷ []) 1 0 (negsuc 9)
    ∷ lost (any_hit 16 16) (o ∷ []) 1 0 (negsuc 13)
    ∷ []

pub rows_hold : All rows
rows_hold = all_hold rows tt
