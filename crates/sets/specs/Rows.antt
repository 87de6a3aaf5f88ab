-- RULES, Refusals: 1 to 7 and 21, as rows in the order tested.
use Rattle.std.proofs.Math.Logic.{ite}
use Rattle.std.specs.Prelude.{Bool, true, false, not, cond, ◌||◌, List, [], ◌∷◌, ◌++◌, ℕ, zero, suc, ◌+◌, ◌*◌, eqb, ltb}
use Rattle.layout.specs.Bytes.{length_field}
use Rattle.layout.specs.Refusal.{Row, row}
use Rattle.layout.specs.Head.{head_rows as opening_rows}
use Rattle.meaning.specs.declared.Limit.{Limit}
use Rattle.meaning.specs.declared.LimitSet.{LimitSet}
use Rattle.meaning.specs.Sets.{limit_at, LimitsNothing}
use Rattle.meaning.proofs.Nothing.{nothing_dec}
use Rattle.sets.specs.Bytes.{count_of, set_of}

-- "the k of a limit isn't 1 to 12; for kind 3, isn't 0", with the widest window for 12
abbrev pub k_outside : (widest : ℕ) → Limit → Bool
k_outside widest l = cond (eqb l.kind 3) (not (eqb l.k 0)) (eqb l.k 0 || ltb widest l.k)

-- "the x of a limit isn't 0 to k; for kind 3, isn't 1 to 12", with the widest window for 12
abbrev pub x_outside : (widest : ℕ) → Limit → Bool
x_outside widest l = cond (eqb l.kind 3) (eqb l.x 0 || ltb widest l.x) (ltb l.k l.x)

-- limit number i
abbrev pub limit_rows : (widest : ℕ) → Limit → (i : ℕ) → List Row
limit_rows widest l i = row 5 (ltb 3 l.kind) i ∷ row 6 (k_outside widest l) i ∷ row 7 (x_outside widest l) i ∷ []

-- RULES, What each entry tests: "limit after limit, each for 5, 6 and 7; then 21". The n limits from limit i on
unfoldable pub limits_rows : (widest : ℕ) → LimitSet → (i n : ℕ) → List Row
limits_rows widest s i zero = []
limits_rows widest s i (suc n) = limit_rows widest (limit_at s i) i ++ limits_rows widest s (suc i) n

-- whether the set limits nothing: true where it keeps every pattern and false where it doesn't, since it is made of a decision of just that
abbrev pub limits_nothing : LimitSet → Bool
limits_nothing s = ite {P = LimitsNothing s} (nothing_dec s) true false

-- "the set limits nothing"
abbrev pub nothing_row : LimitSet → Row
nothing_row s = row 21 (limits_nothing s) 0

-- the limits of a set, each for itself and then together
abbrev pub test_rows : (widest : ℕ) → LimitSet → List Row
test_rows widest s = limits_rows widest s 0 s.count ++ nothing_row s ∷ []

-- "c, or the count of a set in memory, is 0 or more than 8"
abbrev pub count_row : ℕ → Row
count_row c = row 3 (eqb c 0 || ltb 8 c) 0

-- 1 and 2, as in every layout; 3; and 4, "the length field of the set isn't 2+3c"
abbrev pub head_rows : List ℕ → List Row
head_rows b = opening_rows 6 1 1 2 b ++ (count_row (count_of b) ∷ row 4 (not (eqb (length_field b) (2 + 3 * count_of b))) 0 ∷ [])

-- the bytes of a set
abbrev pub set_rows : (widest : ℕ) → List ℕ → List Row
set_rows widest b = head_rows b ++ test_rows widest (set_of b)

-- a set that is in memory already
abbrev pub memory_rows : (widest : ℕ) → LimitSet → List Row
memory_rows widest s = count_row s.count ∷ test_rows widest s
