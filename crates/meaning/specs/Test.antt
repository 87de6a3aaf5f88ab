-- RULES, Kept, as tests that are computed: whether a pattern is kept, and whether every pattern is. proofs/Decide.antt and proofs/Nothing.antt show that they agree with the definitions.
use Rattle.std.specs.Prelude.{Bool, true, false, ◌&&◌, ◌||◌, List, [], ◌∷◌, ℕ, zero, suc, ◌+◌, eqb, leb, length, pos, ◌-ℤ◌}
use Rattle.meaning.specs.declared.LimitSet.{LimitSet}
use Rattle.meaning.specs.Limit.{Rule, any_hit, row_hit, any_miss, row_miss, width}
use Rattle.meaning.specs.Window.{around, window}
use Rattle.meaning.specs.Holds.{hits, misses}
use Rattle.meaning.specs.Sets.{rule_at}

-- f is true at every number below n
abbrev pub every : ℕ → (ℕ → Bool) → Bool
every zero f = true
every (suc n) f = f n && every n f

-- the window begins with x hits
abbrev pub starts_with : ℕ → List Bool → Bool
starts_with zero w = true
starts_with (suc x) [] = false
starts_with (suc x) (b ∷ w) = b && starts_with x w

-- x hits stand in a row inside the window
abbrev pub has_run : ℕ → List Bool → Bool
has_run x [] = starts_with x []
has_run x (b ∷ w) = starts_with x (b ∷ w) || has_run x w

abbrev pub holds_test : Rule → List Bool → Bool
holds_test (any_hit x k) w = leb x (hits w)
holds_test (row_hit x k) w = has_run x w
holds_test (any_miss x k) w = leb (misses w) x
holds_test (row_miss x) w = leb 1 (hits w)

-- the window that starts at place j, counted from one width before the pattern, holds
abbrev pub window_test : Rule → List Bool → ℕ → Bool
window_test l p j = holds_test l (window (around p) (pos j -ℤ pos (width l)) (width l))

-- every window that starts no earlier than one width before the pattern, and no later than its end
abbrev pub kept_test : Rule → List Bool → Bool
kept_test l p = every (suc (width l + length p)) (window_test l p)

abbrev pub kept_by_test : LimitSet → List Bool → Bool
kept_by_test s p = every s.count (λ i. kept_test (rule_at s i) p)

-- the limit holds in every window, whatever its outcomes (allowed numbers have x ≤ k, so k ≤ x says x = k)
abbrev pub idle : Rule → Bool
idle (any_hit x k) = eqb x 0
idle (row_hit x k) = eqb x 0
idle (any_miss x k) = leb k x
idle (row_miss x) = false

abbrev pub all_idle : LimitSet → Bool
all_idle s = every s.count (λ i. idle (rule_at s i))
