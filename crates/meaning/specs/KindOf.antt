-- RULES, Limits: the columns "kind" and "kind byte", for the kinds by name.
use Rattle.std.specs.Prelude.{◌≡◌, ℕ, ◌<◌, Result, MatchResult}
use Rattle.meaning.specs.declared.Kind.{Kind}
use Rattle.meaning.specs.declared.Kind.TheVariants.{AnyHit, RowHit, AnyMiss, RowMiss}
use Rattle.meaning.specs.declared.UnknownKind.{UnknownKind}
use Rattle.meaning.specs.Limit.{Rule, any_hit, row_hit, any_miss, row_miss}

-- the column "kind byte"
abbrev pub byte_of : Kind → ℕ
byte_of AnyHit = 0
byte_of RowHit = 1
byte_of AnyMiss = 2
byte_of RowMiss = 3

-- the kind with this byte, or the byte where it is above 3
abbrev pub KindOf : ℕ → Result Kind UnknownKind → Type 0
KindOf byte r = MatchResult r (λ kind. byte_of kind ≡ byte) (λ e. (e.0 ≡ byte) × (3 < byte))

-- the rule of a limit with this kind
abbrev pub rule_with : Kind → (x k : ℕ) → Rule
rule_with AnyHit x k = any_hit x k
rule_with RowHit x k = row_hit x k
rule_with AnyMiss x k = any_miss x k
rule_with RowMiss x k = row_miss x
