-- RULES, Refusals, 13: what the first bad place says of a pattern, 13 with that place, or nothing where there is none.
use Rattle.std.specs.Prelude.{ℕ, Option, Some, None}
use Rattle.layout.specs.Refusal.{Tested, passed, refused}

abbrev pub bad_place : Option ℕ → Tested
bad_place None = passed
bad_place (Some i) = refused 13 i
