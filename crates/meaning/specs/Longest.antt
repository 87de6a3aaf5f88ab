-- RULES, Limits: "The longest window has 16 jobs." Every law takes it, or the history length, as a variable; this is the one place that says how large it is.
use Rattle.std.specs.Prelude.{ℕ}

abbrev pub longest : ℕ
longest = 16
