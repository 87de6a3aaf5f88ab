-- RULES, Refusals, 8: "the work area has less than 131,072 entries of 16 bits; in the printing program, less than 8,192". The program has a longest window of its own, and this is the one place that says how large it is.
use Rattle.std.specs.Prelude.{ℕ, ◌-◌, ◌^◌}

abbrev pub printed_longest : ℕ
printed_longest = 12

-- the most states of a table that it prints: the histories at that window
abbrev pub printed_states : ℕ
printed_states = 2 ^ (printed_longest - 1)
