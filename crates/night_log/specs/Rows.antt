-- RULES, Refusals: 15 and 16, as rows in the order tested; and What each entry tests, writing a log: "15 for more than 4,294,967,295 outcomes; then 13 over all outcomes; then 9".
use Rattle.std.specs.Prelude.{not, List, [], ◌∷◌, ◌++◌, ℕ, ◌+◌, ◌-◌, ◌*◌, ◌%◌, ◌^◌, eqb, ltb, length}
use Rattle.layout.specs.Bytes.{byte_at, length_field}
use Rattle.layout.specs.Refusal.{Row, row}
use Rattle.layout.specs.Head.{head_rows}
use Rattle.layout.specs.Write.{room_row}
use Rattle.patterns.specs.Outcome.{outcome_rows}
use Rattle.night_log.specs.Bytes.{packed_size, size_of, count_of}

-- the most outcomes that four bytes can count
abbrev pub most_outcomes : ℕ
most_outcomes = 4294967295

-- how many low bits of the last byte no outcome takes, and what they hold
abbrev pub unused_bits : ℕ → ℕ
unused_bits n = 8 * packed_size n - n

abbrev pub unused_in : List ℕ → ℕ
unused_in b = byte_at b (8 + packed_size (count_of b)) % 2 ^ unused_bits (count_of b)

-- "the log has under 9 bytes, or its length field isn't how many bytes follow it, or its version isn't 1, or its length field isn't 5 and the bytes that its count of outcomes takes"; then "bits of the log that no outcome takes aren't zero"
abbrev pub log_rows : List ℕ → List Row
log_rows b =
    head_rows 9 1 15 15 b
    ++ (row 15 (not (eqb (length_field b) (5 + packed_size (count_of b)))) 0
    ∷ row 16 (not (eqb (unused_in b) 0)) 0
    ∷ [])

abbrev pub write_rows : (pattern out : List ℕ) → List Row
write_rows pattern out = row 15 (ltb most_outcomes (length pattern)) 0 ∷ (outcome_rows pattern 0 ++ (room_row out (size_of (length pattern)) ∷ []))
