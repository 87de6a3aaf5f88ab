-- RULES, What each entry tests, writing a set: "3; then limit after limit, each for 5, 6 and 7; then 21; then 9 with 6+3c", and else "writes the bytes of the set and returns 6+3c".
use Rattle.std.specs.Prelude.{List, [], ◌∷◌, ◌++◌, ℕ, ◌+◌, ◌*◌, Result}
use Rattle.layout.specs.declared.Refused.{Refused}
use Rattle.layout.specs.Refusal.{Row}
use Rattle.layout.specs.Write.{room_row, WrittenBy}
use Rattle.meaning.specs.declared.LimitSet.{LimitSet}
use Rattle.sets.specs.Bytes.{bytes_of}
use Rattle.sets.specs.Rows.{memory_rows}

abbrev pub size_of : LimitSet → ℕ
size_of s = 6 + 3 * s.count

abbrev pub write_rows : (widest : ℕ) → LimitSet → List ℕ → List Row
write_rows widest s out = memory_rows widest s ++ room_row out (size_of s) ∷ []

abbrev pub WrittenAs : (widest : ℕ) → LimitSet → (out out' : List ℕ) → Result ℕ Refused → Type 0
WrittenAs widest s out out' r = WrittenBy (write_rows widest s out) (size_of s) (bytes_of s) out out' r
