-- RULES, Refusals, 9: "the buffer is shorter than what must be written", with "how many bytes are needed". What a refusal leaves: "Nothing that was lent is written"; and, "Refused or not, nothing is ever written" past the bytes of what must be.
use Rattle.std.specs.Prelude.{◌≡◌, List, ◌++◌, ℕ, ltb, length, drop, Result, Ok, Err}
use Rattle.layout.specs.Refusal.{Row, row, Tested, passed, refused, first}
use Rattle.layout.specs.declared.Refused.{Refused}
use Rattle.layout.specs.Refused.{says}

-- 9, for a buffer and the length needed
abbrev pub room_row : (out : List ℕ) → (size : ℕ) → Row
room_row out size = row 9 (ltb (length out) size) size

-- the length written, 0 on a refusal
abbrev pub length_of : Result ℕ Refused → ℕ
length_of (Ok n) = n
length_of (Err r) = 0

abbrev pub length_when : Tested → (size : ℕ) → ℕ
length_when passed size = size
length_when (refused number at) size = 0

-- the buffer afterwards: the bytes and then what stood past them, or nothing written
abbrev pub buffer_when : Tested → (size : ℕ) → (bytes out : List ℕ) → List ℕ
buffer_when passed size bytes out = bytes ++ drop size out
buffer_when (refused number at) size bytes out = out

-- what a writer of so many bytes promises, by the rows that it tests
pub record WrittenBy (rows : List Row) (size : ℕ) (bytes out out' : List ℕ) (r : Result ℕ Refused) : Type 0 where
  pub answer : says r ≡ first rows
  pub length_written : length_of r ≡ length_when (first rows) size
  pub buffer : out' ≡ buffer_when (first rows) size bytes out
