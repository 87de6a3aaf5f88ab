-- A text in a lent buffer: from its start, what it has beyond the buffer's end cut off, and the buffer's bytes behind the text as they were; and a piece of it, added at a place.
use Rattle.std.specs.Prelude.{◌≡◌, List, ◌++◌, ℕ, ◌+◌, ◌-◌, min, length, take, drop}

-- how many bytes of the text the buffer holds
abbrev pub held : (text out : List ℕ) → ℕ
held text out = min (length text) (length out)

-- the buffer with the text in it
abbrev pub cut : (text out : List ℕ) → List ℕ
cut text out = take (length out) text ++ drop (length text) out

-- a buffer that was lent as `lent` holds the text, and `at` is where more of it goes
pub record Holds (text lent out : List ℕ) (at : ℕ) : Type 0 where
  pub place : at ≡ held text lent
  pub bytes : out ≡ cut text lent

-- what a function adds at a place of a buffer: as much as lies before the buffer's end. Past the end nothing is written, and the place stays.
pub record Adds (more out : List ℕ) (at : ℕ) (out' : List ℕ) (at' : ℕ) : Type 0 where
  pub place : at' ≡ at + min (length more) (length out - at)
  pub bytes : out' ≡ take at out ++ (take (length out - at) more ++ drop (at + length more) out)
