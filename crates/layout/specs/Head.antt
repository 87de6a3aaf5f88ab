-- RULES, Refusals, 1 and 2 of a set, 10 and 11 of a table, 15 of a log, 18 of a record: it "has under" so many bytes, "or its length field isn't how many bytes follow it"; then its version isn't the one asked for.
use Rattle.std.specs.Prelude.{not, ◌||◌, List, [], ◌∷◌, ℕ, ◌-◌, eqb, ltb, length, ⊤, Result, Ok, Err}
use Rattle.layout.specs.declared.HeadFault.{HeadFault}
use Rattle.layout.specs.declared.HeadFault.TheVariants.{Length, Version}
use Rattle.layout.specs.Bytes.{length_field, version}
use Rattle.layout.specs.Refusal.{Row, row, Tested, passed, refused}

-- a layout of at least so many bytes, and its version; its number for a wrong length, and its number for another version
abbrev pub head_rows : (least own wrong other : ℕ) → List ℕ → List Row
head_rows least own wrong other b =
    row wrong (ltb (length b) least || not (eqb (length_field b) (length b - 4))) 0
    ∷ row other (not (eqb (version b) own)) 0
    ∷ []

-- what a test of the head finds, where a wrong length and another version have these numbers
abbrev pub head_says : (wrong other : ℕ) → Result ⊤ HeadFault → Tested
head_says wrong other (Ok x) = passed
head_says wrong other (Err Length) = refused wrong 0
head_says wrong other (Err Version) = refused other 0
