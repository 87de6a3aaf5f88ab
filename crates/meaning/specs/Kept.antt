-- RULES, Kept: "Let hits without end come before the pattern and after it. A limit keeps the pattern when it holds in every window of this two-way endless sequence, wherever the window lies".
use Rattle.std.specs.Prelude.{◌≡◌, Bool, List, length, ℤ}
use Rattle.meaning.specs.Limit.{Rule, width}
use Rattle.meaning.specs.Window.{around, window}
use Rattle.meaning.specs.Holds.{Holds}

-- every window of an endless sequence holds
abbrev pub Always : Rule → (ℤ → Bool) → Type 0
Always l s = (i : ℤ) → Holds l (window s i (width l))

-- one limit keeps the pattern
abbrev pub Kept : Rule → List Bool → Type 0
Kept l p = Always l (around p)

-- the pattern stands in s from some place on
abbrev pub Occurs : List Bool → (ℤ → Bool) → Type 0
Occurs p s = (i : ℤ) × (window s i (length p) ≡ p)
