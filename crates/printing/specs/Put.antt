-- A text in a lent buffer: what a method adds at its place.
use Rattle.std.specs.Prelude.{◌≡◌, List, ℕ}
use Rattle.printing.specs.declared.put.Text.{Text}
use Rattle.printing.specs.Cut.{Adds}

-- a text with so much more put into it: the buffer is the one that it was lent, and the piece is added at its place
pub record Puts (more : List ℕ) (t t' : Text) : Type 0 where
  pub buffer : t'.out.ghost_name ≡ t.out.ghost_name
  pub added : Adds more t.out.now t.at t'.out.now t'.at
