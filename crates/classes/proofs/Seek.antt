-- The walk along a bucket: the class looked for, if there is one, lies at the entry reached or after it, since no class of the bucket is above the head or between a class and its link. Assumes nothing.
use mathlib.Core.Path.{◌≡◌}
use mathlib.Core.List.{List}
use Prim.Native.Nat.{ℕ, ◌<◌}
use Rattle.classes.specs.Signature.{sig, bucket}
use Rattle.classes.specs.Chain.{new_class, Entry}

-- next is an entry of the bucket of s, and the class below h of signature s, if there is one, is below next
pub record Seek (w : List ℕ) (n h s next : ℕ) : Type 0 where
  pub entry : Entry w n h (bucket n s) next
  pub below : (g : ℕ) → g < h → new_class n w g ≡ g → sig w n g ≡ s → g < next
