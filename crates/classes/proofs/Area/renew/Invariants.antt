-- `classes::Area::renew`: the entries below h have the new class and the old bit, and those from h on are as they were. Assumes nothing.
use mathlib.Core.Path.{◌≡◌}
use Prim.Native.Nat.{ℕ, ◌≤◌, ◌<◌}
use lib.ListN.{length, get_or}
use Rattle.classes.specs.Chain.{new_class}
use Rattle.classes.specs.Area.{class_at, may_at}
use Rattle.classes.specs.Stores.{Stores}
use Rattle.classes.proofs.Area.renew.Given as goal

abbrev pub invariant-loop-h : goal.invariant-loop-h
invariant-loop-h l =
    Stores (λ n w w'. (length w' ≡ length w) × ((g : ℕ) → g < l.h → (class_at w' g ≡ new_class n w g) × (may_at w' g ≡ may_at w g)) × ((g : ℕ) → l.h ≤ g → get_or w' g 0 ≡ get_or w g 0))
    l.initial.self l.self
