-- The histories of a set take no more of the work area than an edition has that the set is allowed under. Assumes nothing.
use Prim.Native.Nat.{ℕ, ◌-◌, ◌≤◌, ◌<◌}
use native.Mathlib.Omega.{arith}
use lib.Pow.{pow_mono}
use Rattle.history.specs.Length.{Histories}
use Rattle.classes.specs.Area.{used, area_size}

pub area_suffices : (widest m n : ℕ) → Histories m n → m < widest → used n ≤ area_size widest
area_suffices widest m n h l =
    let short : m ≤ widest - 1 = omega arith in
    omega (arith, h.power, pow_mono short)
