-- What a round tells two histories apart by, in one number: the class after a miss and one, where a miss may follow, and the class after a hit.
use Rattle.std.specs.Prelude.{true, false, cond, List, ℕ, ◌+◌, ◌-◌, ◌*◌, ◌/◌}
use Rattle.std.specs.Int.Bits.{bit_and}
use Rattle.classes.specs.Area.{high, next_class, may_at}

unfoldable pub sig : List ℕ → ℕ → ℕ → ℕ
sig w n h = cond (may_at w h) ((next_class w n h false + 1) * high) 0 + next_class w n h true

-- the bucket of a signature: any function to the numbers below n serves, and this one spreads them well
unfoldable pub bucket : ℕ → ℕ → ℕ
bucket n s = bit_and (s * 40503 / 65536) (n - 1)
