-- RULES, The table of a set: "the first 131,072 hold classes of histories and marks of merges while it works". Four regions, one entry a history in each, so a set takes as many as its own histories ask for.
use Rattle.std.specs.Prelude.{◌≡◌, Bool, List, ℕ, ◌-◌, ◌*◌, ◌%◌, ◌^◌, ◌≤◌, leb, length, get_or}
use Rattle.history.specs.History.{shifted}

-- entries that n histories take
abbrev pub used : ℕ → ℕ
used n = 4 * n

-- RULES, Refusals, 8: "the work area has less than 131,072 entries of 16 bits; in the printing program, less than 8,192". By the longest window: what its histories take.
abbrev pub area_size : (widest : ℕ) → ℕ
area_size widest = used (2 ^ (widest - 1))

-- an entry of the first region is a class, with its high bit set where a miss may follow
abbrev pub high : ℕ
high = 32768

abbrev pub class_at : List ℕ → ℕ → ℕ
class_at w h = get_or w h 0 % high

abbrev pub may_at : List ℕ → ℕ → Bool
may_at w h = leb high (get_or w h 0)

-- the class of the history after h and outcome o, of n histories
abbrev pub next_class : List ℕ → (n h : ℕ) → Bool → ℕ
next_class w n h o = class_at w (shifted (n - 1) h o)

-- nothing past the four regions of n histories changes
pub record Within (n : ℕ) (w w' : List ℕ) : Type 0 where
  pub length_stays : length w' ≡ length w
  pub beyond : (k : ℕ) → used n ≤ k → get_or w' k 0 ≡ get_or w k 0
