-- What the first region holds between the rounds: after k of them, the least history that can't be told apart in k jobs.
use Rattle.std.specs.Prelude.{◌≡◌, Bool, true, false, cond, Option, Some, None, List, ℕ, suc, ◌+◌, ◌^◌, ◌≤◌, ◌<◌, eqb, get_or}
use Rattle.machines.specs.Same.{SameTo}
use Rattle.meaning.specs.declared.Limit.{Limit}
use Rattle.meaning.specs.declared.LimitSet.{LimitSet}
use Rattle.meaning.specs.Limit.{rule_of}
use Rattle.history.specs.MayMiss.{may_miss_under, may_miss}
use Rattle.history.specs.Machine.{history_machine}
use Rattle.classes.specs.Area.{high, class_at, may_at, Within}
use Rattle.classes.specs.Classed.{Classed}
use Rattle.classes.specs.Chain.{new_class}

pub record Stage (s : LimitSet) (m k : ℕ) (w : List ℕ) : Type 0 where
  pub may : (h : ℕ) → h < 2 ^ m → may_at w h ≡ may_miss s h
  pub no_greater : (h : ℕ) → h < 2 ^ m → class_at w h ≤ h
  pub same : (h : ℕ) → h < 2 ^ m → SameTo (history_machine s m) k (class_at w h) h
  pub least : (g h : ℕ) → g < 2 ^ m → h < 2 ^ m → SameTo (history_machine s m) k g h → class_at w h ≤ g

-- the n histories have the entries that f says, and nothing past the four regions changes
pub record Entered (n : ℕ) (f : ℕ → ℕ) (w w' : List ℕ) : Type 0 where
  pub within : Within n w w'
  pub entries : (h : ℕ) → h < n → get_or w' h 0 ≡ f h

-- a mark and class 0, and what a limit leaves of an entry: nothing where no miss may follow
abbrev pub marked : ℕ → ℕ
marked h = high

abbrev pub left_of : Limit → (h entry : ℕ) → ℕ
left_of l h entry = cond (may_miss_under (rule_of l) h) entry 0

abbrev pub left_in : Limit → List ℕ → ℕ → ℕ
left_in l w h = left_of l h (get_or w h 0)

-- before the first round all are in class 0
abbrev pub first_entry : LimitSet → ℕ → ℕ
first_entry s h = cond (may_miss s h) high 0

abbrev pub Started : LimitSet → (n : ℕ) → (w w' : List ℕ) → Type 0
Started s n w w' = Entered n (first_entry s) w w'

-- r is the least of n histories whose entry isn't that of history 0, or n
pub record LeastApart (n : ℕ) (w : List ℕ) (r : ℕ) : Type 0 where
  pub within : r ≤ n
  pub before : (g : ℕ) → g < r → get_or w g 0 ≡ get_or w 0 0
  pub here : r < n → get_or w r 0 ≡ get_or w 0 0 → ⊥

-- the same, where n is no history
abbrev pub FirstApart : (n : ℕ) → List ℕ → Option ℕ → Type 0
FirstApart n w None = LeastApart n w n
FirstApart n w (Some r) = (r < n) × LeastApart n w r

-- an entry with its class after one job, where `other` is told apart from history 0
abbrev pub parted_of : (first entry other : ℕ) → ℕ
parted_of first entry other = cond (eqb entry first) entry (entry + other)

pub record Parted (n : ℕ) (w w' : List ℕ) : Type 0 where
  pub other : ℕ
  pub apart : LeastApart n w other
  pub entered : Entered n (λ h. parted_of (get_or w 0 0) (get_or w h 0) other) w w'

-- the classes of a round become those of the last one
pub record Renewed (n : ℕ) (w w' : List ℕ) : Type 0 where
  pub within : Within n w w'
  pub classes : (h : ℕ) → h < n → class_at w' h ≡ new_class n w h
  pub may : (h : ℕ) → h < n → may_at w' h ≡ may_at w h

-- one more round, told by `changed` whether it parted any two histories: if not, no later one does
pub record Refined (n : ℕ) (w w' : List ℕ) (changed : Bool) : Type 0 where
  pub within : Within n w w'
  pub further : changed ≡ true → (s : LimitSet) (m k : ℕ) → n ≡ 2 ^ m → Stage s m k w → Stage s m (suc k) w'
  pub settled : changed ≡ false → (s : LimitSet) (m k : ℕ) → n ≡ 2 ^ m → Stage s m k w → Classed s m w'
