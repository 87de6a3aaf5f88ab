-- RULES, Bytes of a carry-over record: "the length field", "the version, 2", "the bytes of the set, its own head and all", "the outcomes that the guard holds, one byte each, the oldest first", "how many outcomes it was told", "1 if it is lost, else 0". "A record of version 1 differs in its version and in that it has 11 outcomes."
-- The version v and how many outcomes there are, h, are variables wherever bytes are laid out. "That a record holds 15 outcomes isn't a number of its own: it is one less than the longest window."
use Rattle.std.specs.Prelude.{◌≡◌, Bool, true, cond, List, [], ◌∷◌, ◌++◌, map, ℕ, ◌+◌, ◌-◌, ◌≤◌, eqb, length, take, drop, replicate}
use Rattle.layout.specs.Bytes.{byte_at, four_bytes, eight_at, eight_bytes, version}
use Rattle.patterns.specs.Outcome.{bit, outcomes}
use Rattle.meaning.specs.Longest.{longest}
use Rattle.guard.specs.declared.Guard.{Guard}

-- the version that is written, and the outcomes of such a record
abbrev pub new_version : ℕ
new_version = 2

abbrev pub carried : ℕ
carried = longest - 1

-- the version that is still read, and its outcomes: windows of 12 jobs were the longest when it was written
abbrev pub old_version : ℕ
old_version = 1

abbrev pub old_carried : ℕ
old_carried = 11

-- by which version the bytes are read: a version that is neither is read as the new one, and isn't that one
abbrev pub is_old : List ℕ → Bool
is_old r = eqb (version r) old_version

abbrev pub version_for : List ℕ → ℕ
version_for r = cond (is_old r) old_version new_version

-- and how many outcomes they then have, where the new version has n
abbrev pub many_in : (n : ℕ) → List ℕ → ℕ
many_in n r = cond (is_old r) old_carried n

-- what stands after the set's bytes, all that stands around them, and the whole record
abbrev pub tail_size : ℕ → ℕ
tail_size h = h + 9

abbrev pub around_set : ℕ → ℕ
around_set h = 5 + tail_size h

abbrev pub size_of : ℕ → (set : List ℕ) → ℕ
size_of h set = length set + around_set h

-- the length field, the version, the set's bytes
abbrev pub head_bytes : (v h : ℕ) → (set : List ℕ) → List ℕ
head_bytes v h set = four_bytes (1 + length set + tail_size h) ++ (v ∷ set)

-- the outcomes, the count, the lost byte
abbrev pub tail_bytes : Guard → List ℕ
tail_bytes g = map bit g.outcomes ++ eight_bytes g.count ++ bit g.lost ∷ []

-- the record of a guard and a set
abbrev pub record_of : (v h : ℕ) → (set : List ℕ) → Guard → List ℕ
record_of v h set g = head_bytes v h set ++ tail_bytes g

-- "The set's bytes are all that lie between the version and the outcomes."
abbrev pub set_in : ℕ → List ℕ → List ℕ
set_in h r = take (length r - around_set h) (drop 5 r)

-- where the outcomes begin: past the head, and as far from the end as what stands from there on is long
pub record Begins (h : ℕ) (r : List ℕ) (end : ℕ) : Type 0 where
  pub past_head : 5 ≤ end
  pub before_end : end + tail_size h ≡ length r

abbrev pub outcome_bytes : ℕ → List ℕ → List ℕ
outcome_bytes h r = take h (drop (length r - tail_size h) r)

-- the n outcomes of a guard, of which a record has h: "with hits for the older places"
abbrev pub outcomes_in : (n h : ℕ) → List ℕ → List Bool
outcomes_in n h r = replicate (n - h) true ++ outcomes (outcome_bytes h r)

abbrev pub count_in : List ℕ → ℕ
count_in r = eight_at r (length r - 9)

abbrev pub lost_byte : List ℕ → ℕ
lost_byte r = byte_at r (length r - 1)
