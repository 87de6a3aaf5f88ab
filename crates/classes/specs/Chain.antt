-- What the work area holds in a round, when the histories below h have got their classes: in the second region the classes, in the third the heads of the buckets and in the fourth the links.
use Rattle.std.specs.Prelude.{◌≡◌, Option, Some, None, List, ℕ, ◌+◌, ◌-◌, ◌*◌, ◌≤◌, ◌<◌, get_or}
use Rattle.classes.specs.Area.{Within}
use Rattle.classes.specs.Signature.{sig, bucket}

-- with n histories: the class of history g in this round, the head of bucket b, and what is linked to g
abbrev pub new_class : (n : ℕ) → List ℕ → ℕ → ℕ
new_class n w g = get_or w (n + g) 0

abbrev pub head : (n : ℕ) → List ℕ → ℕ → ℕ
head n w b = get_or w (2 * n + b) 0

abbrev pub link : (n : ℕ) → List ℕ → ℕ → ℕ
link n w g = get_or w (3 * n + g) 0

abbrev pub bucket_of : List ℕ → ℕ → ℕ → ℕ
bucket_of w n g = bucket n (sig w n g)

-- each history below h has as its class the one history of its signature that is its own class
pub record Grouped (w : List ℕ) (n h : ℕ) : Type 0 where
  pub no_greater : (g : ℕ) → g < h → new_class n w g ≤ g
  pub of_itself : (g : ℕ) → g < h → new_class n w (new_class n w g) ≡ new_class n w g
  pub alike : (g : ℕ) → g < h → sig w n (new_class n w g) ≡ sig w n g
  pub apart : (g k : ℕ) → g < h → k < g → new_class n w g ≡ g → new_class n w k ≡ k → sig w n g ≡ sig w n k → ⊥

-- c is 0, or one more than a class below h in bucket b
pub record Entry (w : List ℕ) (n h b c : ℕ) : Type 0 where
  pub no_greater : c ≤ h
  pub class : 0 < c → new_class n w (c - 1) ≡ c - 1
  pub of_bucket : 0 < c → bucket_of w n (c - 1) ≡ b

-- heads and links lead to every class of a bucket: none is greater than the head, and none below a class greater than its link
pub record Chained (w : List ℕ) (n h : ℕ) : Type 0 where
  pub heads : (b : ℕ) → b < n → Entry w n h b (head n w b)
  pub links : (g : ℕ) → g < h → new_class n w g ≡ g → Entry w n g (bucket_of w n g) (link n w g)
  pub head_most : (g : ℕ) → g < h → new_class n w g ≡ g → g < head n w (bucket_of w n g)
  pub link_most : (g k : ℕ) → g < h → k < g → new_class n w g ≡ g → new_class n w k ≡ k → bucket_of w n k ≡ bucket_of w n g → k < link n w g

pub record Placed (w : List ℕ) (n h : ℕ) : Type 0 where
  pub grouped : Grouped w n h
  pub chained : Chained w n h

-- r is the class below h of signature s
pub record Joins (w : List ℕ) (n h s r : ℕ) : Type 0 where
  pub below : r < h
  pub class : new_class n w r ≡ r
  pub alike : sig w n r ≡ s

-- the class below h of signature s, or that there is none
abbrev pub Found : List ℕ → (n h s : ℕ) → Option ℕ → Type 0
Found w n h s None = (g : ℕ) → g < h → new_class n w g ≡ g → sig w n g ≡ s → ⊥
Found w n h s (Some r) = Joins w n h s r

-- a round changes neither the first region nor what lies past the four
pub record Kept (n : ℕ) (w w' : List ℕ) : Type 0 where
  pub within : Within n w w'
  pub first : (k : ℕ) → k < n → get_or w' k 0 ≡ get_or w k 0

-- the round's result: of each history the least one of the same signature
pub record Rounded (n : ℕ) (w w' : List ℕ) : Type 0 where
  pub kept : Kept n w w'
  pub no_greater : (h : ℕ) → h < n → new_class n w' h ≤ h
  pub alike : (h : ℕ) → h < n → sig w n (new_class n w' h) ≡ sig w n h
  pub least : (g h : ℕ) → g < n → h < n → sig w n g ≡ sig w n h → new_class n w' h ≤ g
