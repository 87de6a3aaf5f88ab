-- A signature is read from the first region alone, and two are equal exactly where their parts are. Assumes nothing.
use mathlib.Core.Path.{◌≡◌, refl, ap, ap₂}
use mathlib.Core.Bool.{Bool, true, false, cond, true≢false, false≢true}
use mathlib.Core.List.{List}
use Prim.Native.Nat.{ℕ, ◌+◌, ◌-◌, ◌*◌, ◌/◌, ◌≤◌, ◌<◌}
use native.Mathlib.Omega.{arith}
use borrow.Author.Tests.{lt-leb, le-leb}
use lib.Bits.{and_le_r}
use lib.ListN.{get_or}
use Rattle.history.specs.History.{shifted}
use Rattle.history.proofs.Shifted.{shifted_lt}
use Rattle.classes.specs.Area.{high, next_class, may_at}
use Rattle.classes.specs.Signature.{sig, bucket}

pub bucket_lt : (n s : ℕ) → 1 ≤ n → bucket n s < n
unfolding bucket
bucket_lt n s h = omega (arith, and_le_r (s * 40503 / 65536) (n - 1))

-- where no miss may follow, and where one may
pub sig_blocked : (w : List ℕ) (n h : ℕ) → get_or w h 0 < high → next_class w n h true ≡ sig w n h
unfolding sig
sig_blocked w n h l = rw (lt-leb high (get_or w h 0) l) (omega arith)

pub sig_open : (w : List ℕ) (n h : ℕ) → high ≤ get_or w h 0 → (next_class w n h false + 1) * high + next_class w n h true ≡ sig w n h
unfolding sig
sig_open w n h l = rw (le-leb high (get_or w h 0) l)

-- the first region is the same
abbrev pub Firsts : (n : ℕ) → List ℕ → List ℕ → Type 0
Firsts n w w' = (k : ℕ) → k < n → get_or w' k 0 ≡ get_or w k 0

pub sig_first : (w w' : List ℕ) (n h : ℕ) → Firsts n w w' → 1 ≤ n → h < n → sig w' n h ≡ sig w n h
unfolding sig
sig_first w w' n h f p l =
    let below : (o : Bool) → shifted (n - 1) h o < n = λ o. shifted_lt n h o p in
    rw (f h l, f (shifted (n - 1) h false) (below false), f (shifted (n - 1) h true) (below true))

-- the parts of equal signatures
pub record PartsAlike (w : List ℕ) (n g h : ℕ) : Type 0 where
  pub may : may_at w g ≡ may_at w h
  pub misses : may_at w g ≡ true → next_class w n g false ≡ next_class w n h false
  pub hits : next_class w n g true ≡ next_class w n h true

parts_cond : (a b : Bool) (c d e f : ℕ) → e < high → f < high → cond a ((c + 1) * high) 0 + e ≡ cond b ((d + 1) * high) 0 + f
    → (a ≡ b) × (a ≡ true → c ≡ d) × (e ≡ f)
parts_cond true true c d e f h l q = (refl, λ t. omega arith, omega arith)
parts_cond true false c d e f h l q = absurd (omega arith)
parts_cond false true c d e f h l q = absurd (omega arith)
parts_cond false false c d e f h l q = (refl, λ t. absurd (false≢true t), omega arith)

pub sig_parts : (w : List ℕ) (n g h : ℕ) → sig w n g ≡ sig w n h → PartsAlike w n g h
unfolding sig
sig_parts w n g h q =
    let (a, b, c) =
    parts_cond (may_at w g) (may_at w h) (next_class w n g false) (next_class w n h false) (next_class w n g true) (next_class w n h true) (omega arith) (omega arith) q in
    record { may = a; misses = b; hits = c }

pub parts_sig : (w : List ℕ) (n g h : ℕ) → PartsAlike w n g h → sig w n g ≡ sig w n h
unfolding sig
parts_sig w n g h q = ap₂ (λ x y. x + y) (go (may_at w g) (may_at w h) q.may q.misses) q.hits
  where
    go : (a b : Bool) → a ≡ b → (a ≡ true → next_class w n g false ≡ next_class w n h false)
        → cond a ((next_class w n g false + 1) * high) 0 ≡ cond b ((next_class w n h false + 1) * high) 0
    go true true e f = ap (λ z. (z + 1) * high) (f refl)
    go false false e f = refl
    go true false e f = absurd (true≢false e)
    go false true e f = absurd (false≢true e)
