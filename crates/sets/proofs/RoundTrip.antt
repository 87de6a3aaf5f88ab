-- Reading gives back what writing wrote, and a set has one byte form. The bytes are told apart by place: the head's six, and three for each limit. Assumes nothing.
use mathlib.Core.Path.{◌≡◌, refl, sym, ap, ap₂, ◌∙◌, subst}
use mathlib.Core.Logic.{dite}
use mathlib.Core.List.{List, [], ◌∷◌, ◌++◌}
use Prim.Native.Nat.{ℕ, zero, suc, ◌+◌, ◌-◌, ◌*◌, ◌≤◌, ◌<◌}
use native.Mathlib.Nat.{zero-add, add-zero}
use native.Mathlib.Numerals.{add-one, add-two}
use native.Mathlib.Decide.{dec_lt}
use native.Mathlib.Omega.{arith}
use lib.ListN.{length, get_or, drop, replicate, length-append, length-replicate, get_or-append}
use lib.Seq.{drop-cons, drop-length, get_or-append-add, ext_get_or}
use Rattle.layout.specs.Bytes.{byte_at}
use Rattle.layout.specs.Refusal.{passed, first}
use Rattle.meaning.specs.declared.Limit.{Limit}
use Rattle.meaning.specs.declared.LimitSet.{LimitSet}
use Rattle.meaning.specs.Sets.{zero_limit, limit_at, SetAllowed, LimitsNothing}
use Rattle.sets.specs.Bytes.{count_of, limit_in, limits_in, set_with, set_of, Tidy, bytes_of_limit, limit_bytes, head_bytes, bytes_of}
use Rattle.sets.specs.Rows.{set_rows, memory_rows}
use Rattle.sets.proofs.Turns.{length_in, length_bytes}
use Rattle.sets.proofs.Accepted.{Head, accepted_head, memory_allowed, memory_something, passed_rows}

-- the limits of a set that was read

in_at : (b : List ℕ) (i n j : ℕ) → j < n → get_or (limits_in b i n) j zero_limit ≡ limit_in b (i + j)
unfolding limits_in
in_at b i zero j h = absurd (omega arith)
in_at b i (suc n) zero h = ap (limit_in b) (sym (add-zero i))
in_at b i (suc n) (suc j) h = let e : suc i + j ≡ i + suc j = omega arith in in_at b (suc i) n j (omega arith) ∙ ap (limit_in b) e

zeros_at : (n j : ℕ) → get_or (replicate n zero_limit) j zero_limit ≡ zero_limit
zeros_at zero j = refl
zeros_at (suc n) zero = refl
zeros_at (suc n) (suc j) = zeros_at n j

module _ (b : List ℕ) (c : ℕ) where
  limit_read : (j : ℕ) → j < c → limit_at (set_with b c) j ≡ limit_in b j
  limit_read j h =
      let e : 0 + j ≡ j = omega arith in
      get_or-append (limits_in b 0 c) (replicate (8 - c) zero_limit) zero_limit j (omega (arith, length_in b 0 c)) ∙ in_at b 0 c j h ∙ ap (limit_in b) e

  past_zero : (j : ℕ) → c ≤ j → limit_at (set_with b c) j ≡ zero_limit
  past_zero j h =
      let l = limits_in b 0 c in
      let e : j ≡ length l + (j - c) = omega (arith, length_in b 0 c) in
      ap (limit_at (set_with b c)) e ∙ get_or-append-add l (replicate (8 - c) zero_limit) (j - c) zero_limit ∙ zeros_at (8 - c) (j - c)

  read_tidy : c ≤ 8 → Tidy (set_with b c)
  read_tidy h = record {
    eight = omega (arith, length-append (limits_in b 0 c) (replicate (8 - c) zero_limit), length_in b 0 c, length-replicate (8 - c) zero_limit);
    unused = past_zero;
  }

pub accepted_tidy : (w : ℕ) (b : List ℕ) → first (set_rows w b) ≡ passed → Tidy (set_of b)
accepted_tidy w b e = read_tidy b (count_of b) (accepted_head w b e).eight

-- the n bytes from place i on
abbrev run : List ℕ → ℕ → ℕ → List ℕ
run b i zero = []
run b i (suc n) = byte_at b i ∷ run b (suc i) n

drop_run : (b : List ℕ) (i n : ℕ) → i + n ≤ length b → drop i b ≡ run b i n ++ drop (i + n) b
drop_run b i zero h = ap (λ k. drop k b) (sym (add-zero i))
drop_run b i (suc n) h =
    let g : suc i + n ≡ i + suc n = omega arith in
    drop-cons b i 0 (omega arith)
    ∙ ap {B = List ℕ} (λ l. byte_at b i ∷ l) (drop_run b (suc i) n (omega arith) ∙ ap (λ k. run b (suc i) n ++ drop k b) g)

-- the bytes of a set, by place
abbrev limit_from : List ℕ → ℕ → Limit
limit_from l j = record { kind = get_or l (3 * j) 0; x = get_or l (3 * j + 1) 0; k = get_or l (3 * j + 2) 0 }

bytes_at : (s : LimitSet) (i n j : ℕ) → j < n → limit_from (limit_bytes s i n) j ≡ limit_at s (i + j)
unfolding limit_bytes
bytes_at s i zero j h = absurd (omega arith)
bytes_at s i (suc n) zero h = ap (limit_at s) (sym (add-zero i))
bytes_at s i (suc n) (suc j) h =
    let p₀ : 3 * suc j ≡ suc (suc (suc (3 * j))) = omega arith in
    let p₁ : 3 * suc j + 1 ≡ suc (suc (suc (3 * j + 1))) = omega arith in
    let p₂ : 3 * suc j + 2 ≡ suc (suc (suc (3 * j + 2))) = omega arith in
    let e : suc i + j ≡ i + suc j = omega arith in
    cc (bytes_at s (suc i) n j (omega arith))

module _ (s : LimitSet) where
  abbrev c : ℕ
  c = s.count

  past_head : (n : ℕ) → byte_at (bytes_of s) (6 + n) ≡ byte_at (limit_bytes s 0 c) n
  past_head n = get_or-append-add (head_bytes c) (limit_bytes s 0 c) n 0

  limit_in_lem : (j : ℕ) → j < c → limit_in (bytes_of s) j ≡ limit_at s j
  limit_in_lem j h =
      let p₁ : 6 + 3 * j + 1 ≡ 6 + (3 * j + 1) = omega arith in
      let p₂ : 6 + 3 * j + 2 ≡ 6 + (3 * j + 2) = omega arith in
      cc (past_head (3 * j), past_head (3 * j + 1), past_head (3 * j + 2), bytes_at s 0 c j h, zero-add j)

  written_head : 1 ≤ c → c ≤ 8 → Head (bytes_of s)
  written_head a b = record { whole = omega (arith, length_bytes s 0 c); rest = omega arith; one = refl; some = a; eight = b }

  written_set : c ≤ 8 → Tidy s → set_of (bytes_of s) ≡ s
  written_set h t =
      let b = bytes_of s in
      let u = read_tidy b c h in
      ap (λ l. record { count = c; limits = l })
      (ext_get_or zero_limit (set_of b).limits s.limits (u.eight ∙ sym t.eight) (λ j g.
      dite (dec_lt j c) (λ q. limit_read b c j q ∙ limit_in_lem j q) (λ q. past_zero b c j (omega arith) ∙ sym (t.unused j (omega arith)))))

-- a set that writing doesn't refuse
pub read_of_written : (w : ℕ) (s : LimitSet) → first (memory_rows w s) ≡ passed → Tidy s → (first (set_rows w (bytes_of s)) ≡ passed) × (set_of (bytes_of s) ≡ s)
read_of_written w s m t =
    let a = memory_allowed w s m in
    let e = written_set s a.eight_places t in
    (passed_rows w (bytes_of s) (written_head s a.some_limit a.eight_places) (subst (λ z. SetAllowed w z) (sym e) a) (λ n. memory_something w s m (subst LimitsNothing e n)), e)

-- the bytes that were read, written again
limits_back : (s : LimitSet) (b : List ℕ) (i n : ℕ) → length b ≡ 6 + 3 * (i + n) → ((j : ℕ) → i ≤ j → j < i + n → limit_at s j ≡ limit_in b j) → limit_bytes s i n ≡ drop (6 + 3 * i) b
unfolding limit_bytes
limits_back s b i zero l h = let g : 6 + 3 * i ≡ length b = omega arith in sym (ap (λ k. drop k b) g ∙ drop-length b)
limits_back s b i (suc n) l h =
    let g : 6 + 3 * suc i ≡ 6 + 3 * i + 3 = omega arith in
    let q : bytes_of_limit (limit_in b i) ≡ run b (6 + 3 * i) 3 = rw (add-one (6 + 3 * i), add-two (6 + 3 * i)) in
    ap₂ ◌++◌ (ap bytes_of_limit (h i (omega arith) (omega arith)) ∙ q)
    (limits_back s b (suc i) n (omega arith) (λ j f k. h j (omega arith) (omega arith)) ∙ ap (λ k. drop k b) g)
    ∙ sym (drop_run b (6 + 3 * i) 3 (omega arith))

pub one_byte_form : (w : ℕ) (b : List ℕ) → first (set_rows w b) ≡ passed → bytes_of (set_of b) ≡ b
one_byte_form w b e =
    let h = accepted_head w b e in
    let c = count_of b in
    let z₀ : 0 ≡ byte_at b 0 = omega arith in
    let z₁ : 0 ≡ byte_at b 1 = omega arith in
    let z₂ : 0 ≡ byte_at b 2 = omega arith in
    let z₃ : 2 + 3 * c ≡ byte_at b 3 = omega arith in
    let z₄ : 1 ≡ byte_at b 4 = omega arith in
    let q : head_bytes c ≡ run b 0 6 = cc in
    ap₂ ◌++◌ q (limits_back (set_of b) b 0 c (omega arith) (λ j f k. limit_read b c j (omega arith))) ∙ sym (drop_run b 0 6 (omega arith))

pub same_set_same_bytes : (w : ℕ) (b b' : List ℕ) → first (set_rows w b) ≡ passed → first (set_rows w b') ≡ passed → set_of b ≡ set_of b' → b ≡ b'
same_set_same_bytes w b b' p q e = sym (one_byte_form w b p) ∙ ap bytes_of e ∙ one_byte_form w b' q
