-- Runs of bytes: a list that a definition makes piece by piece, one piece more; bytes written after those that stand already, after a head, and one by one. Assumes nothing.
use mathlib.Core.Path.{◌≡◌, refl, sym, ap, ap₂, ◌∙◌}
use mathlib.Core.List.{List, [], ◌∷◌, ◌++◌, append_assoc, append-nil}
use Prim.Native.Nat.{ℕ, zero, suc, ◌+◌, ◌≤◌, ◌<◌}
use native.Mathlib.Nat.{zero-add, add-zero}
use native.Mathlib.Numerals.{add-one}
use native.Mathlib.Omega.{arith}
use lib.ListN.{length, take, drop, set, length-append, length-set}
use lib.Seq.{length-take-le, take_all, take_at, drop-cons, drop-append-add, drop-drop, paste, paste-zero, paste-suc}
use Rattle.layout.specs.Bytes.{byte_at, four_bytes}

-- a list that is f i, f (i + 1), .. in a row, one more
module _ {A : Type 0} (f : ℕ → List A) (F : ℕ → ℕ → List A) (none : (i : ℕ) → F i zero ≡ []) (more : (i n : ℕ) → F i (suc n) ≡ f i ++ F (suc i) n) where
  snoc : (i n : ℕ) → F i (suc n) ≡ F i n ++ f (i + n)
  snoc i zero = more i zero ∙ simp (none, append-nil, add-zero)
  snoc i (suc n) =
      let g : suc i + n ≡ i + suc n = omega arith in
      more i (suc n)
      ∙ ap (λ l. f i ++ l) (snoc (suc i) n)
      ∙ sym (append_assoc (f i) (F (suc i) n) (f (suc i + n)))
      ∙ ap₂ (λ l j. l ++ f j) (sym (more i n)) g

  pub one_more : (n : ℕ) → F 0 n ++ f n ≡ F 0 (n + 1)
  one_more n = sym (rw (add-one, snoc 0 n, zero-add))

-- what is written so far is p, and d goes on after it; vs is written next
pub put_next : (d p vs : List ℕ) (at n : ℕ) → length p ≡ at → take at (p ++ drop at d) ++ vs ++ drop (at + n) (p ++ drop at d) ≡ p ++ vs ++ drop (at + n) d
put_next d p vs at n e =
    ap₂ (λ a b. a ++ vs ++ b) (take_at p (drop at d) at e)
    (ap (λ k. drop (k + n) (p ++ drop at d)) (sym e) ∙ drop-append-add p (drop at d) n ∙ drop-drop n at d)

-- bytes written into d from a place on, and further ones right after them
pub put_then : (d vs ws : List ℕ) (at k l : ℕ) → at ≤ length d → length vs ≡ k
    → take (at + k) (take at d ++ vs ++ drop (at + k) d) ++ ws ++ drop (at + k + l) (take at d ++ vs ++ drop (at + k) d) ≡ take at d ++ (vs ++ ws) ++ drop (at + k + l) d
put_then d vs ws at k l h e =
    put_next d (take at d ++ vs) ws (at + k) l (length-append (take at d) vs ∙ ap₂ (λ a b. a + b) (length-take-le at d h) e)
    ∙ ap (λ z. z ++ drop (at + k + l) d) (append_assoc (take at d) vs ws)

-- the first i bytes of s stand in a buffer d from a place on
pub record Pasted (d : List ℕ) (at : ℕ) (s : List ℕ) (i : ℕ) (out : List ℕ) : Type 0 where
  pub same_length : length out ≡ length d
  pub pasted : out ≡ paste d at s i

pub pasted_none : {d s : List ℕ} {at : ℕ} → Pasted d at s 0 d
pasted_none {d} {s} {at} = record { same_length = refl; pasted = paste-zero d at s }

module _ {d s out : List ℕ} {at i : ℕ} (p : Pasted d at s i out) where
  pub pasted_turn : (v : ℕ) → at + i < length out → i < length s → v ≡ byte_at s i → Pasted d at s (i + 1) (set out (at + i) v)
  pasted_turn v h l e = record {
    same_length = length-set out (at + i) v ∙ p.same_length;
    pasted = ap₂ (λ o x. set o (at + i) x) p.pasted e ∙ paste-suc d at s i 0 (omega arith) l ∙ ap (paste d at s) (sym (add-one i));
  }

  pub pasted_all : (n : ℕ) → i ≡ n → length s ≡ n → out ≡ take at d ++ s ++ drop (at + n) d
  pasted_all n e l = p.pasted ∙ ap (paste d at s) e ∙ ap (λ z. take at d ++ z ++ drop (at + n) d) (take_all n s (omega arith))
