-- Rows stored one after the other: what is written so far, and then the buffer as it was. Assumes nothing.
use mathlib.Core.Path.{◌≡◌, sym, ap, ap₂, ◌∙◌}
use mathlib.Core.List.{List, [], ◌++◌, append_assoc}
use Prim.Native.Nat.{ℕ, zero, suc, ◌+◌, ◌*◌, ◌≤◌}
use native.Mathlib.Numerals.{add-one}
use native.Mathlib.Omega.{arith}
use lib.ListN.{length, take, drop, length-append, take-append-drop}
use lib.Seq.{take_at, drop-drop, length-take-le, drop-append-add}
use mathlib.Core.Bool.{true, false}
use Rattle.machines.specs.Machine.{Machine}
use Rattle.table.specs.Bytes.{pair_bytes, entry_of, row_bytes, head_then}
use Rattle.table.proofs.Bytes.{length_rows}

-- the bytes of state s's row
abbrev pub row_of : Machine → ℕ → List ℕ
row_of m s = pair_bytes (entry_of (m.next s false)) (pair_bytes (entry_of (m.next s true)) [])

rows_more : (m : Machine) (s n : ℕ) → row_bytes m s (suc n) ≡ row_bytes m s n ++ row_of m (s + n)
unfolding row_bytes
rows_more m s zero = let e : s ≡ s + zero = omega arith in ap (row_of m) e
rows_more m s (suc n) =
    let e : suc s + n ≡ s + suc n = omega arith in
    ap (λ z. pair_bytes (entry_of (m.next s false)) (pair_bytes (entry_of (m.next s true)) z)) (rows_more m (suc s) n ∙ ap (λ z. row_bytes m (suc s) n ++ row_of m z) e)

-- d with the rows of the first i states written after its first seven bytes
abbrev pub rows_in : Machine → List ℕ → ℕ → List ℕ
rows_in m d i = take 7 d ++ (row_bytes m 0 i ++ drop (7 + 4 * i) d)

pub no_rows : (m : Machine) (d : List ℕ) → d ≡ rows_in m d 0
unfolding row_bytes
no_rows m d = sym (take-append-drop 7 d)

pub row_more : (m : Machine) (d out : List ℕ) (i : ℕ) → 7 + 4 * (i + 1) ≤ length d → out ≡ rows_in m d i
    → take (7 + 4 * i) out ++ pair_bytes (entry_of (m.next i false)) (pair_bytes (entry_of (m.next i true)) (drop (7 + 4 * i + 4) out)) ≡ rows_in m d (i + 1)
row_more m d out i fits e =
    let at = 7 + 4 * i in
    let p = take 7 d ++ row_bytes m 0 i in
    let r = row_of m i in
    let pl : length p ≡ at = omega (arith, length-append (take 7 d) (row_bytes m 0 i), length-take-le 7 d (omega arith), length_rows m 0 i) in
    let f : out ≡ p ++ drop at d = e ∙ sym (append_assoc (take 7 d) (row_bytes m 0 i) (drop at d)) in
    let z : 0 + i ≡ i = omega arith in
    let n : at + 4 ≡ 7 + 4 * (i + 1) = omega arith in
    ap₂ (λ a b. a ++ (r ++ b)) (ap (take at) f ∙ take_at p (drop at d) at pl)
    (ap (drop (at + 4)) f ∙ ap (λ k. drop (k + 4) (p ++ drop at d)) (sym pl) ∙ drop-append-add p (drop at d) 4 ∙ drop-drop 4 at d)
    ∙ append_assoc (take 7 d) (row_bytes m 0 i) (r ++ drop (at + 4) d)
    ∙ ap (λ y. take 7 d ++ y) (sym (append_assoc (row_bytes m 0 i) r (drop (at + 4) d)))
    ∙ ap₂ (λ x k. take 7 d ++ (x ++ drop k d)) (ap (λ k. row_bytes m 0 i ++ row_of m k) (sym z) ∙ sym (rows_more m 0 i) ∙ ap (row_bytes m 0) (sym (add-one i))) n

-- the head, then the rows, then the buffer as it was
pub head_and_rows : (n k : ℕ) (out rows : List ℕ) → take 7 (head_then n (drop 7 out)) ++ (rows ++ drop (7 + k) (head_then n (drop 7 out))) ≡ head_then n rows ++ drop (7 + k) out
head_and_rows n k out rows = ap (λ z. head_then n (rows ++ z)) (drop-append-add (head_then n []) (drop 7 out) k ∙ drop-drop k 7 out)
