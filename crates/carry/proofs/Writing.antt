-- What the writer's stores make of a buffer, over plain lists: the outcomes, the count and the lost byte one after the other. Assumes nothing.
use mathlib.Core.Path.{◌≡◌, sym, ap, ap₂, ◌∙◌}
use mathlib.Core.Bool.{Bool, false}
use mathlib.Core.List.{List, [], ◌∷◌, ◌++◌, map, append_assoc}
use Prim.Native.Nat.{ℕ, suc, ◌+◌, ◌≤◌, ◌<◌}
use native.Mathlib.Numerals.{add-one}
use native.Mathlib.Omega.{arith}
use mir.Val.{bool_byte}
use lib.ListN.{length, get_or, take, drop, set, length-append, get_or-map}
use lib.Seq.{length-take-le, drop-cons, set_at}
use Rattle.layout.specs.Bytes.{byte_at}
use Rattle.layout.proofs.Runs.{put_then}
use Rattle.patterns.specs.Outcome.{bit}
use Rattle.patterns.proofs.Outcomes.{cast_bit}

-- a truth value of an array as the code makes a byte of it
pub cast_at : (os : List Bool) (i : ℕ) → bool_byte (get_or os i false) ≡ byte_at (map bit os) i
cast_at os i = cast_bit (get_or os i false) ∙ sym (get_or-map bit os i false)

-- one byte more after those that stand already
put_last : (d p : List ℕ) (n v : ℕ) → length p ≡ n → n < length d → set (p ++ drop n d) n v ≡ p ++ v ∷ [] ++ drop (n + 1) d
put_last d p n v e h =
    ap (λ z. set (p ++ z) n v) (drop-cons d n 0 h)
    ∙ set_at p (byte_at d n) (drop (suc n) d) v n e
    ∙ sym (append_assoc p (v ∷ []) (drop (suc n) d))
    ∙ ap (λ k. p ++ v ∷ [] ++ drop k d) (sym (add-one n))

-- k bytes from a place on, l after them, and one more
pub tail_written : (d one two vs ws : List ℕ) (at k l v : ℕ) → at + (k + (l + 1)) ≤ length d → length vs ≡ k → length ws ≡ l
    → one ≡ take at d ++ vs ++ drop (at + k) d → two ≡ take (at + k) one ++ ws ++ drop (at + k + l) one
    → set two (at + k + l) v ≡ take at d ++ (vs ++ ws ++ v ∷ []) ++ drop (at + (k + (l + 1))) d
tail_written d one two vs ws at k l v h e f g i =
    let p = take at d ++ (vs ++ ws) in
    let n : length p ≡ at + k + l = omega (arith, length-append (take at d) (vs ++ ws), length-take-le at d (omega arith), length-append vs ws) in
    let whole : at + k + l + 1 ≡ at + (k + (l + 1)) = omega arith in
    ap (λ z. set z (at + k + l) v)
    (i ∙ ap (λ z. take (at + k) z ++ ws ++ drop (at + k + l) z) g ∙ put_then d vs ws at k l (omega arith) e)
    ∙ put_last d p (at + k + l) v n (omega arith)
    ∙ ap₂ (λ z j. z ++ drop j d) (append_assoc (take at d) (vs ++ ws) (v ∷ [])) whole
