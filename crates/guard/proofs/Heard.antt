-- The outcomes told by bytes: what one byte adds, before others and after them. Assumes nothing.
use mathlib.Core.Path.{◌≡◌, sym, ap, ◌∙◌}
use mathlib.Core.Logic.{◌⊎◌, ⊎_elim, inl, inr, dite}
use mathlib.Core.List.{List, [], ◌∷◌, ◌++◌}
use Prim.Native.Nat.{ℕ, zero, suc, ◌+◌, ◌-◌, ◌≤◌, ◌<◌}
use native.Mathlib.Decide.{dec_lt}
use native.Mathlib.Omega.{arith}
use borrow.Author.Tests.{lt-ltb, le-ltb}
use lib.ListN.{take, replicate}
use lib.Seq.{take-nil}
use Rattle.table.specs.Shared.{outcome}
use Rattle.guard.specs.Guard.{most_told}
use Rattle.guard.specs.Told.{outcomes_among, heard_after}

module _ (n : ℕ) where
  pub heard_none : heard_after n [] ≡ []
  unfolding heard_after
  heard_none = take-nil (most_told - n)

  -- a byte that is no outcome
  pub heard_not : (byte : ℕ) (bytes : List ℕ) → 1 < byte → heard_after n (byte ∷ bytes) ≡ heard_after n bytes
  unfolding heard_after
  heard_not byte bytes l = rw (lt-ltb 1 byte l)

  -- an outcome, below the largest count
  pub heard_one : (byte : ℕ) (bytes : List ℕ) → byte ≤ 1 → n < most_told → heard_after n (byte ∷ bytes) ≡ outcome byte ∷ heard_after (n + 1) bytes
  unfolding heard_after
  heard_one byte bytes l h =
      let z : most_told - n ≡ suc (most_told - (n + 1)) = omega arith in
      rw (le-ltb 1 byte l) (ap (λ k. take k (outcome byte ∷ outcomes_among bytes)) z)

  -- and at it
  pub heard_full : (bytes : List ℕ) → most_told ≤ n → heard_after n bytes ≡ []
  unfolding heard_after
  heard_full bytes h = let z : most_told - n ≡ 0 = omega arith in ap (λ k. take k (outcomes_among bytes)) z

-- one byte after others: it adds its outcome or nothing
pub heard_next : (n : ℕ) (a : List ℕ) (byte : ℕ) → (heard_after n (a ++ byte ∷ []) ≡ heard_after n a) ⊎ (heard_after n (a ++ byte ∷ []) ≡ heard_after n a ++ outcome byte ∷ [])
heard_next n [] byte =
    dite (dec_lt 1 byte)
    (λ l. inl (heard_not n byte [] l))
    (λ l. dite (dec_lt n most_told)
    (λ h. inr (heard_one n byte [] (omega arith) h ∙ ap (λ x. outcome byte ∷ x) (heard_none (n + 1)) ∙ ap (λ x. x ++ outcome byte ∷ []) (sym (heard_none n))))
    (λ h. inl (heard_full n (byte ∷ []) (omega arith) ∙ sym (heard_full n [] (omega arith)))))
heard_next n (x ∷ a) byte =
    dite (dec_lt 1 x)
    (λ l. rw (heard_not n x (a ++ byte ∷ []) l, heard_not n x a l) (heard_next n a byte))
    (λ l. dite (dec_lt n most_told)
    (λ h.
    let k : x ≤ 1 = omega arith in
    rw (heard_one n x (a ++ byte ∷ []) k h, heard_one n x a k h)
    (⊎_elim (λ e. inl (ap (λ z. outcome x ∷ z) e)) (λ e. inr (ap (λ z. outcome x ∷ z) e)) (heard_next (n + 1) a byte)))
    (λ h. inl (heard_full n (x ∷ (a ++ byte ∷ [])) (omega arith) ∙ sym (heard_full n (x ∷ a) (omega arith)))))

-- one outcome again and again, where the count has room
pub heard_same : (byte : ℕ) → byte ≤ 1 → (n k : ℕ) → n + k ≤ most_told → heard_after n (replicate k byte) ≡ replicate k (outcome byte)
heard_same byte l n zero h = heard_none n
heard_same byte l n (suc k) h = heard_one n byte (replicate k byte) l (omega arith) ∙ ap (λ z. outcome byte ∷ z) (heard_same byte l (n + 1) k (omega arith))
