-- The outcomes held, over any number of them: what is held after further outcomes, and how a copy of them becomes it place by place. Assumes nothing.
use mathlib.Core.Path.{◌≡◌, sym, ap, ap₂, ◌∙◌}
use mathlib.Core.Bool.{Bool, false}
use mathlib.Core.List.{List, [], ◌∷◌, ◌++◌, append_assoc, append-nil}
use Prim.Native.Nat.{ℕ, suc, ◌+◌, ◌-◌, ◌≤◌, ◌<◌}
use native.Mathlib.Nat.{add_comm, zero-add}
use native.Mathlib.Omega.{arith}
use lib.ListN.{length, get_or, drop, set, length-append, length-drop}
use lib.Seq.{take_all, drop-cons, drop-drop, drop-length, drop-append-le, drop-append_seam, get_or-drop, set-set, set_at, paste, paste-suc}
use Rattle.guard.specs.Guard.{latest}

pub latest_none : (os : List Bool) → latest os [] ≡ os
latest_none os = append-nil os

pub latest_length : (os p : List Bool) → length (latest os p) ≡ length os
latest_length os p = length-drop (length p) (os ++ p) ∙ ap (λ z. z - length p) (length-append os p) ∙ omega arith

-- one after the other
pub latest_latest : (os p q : List Bool) → latest (latest os p) q ≡ latest os (p ++ q)
latest_latest os p q =
    ap (drop (length q)) (sym (drop-append-le (length p) (os ++ p) q (subst_le)))
    ∙ drop-drop (length q) (length p) ((os ++ p) ++ q)
    ∙ ap (λ z. drop z ((os ++ p) ++ q)) (sym (length-append p q))
    ∙ ap (drop (length (p ++ q))) (append_assoc os p q)
  where
    subst_le : length p ≤ length (os ++ p)
    subst_le = rw (length-append os p) (omega arith)

-- as many new ones as are held
pub latest_whole : (os p : List Bool) → length p ≡ length os → latest os p ≡ p
latest_whole os p e = ap (λ z. drop z (os ++ p)) e ∙ drop-append_seam os p

module _ (os : List Bool) (hit : Bool) where
  -- the first i places of a copy hold what the next ones held
  abbrev up : ℕ → List Bool
  up i = paste os 0 (drop 1 os) i

  -- and the new outcome follows
  abbrev pub Followed : List Bool → ℕ → Type 0
  Followed after i = after ≡ set (up i) i hit

  one_up : (i : ℕ) → i + 1 < length os → set (up i) i (get_or os (i + 1) false) ≡ up (i + 1)
  one_up i h =
      let n : length (drop 1 os) ≡ length os - 1 = length-drop 1 os in
      let one_more : suc i ≡ i + 1 = omega arith in
      ap (set (up i) i) (ap (λ k. get_or os k false) (add_comm i 1) ∙ sym (get_or-drop 1 os i false))
      ∙ ap (λ k. set (up i) k (get_or (drop 1 os) i false)) (sym (zero-add i))
      ∙ paste-suc os 0 (drop 1 os) i false (omega arith) (omega (arith, n))
      ∙ ap up one_more

  pub followed_one : (after : List Bool) (i : ℕ) → i + 1 < length os → Followed after i → Followed (set (set after i (get_or os (i + 1) false)) (i + 1) hit) (i + 1)
  followed_one after i h e =
      let v = get_or os (i + 1) false in
      ap (λ l. set l (i + 1) hit) (ap (λ l. set l i v) e ∙ set-set (up i) i hit v ∙ one_up i h)

  pub followed_all : (after : List Bool) (i : ℕ) → i + 1 ≡ length os → Followed after i → after ≡ latest os (hit ∷ [])
  followed_all after i h e = e ∙ last os h
    where
      last : (os : List Bool) → i + 1 ≡ length os → set (paste os 0 (drop 1 os) i) i hit ≡ latest os (hit ∷ [])
      last [] h = absurd (omega arith)
      last (x ∷ xs) h =
          let n : length xs ≡ i = omega arith in
          ap₂ (λ a b. set (a ++ b) i hit) (take_all i xs (omega arith))
          (ap (λ k. drop k (x ∷ xs)) (zero-add i) ∙ drop-cons (x ∷ xs) i false (omega arith) ∙ ap (λ r. get_or (x ∷ xs) i false ∷ r) (ap (λ k. drop k xs) (sym n) ∙ drop-length xs))
          ∙ set_at xs (get_or (x ∷ xs) i false) [] hit i n
