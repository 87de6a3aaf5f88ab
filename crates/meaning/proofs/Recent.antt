-- The last h outcomes of endless hits and then a pattern, taken as a pattern: what they are, that they are their own last h outcomes, and that they are kept where the pattern is. Assumes nothing.
use mathlib.Core.Path.{◌≡◌, sym, ap, ap₂, ◌∙◌}
use mathlib.Core.Bool.{Bool, true}
use mathlib.Core.List.{List, ◌∷◌, ◌++◌}
use Prim.Native.Nat.{ℕ, zero, suc, ◌<◌}
use native.Mathlib.Nat.{zero-add}
use native.Mathlib.Omega.{arith}
use lib.ListN.{length, get_or, drop, replicate, length-append, length-replicate}
use lib.Seq.{drop-cons, drop-length}
use lib.IntN.{pos, negsuc, ◌-ℤ◌, +ℤ_idl, +ℤ_idr, suc_ℤ-+ℤ}
use Rattle.meaning.specs.declared.LimitSet.{LimitSet}
use Rattle.meaning.specs.Window.{around, window, recent}
use Rattle.meaning.specs.Sets.{KeptBy}
use Rattle.meaning.proofs.TwoKinds.{length_window}
use Rattle.meaning.proofs.MissMore.{sucℤ_sub, recent_suc, from_end}
use Rattle.meaning.proofs.Witness.{window_itself, window_kept}

-- k hits before the pattern stand where it has hits anyway
around_filled : (p : List Bool) (k n : ℕ) → around p (pos n -ℤ pos k) ≡ get_or (replicate k true ++ p) n true
around_filled p zero n = ap (around p) (+ℤ_idr (pos n))
around_filled p (suc k) zero = ap (around p) (+ℤ_idl (negsuc k))
around_filled p (suc k) (suc n) = ap (around p) (suc_ℤ-+ℤ (pos n) (negsuc k) ∙ sucℤ_sub (pos n) k) ∙ around_filled p k n

pub recent_last : (p : List Bool) (h : ℕ) → recent p h ≡ drop (length p) (replicate h true ++ p)
recent_last p zero = sym (drop-length p)
recent_last p (suc h) =
    let q = replicate (suc h) true ++ p in
    let l : length p < length q = omega (arith, length-append (replicate (suc h) true) p, length-replicate (suc h) true) in
    recent_suc p h
    ∙ ap₂ {C = List Bool} (λ a w. a ∷ w) (around_filled p (suc h) (length p)) (recent_last p h)
    ∙ sym (drop-cons q (length p) true l)

pub recent_recent : (p : List Bool) (h : ℕ) → recent (recent p h) h ≡ recent p h
recent_recent p h =
    let q = recent p h in
    let l : length q ≡ h = length_window (around p) (pos (length p) -ℤ pos h) h in
    sym (from_end q (pos zero) h (ap pos (zero-add h ∙ sym l)))
    ∙ ap (window (around q) (pos zero)) (sym l)
    ∙ window_itself q

pub recent_kept : (s : LimitSet) (p : List Bool) (h : ℕ) → KeptBy s p → KeptBy s (recent p h)
recent_kept s p h = window_kept s p (pos (length p) -ℤ pos h) h
