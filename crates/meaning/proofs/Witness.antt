-- A pattern between two sets never needs more jobs than the longest window: the window that breaks is itself such a pattern. Assumes nothing.
use mathlib.Core.Path.{◌≡◌, sym, ap, ◌∙◌, subst}
use mathlib.Core.Bool.{Bool}
use mathlib.Core.List.{List}
use Prim.Native.Nat.{ℕ, zero, ◌≤◌}
use native.Mathlib.Omega.{arith}
use lib.ListN.{length}
use lib.IntN.{ℤ, pos}
use Rattle.meaning.specs.declared.LimitSet.{LimitSet}
use Rattle.meaning.specs.Limit.{Rule, width}
use Rattle.meaning.specs.Window.{around, window}
use Rattle.meaning.specs.Holds.{Holds}
use Rattle.meaning.specs.Kept.{Kept}
use Rattle.meaning.specs.Sets.{SetAllowed, KeptBy, rule_at}
use Rattle.meaning.specs.Covers.{Between, FirstBetween}
use Rattle.patterns.proofs.Codes.{no_later_length}
use Rattle.meaning.proofs.TwoKinds.{length_window}
use Rattle.meaning.proofs.TwoWay.{kept_occurs, window_drop}
use Rattle.meaning.proofs.Search.{breaking_limit}
use Rattle.meaning.proofs.Earliest.{earliest_broken}
use Rattle.meaning.proofs.Widths.{width_allowed}

-- a window of a pattern with hits around it, taken as a pattern, has itself as a window
pub window_itself : (v : List Bool) → window (around v) (pos zero) (length v) ≡ v
window_itself v = window_drop v (length v) zero (omega arith)

module _ (l : Rule) (p : List Bool) (i : ℤ) where
  abbrev v : List Bool
  v = window (around p) i (width l)

  window_breaks : (Holds l v → ⊥) → Kept l v → ⊥
  window_breaks h k = h (subst (λ z. Holds l z) (ap (window (around v) (pos zero)) (sym (length_window (around p) i (width l))) ∙ window_itself v) (k (pos zero)))

-- a window of a kept pattern, with hits around it, is kept
pub window_kept : (s : LimitSet) (p : List Bool) (i : ℤ) (k : ℕ) → KeptBy s p → KeptBy s (window (around p) i k)
window_kept s p i k h j b =
    let v = window (around p) i k in
    (kept_occurs (rule_at s j) v).1 (around p, (i, ap (window (around p) i) (length_window (around p) i k)), h j b)

pub short_witness : (a b : LimitSet) (w : ℕ) (p : List Bool) → SetAllowed w b → Between a b p → (v : List Bool) × Between a b v × (length v ≤ w)
short_witness a b w p ok (ka, nb) =
    let (j, lt, nj) = breaking_limit b p nb in
    let l = rule_at b j in
    let (i, ni) = earliest_broken w l p (ok.each j lt).rule_allowed nj in (
      window (around p) i (width l),
      (window_kept a p i (width l) ka, λ k. window_breaks l p i ni.broken (k j lt)),
      omega (arith, length_window (around p) i (width l), (width_allowed w l (ok.each j lt).rule_allowed).1),
    )

-- RULES, Covers: "It has 1 to 12 jobs, never more than the longest window."
pub first_between_short : (a b : LimitSet) (w : ℕ) (p : List Bool) → SetAllowed w b → FirstBetween a b p → length p ≤ w
first_between_short a b w p ok f =
    let (v, between, short) = short_witness a b w p ok f.between in
    omega (arith, no_later_length p v (f.none_earlier v between))
