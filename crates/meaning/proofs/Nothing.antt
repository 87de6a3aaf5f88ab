-- A set keeps every pattern exactly when each of its limits is idle by its numbers: a limit that isn't loses as many misses as its window has jobs. So misses alone lead every other set to panic. Assumes nothing.
use mathlib.Core.Path.{◌≡◌, refl, sym, ap, ◌∙◌, subst}
use mathlib.Core.Logic.Dec
use mathlib.Core.Logic.{◌↔◌, ite}
use mathlib.Core.Bool.{Bool, true, false}
use mathlib.Core.List.{List, [], ◌∷◌, ◌++◌}
use Prim.Native.Nat.{ℕ, zero, suc, ◌≤◌, ◌<◌}
use native.Mathlib.Numerals.{add-one}
use native.Mathlib.Omega.{arith}
use borrow.Author.Tests.{eqb-true, eq-eqb}
use lib.Dec.{T, eqb, leb, leb→le, le→leb}
use lib.ListN.{length, replicate, length-replicate, replicate-append-replicate}
use Rattle.meaning.specs.declared.LimitSet.{LimitSet}
use Rattle.meaning.specs.Limit.{Rule, any_hit, row_hit, any_miss, row_miss, width, rule_from}
use Rattle.meaning.specs.Window.{around, window}
use Rattle.meaning.specs.Holds.{hits, Run, Holds}
use Rattle.meaning.specs.Kept.{Kept}
use Rattle.meaning.specs.Sets.{SetAllowed, KeptBy, LimitsNothing, Panic, rule_at}
use Rattle.meaning.specs.Test.{idle, all_idle}
use Rattle.meaning.proofs.TwoKinds.{length_window, hits_misses, hits_of_misses}
use Rattle.meaning.proofs.TwoWay.{occurs_around}
use Rattle.meaning.proofs.MissMore.{hits_append, hits_replicate}
use Rattle.meaning.proofs.Decide.{T_of, T_true, not_T_false, every_at, every_from}
use Rattle.meaning.proofs.SetLaws.{kept_by_empty}
use Rattle.meaning.proofs.Search.{least_false, kept_by_dec}
use Rattle.meaning.proofs.Widths.{width_allowed}

-- an idle limit holds in every window of its width
idle_holds : (l : Rule) (w : List Bool) → length w ≡ width l → T (idle l) → Holds l w
idle_holds (any_hit x k) w e t = omega (arith, eqb-true x 0 (T_true (eqb x 0) t))
idle_holds (row_hit x k) w e t = subst (λ z. Run z w) (sym (eqb-true x 0 (T_true (eqb x 0) t))) ([], w, refl)
idle_holds (any_miss x k) w e t = omega (arith, leb→le k x t, hits_misses w)
idle_holds (row_miss x) w e t = absurd t

-- a limit that holds in a window of misses is idle
holds_idle : (l : Rule) → Holds l (replicate (width l) false) → T (idle l)
holds_idle (any_hit x k) h = let e : x ≡ 0 = omega (arith, hits_of_misses k) in T_of (eqb x 0) (eq-eqb x 0 e)
holds_idle (row_hit x k) (a, b, f) =
    let n = ap hits f ∙ hits_append a (replicate x true ++ b) in
    let e : x ≡ 0 = omega (arith, hits_of_misses k, n, hits_append (replicate x true) b, hits_replicate x) in
    T_of (eqb x 0) (eq-eqb x 0 e)
holds_idle (any_miss x k) h = le→leb k x (omega (arith, hits_misses (replicate k false), hits_of_misses k, length-replicate k false))
holds_idle (row_miss x) h = absurd (h (ap (λ n. replicate n false) (sym (length-replicate x false))))

-- the misses of a whole window
abbrev window_of_misses : Rule → List Bool
window_of_misses l = replicate (width l) false

kept_idle : (l : Rule) → Kept l (window_of_misses l) → T (idle l)
kept_idle l k =
    let (i, e) = occurs_around (window_of_misses l) in
    holds_idle l (subst (Holds l) (ap (window (around (window_of_misses l)) i) (sym (length-replicate (width l) false)) ∙ e) (k i))

-- which numbers of a limit say whether it is idle, by its kind
pub idle_hit : (kind x k : ℕ) → kind < 2 → idle (rule_from kind x k) ≡ eqb x 0
idle_hit zero x k h = refl
idle_hit (suc zero) x k h = refl
idle_hit (suc (suc kind)) x k h = absurd (omega arith)

pub idle_miss : (kind x k : ℕ) → kind ≡ 2 → idle (rule_from kind x k) ≡ leb k x
idle_miss kind x k e = ap (λ z. idle (rule_from z x k)) e

pub idle_row_miss : (kind x k : ℕ) → 2 ≤ kind → (kind ≡ 2 → ⊥) → idle (rule_from kind x k) ≡ false
idle_row_miss zero x k h n = absurd (omega arith)
idle_row_miss (suc zero) x k h n = absurd (omega arith)
idle_row_miss (suc (suc zero)) x k h n = absurd (n refl)
idle_row_miss (suc (suc (suc kind))) x k h n = refl

module _ (s : LimitSet) where
  abbrev idle_at : ℕ → Bool
  idle_at i = idle (rule_at s i)

  pub nothing_iff : T (all_idle s) ↔ LimitsNothing s
  nothing_iff = (
    λ t p i h z. idle_holds (rule_at s i) _ (length_window (around p) z (width (rule_at s i))) (every_at s.count idle_at t i h),
    λ n. every_from s.count idle_at (λ i h. kept_idle (rule_at s i) (n (window_of_misses (rule_at s i)) i h)),
  )

  pub nothing_dec : Dec (LimitsNothing s)
  nothing_dec = Dec.of_iff nothing_iff (go (all_idle s))
    where
      go : (b : Bool) → Dec (T b)
      go true = yes tt
      go false = no (λ t. t)

  -- whichever way it was decided
  pub nothing_tested : ite nothing_dec true false ≡ all_idle s
  nothing_tested = go nothing_dec
    where
      go : (d : Dec (LimitsNothing s)) → ite d true false ≡ all_idle s
      go (yes n) = sym (T_true (all_idle s) (nothing_iff.1 n))
      go (no f) = sym (not_T_false (all_idle s) (λ t. f (nothing_iff.0 t)))

  one_more_miss : (n : ℕ) → replicate n false ++ false ∷ [] ≡ replicate (suc n) false
  one_more_miss n = replicate-append-replicate n 1 false ∙ ap (λ z. replicate z false) (add-one n)

  misses_panic : (n : ℕ) → KeptBy s [] → (KeptBy s (replicate n false) → ⊥) → (m : ℕ) × (m < n) × Panic s (replicate m false)
  misses_panic zero k h = absurd (h k)
  misses_panic (suc n) k h = go (kept_by_dec s (replicate n false)) (misses_panic n k)
    where
      go : Dec (KeptBy s (replicate n false)) → ((KeptBy s (replicate n false) → ⊥) → (m : ℕ) × (m < n) × Panic s (replicate m false)) → (m : ℕ) × (m < suc n) × Panic s (replicate m false)
      go (yes y) rec = (n, omega arith, record { kept = y; miss_loses = λ z. h (subst (KeptBy s) (one_more_miss n) z) })
      go (no f) rec = let (m, l, p) = rec f in (m, omega arith, p)

  -- fewer misses than the longest window has jobs, and nothing else, bring a set that limits something to panic
  pub something_panics : (w : ℕ) → SetAllowed w s → (LimitsNothing s → ⊥) → (m : ℕ) × (m < w) × Panic s (replicate m false)
  something_panics w a f =
      let (i, l, busy, _) = least_false s.count idle_at (λ t. f (nothing_iff.0 t)) in
      let (m, g, p) = misses_panic (width (rule_at s i)) (kept_by_empty s w a) (λ k. busy (kept_idle (rule_at s i) (k i l))) in
      (m, omega (arith, width_allowed w (rule_at s i) (a.each i l).rule_allowed), p)
