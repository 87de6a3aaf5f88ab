-- What a turn of `before_row` passes. Read from the oldest on, the outcomes so far are a run of hits and older outcomes that have no row; one outcome more makes the run longer or ends it. Assumes nothing.
use mathlib.Core.Path.{◌≡◌, refl, sym, ap, ◌∙◌, subst}
use mathlib.Core.Bool.{Bool, true, false, cond}
use mathlib.Core.List.{List, [], ◌∷◌, ◌++◌, reverse, reverse-append}
use Prim.Native.Nat.{ℕ, zero, suc, ◌+◌, ◌-◌, ◌/◌, ◌%◌, ◌^◌, ◌≤◌, ◌<◌}
use native.Mathlib.Nat.{div-one, zero-add, suc-add}
use native.Mathlib.Numerals.{add-one}
use native.Mathlib.Omega.{arith}
use lib.Dec.{eqb}
use lib.ListN.{replicate}
use lib.Pow.{shr-shr}
use Rattle.meaning.specs.Holds.{Run}
use Rattle.meaning.specs.Test.{starts_with, has_run}
use Rattle.meaning.proofs.Decide.{T_of, T_true, run_iff}
use Rattle.meaning.proofs.MissMore.{run_after}
use Rattle.history.specs.History.{newest}
use Rattle.history.proofs.Runs.{row_reverse, run_after_misses, run_long, run_short}

-- one outcome more is the next older one
newest_next : (i h : ℕ) → newest (suc i) h ≡ newest i h ++ eqb (h / 2 ^ i % 2) 1 ∷ []
unfolding newest
newest_next zero h = ap {B = List Bool} (λ z. eqb (z % 2) 1 ∷ []) (sym (div-one h))
newest_next (suc i) h =
    let more : 1 + i ≡ suc i = omega arith in
    let half : h / 2 / 2 ^ i ≡ h / 2 ^ suc i = shr-shr h 1 i ∙ ap (λ z. h / 2 ^ z) more in
    ap {B = List Bool} (λ w. eqb (h % 2) 1 ∷ w) (newest_next i (h / 2) ∙ ap (λ z. newest i (h / 2) ++ eqb (z % 2) 1 ∷ []) half)

-- a row among the newest outcomes is among more of them too
row_later : (x h a d : ℕ) → has_run x (newest a h) ≡ true → has_run x (newest (d + a) h) ≡ true
row_later x h a zero e = rw zero-add e
row_later x h a (suc d) e =
    let r : Run x (newest (d + a) h) = (run_iff x (newest (d + a) h)).0 (T_of _ (row_later x h a d e)) in
    rw (suc-add, newest_next) (T_true _ ((run_iff x _).1 (run_after x (newest (d + a) h) (eqb (h / 2 ^ (d + a) % 2) 1 ∷ []) r)))

pub row_stays : (x h a b : ℕ) → a ≤ b → has_run x (newest a h) ≡ true → has_run x (newest b h) ≡ true
row_stays x h a b l e = let more : (b - a) + a ≡ b = omega arith in subst (λ z. has_run x (newest z h) ≡ true) more (row_later x h a (b - a) e)

-- the newest i outcomes are passed, and the oldest of them are `run` hits
pub record Passed (x h i rest run : ℕ) : Type 0 where
  pub left : rest ≡ h / 2 ^ i
  pub older : List Bool
  pub front : reverse (newest i h) ≡ replicate run true ++ older
  pub ends : starts_with 1 older ≡ false
  pub none : has_run x older ≡ false

pub none_passed : (x h : ℕ) → 0 < x → Passed x h 0 h 0
unfolding newest
none_passed zero h l = absurd (omega arith)
none_passed (suc x) h l = record { left = sym (div-one h); older = []; front = refl; ends = refl; none = refl }

module _ {x h i rest run : ℕ} (p : Passed x h i rest run) where
  pub passed_row : x ≤ run → has_run x (newest i h) ≡ true
  passed_row l = sym (row_reverse x (newest i h)) ∙ ap (has_run x) p.front ∙ run_long x run p.older l

  pub passed_none : run < x → has_run x (newest i h) ≡ false
  passed_none l = sym (row_reverse x (newest i h)) ∙ ap (has_run x) p.front ∙ run_short x run p.older l p.ends ∙ p.none

  next_left : rest / 2 ≡ h / 2 ^ suc i
  next_left = ap (λ z. z / 2) p.left ∙ shr-shr h i 1 ∙ ap (λ z. h / 2 ^ z) (add-one i)

  passed_by : run < x → (hit : Bool) → reverse (newest (suc i) h) ≡ hit ∷ reverse (newest i h) → Passed x h (suc i) (rest / 2) (cond hit (suc run) 0)
  passed_by l true e = record { left = next_left; older = p.older; front = e ∙ ap {B = List Bool} (λ w. true ∷ w) p.front; ends = p.ends; none = p.none }
  passed_by l false e = record {
    left = next_left;
    older = false ∷ reverse (newest i h);
    front = e;
    ends = refl;
    none = run_after_misses x 1 (reverse (newest i h)) ∙ row_reverse x (newest i h) ∙ passed_none l;
  }

  pub passed_more : (longer : ℕ) → longer ≡ cond (eqb (rest % 2) 1) (run + 1) 0 → run < x → Passed x h (i + 1) (rest / 2) longer
  passed_more longer e l =
      rw (e, add-one, add-one)
      (passed_by l (eqb (rest % 2) 1)
      (ap reverse (newest_next i h)
      ∙ reverse-append (newest i h) (eqb (h / 2 ^ i % 2) 1 ∷ [])
      ∙ ap {B = List Bool} (λ z. eqb (z % 2) 1 ∷ reverse (newest i h)) (sym p.left)))
