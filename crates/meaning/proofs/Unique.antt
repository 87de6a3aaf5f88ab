-- A pattern is lost at one job of its own and by one limit of the set, kept and lost exclude each other, and two sets have at most one first pattern between them. Assumes nothing.
use mathlib.Core.Path.{◌≡◌, sym, ◌∙◌, subst}
use mathlib.Core.Logic.{dite}
use mathlib.Core.Bool.{Bool}
use mathlib.Core.List.{List}
use Prim.Native.Nat.{ℕ, ◌-◌, ◌≤◌, ◌<◌}
use native.Mathlib.Decide.{dec_lt}
use native.Mathlib.Omega.{arith}
use lib.ListN.{length, take}
use lib.Seq.{take_all}
use Rattle.patterns.proofs.Codes.{no_later_antisym}
use Rattle.meaning.specs.declared.LimitSet.{LimitSet}
use Rattle.meaning.specs.Sets.{SetAllowed, KeptBy, LostAt}
use Rattle.meaning.specs.Covers.{FirstBetween}
use Rattle.meaning.proofs.SetLaws.{kept_by_empty, kept_by_take}

module _ (s : LimitSet) (p : List Bool) where
  pub kept_not_lost : (j i : ℕ) → KeptBy s p → LostAt s p j i → ⊥
  kept_not_lost j i k l = l.lost (kept_by_take s j p k)

  -- the job is one of the pattern: a beginning as long as the pattern is all of it
  pub lost_within : (j i : ℕ) → LostAt s p j i → j ≤ length p
  lost_within j i l =
      dite (dec_lt (length p) j) (λ h.
      absurd (l.lost (subst (λ z. KeptBy s z) (take_all (j - 1) p (omega arith) ∙ sym (take_all j p (omega arith))) (l.shortest (j - 1) (omega arith)))))
      (λ h. omega arith)

  -- RULES, Lost: "so j counts from 1": an allowed set keeps the empty pattern
  pub lost_job_from_1 : (w : ℕ) → SetAllowed w s → (j i : ℕ) → LostAt s p j i → 1 ≤ j
  lost_job_from_1 w ok j i l =
      dite (dec_lt 0 j) (λ h. h) (λ h. let e : j ≡ 0 = omega arith in absurd (subst (λ z. KeptBy s (take z p) → ⊥) e l.lost (kept_by_empty s w ok)))

  -- and the limit one of the set
  pub lost_of_the_set : (j i : ℕ) → LostAt s p j i → i < s.count
  lost_of_the_set j i l = dite (dec_lt i s.count) (λ h. h) (λ h. absurd (l.lost (λ n g. l.lowest n (omega arith))))

  lost_le : (j i j' i' : ℕ) → LostAt s p j i → LostAt s p j' i' → j' ≤ j
  lost_le j i j' i' l l' = dite (dec_lt j j') (λ h. absurd (l.lost (l'.shortest j h))) (λ h. omega arith)

  pub lost_job : (j i j' i' : ℕ) → LostAt s p j i → LostAt s p j' i' → j ≡ j'
  lost_job j i j' i' l l' = let a = lost_le j i j' i' l l' in let b = lost_le j' i' j i l' l in omega arith

  limit_le : (j i i' : ℕ) → LostAt s p j i → LostAt s p j i' → i' ≤ i
  limit_le j i i' l l' = dite (dec_lt i i') (λ h. absurd (l.breaks (l'.lowest i h))) (λ h. omega arith)

  pub lost_limit : (j i j' i' : ℕ) → LostAt s p j i → LostAt s p j' i' → i ≡ i'
  lost_limit j i j' i' l l' =
      let m : LostAt s p j i' = subst (λ z. LostAt s p z i') (sym (lost_job j i j' i' l l')) l' in
      let a = limit_le j i i' l m in
      let b = limit_le j i' i m l in
      omega arith

pub first_between_unique : (a b : LimitSet) (p q : List Bool) → FirstBetween a b p → FirstBetween a b q → p ≡ q
first_between_unique a b p q f g =
    no_later_antisym p q (f.none_earlier q g.between) (g.none_earlier p f.between)
