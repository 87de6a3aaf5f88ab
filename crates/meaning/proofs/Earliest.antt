-- Where to look: a pattern that a limit doesn't keep has one earliest window that fails. Of a pattern that a miss loses, every window that fails has the miss in it, so the earliest is the one with the most outcomes before it. Assumes nothing.
use mathlib.Core.Path.{◌≡◌, refl, sym, ap, ◌∙◌, subst}
use mathlib.Core.Logic.{dite}
use mathlib.Core.Bool.{Bool, true, false}
use mathlib.Core.List.{List, [], ◌∷◌, ◌++◌}
use Prim.Native.Nat.{ℕ, suc, ◌+◌, ◌-◌, ◌≤◌, ◌<◌}
use native.Mathlib.Decide.{dec_lt}
use native.Mathlib.Omega.{arith}
use lib.Dec.{T}
use lib.ListN.{length, get_or, take, replicate, length-take}
use lib.Seq.{take-suc}
use lib.IntN.{ℤ, pos, ◌+ℤ◌, ◌-ℤ◌, +ℤ_assoc, -ℤ-+ℤ_cancel}
use Rattle.meaning.specs.declared.LimitSet.{LimitSet}
use Rattle.meaning.specs.Limit.{Rule, RuleAllowed, width}
use Rattle.meaning.specs.Window.{around, window, recent}
use Rattle.meaning.specs.Holds.{Holds}
use Rattle.meaning.specs.Kept.{Kept}
use Rattle.meaning.specs.Sets.{SetAllowed, KeptBy, LostAt, rule_at}
use Rattle.meaning.specs.Broken.{EarliestBroken, job_at, BrokenFrom, LostFrom}
use Rattle.meaning.specs.Test.{window_test}
use Rattle.meaning.proofs.Places.{same_place, earlier_by, steps_swap, steps_from, place_counted, place_before}
use Rattle.meaning.proofs.MissMore.{Near, apart, over, near, over_width}
use Rattle.meaning.proofs.Decide.{holds_iff, kept_iff, window_early}
use Rattle.meaning.proofs.Search.{least_false}
use Rattle.meaning.proofs.SetLaws.{all_hits_hold, kept_by_hit}
use Rattle.meaning.proofs.Unique.{lost_job, lost_limit, lost_within, lost_job_from_1, lost_of_the_set}

-- there is only one
pub earliest_one : (l : Rule) (p : List Bool) (i j : ℤ) → EarliestBroken l p i → EarliestBroken l p j → i ≡ j
earliest_one l p i j a b = same_place i j (λ h. a.broken (b.none_earlier i h)) (λ h. b.broken (a.none_earlier j h))

broken_from_one : (l : Rule) (p : List Bool) (f g : ℤ) → BrokenFrom l p f → BrokenFrom l p g → f ≡ g
broken_from_one l p f g (i, a, e) (j, b, h) = e ∙ ap job_at (earliest_one l p i j a b) ∙ sym h

-- wherever and by whatever the pattern is lost
pub lost_from_one : (s : LimitSet) (p : List Bool) (j i : ℕ) (f : ℤ) (k m : ℕ) (g : ℤ) → LostFrom s p j i f → LostFrom s p k m g → f ≡ g
lost_from_one s p j i f k m g (a, b) (c, d) =
    let e = lost_job s p j i k m a c in
    let h = lost_limit s p j i k m a c in
    broken_from_one (rule_at s i) (take j p) f g b (subst (λ z. BrokenFrom (rule_at s z) (take j p) g) (sym h) (subst (λ z. BrokenFrom (rule_at s m) (take z p) g) (sym e) d))

module _ (l : Rule) (p : List Bool) (hits_hold : Holds l (replicate (width l) true)) where
  -- of the windows that the test looks at, window j is the first that fails; those before them lie in hits
  pub earliest_tested : (j : ℕ) → (T (window_test l p j) → ⊥) → ((n : ℕ) → n < j → T (window_test l p n)) → EarliestBroken l p (pos j -ℤ pos (width l))
  earliest_tested j f before = record { broken = λ h. f ((holds_iff l _).1 h); none_earlier = λ a h. let (d, e) = earlier_by a (pos j -ℤ pos (width l)) h in go a d e }
    where
      k : ℕ
      k = width l

      -- a + (d + 1) = j - k
      go : (a : ℤ) (d : ℕ) → a +ℤ pos (suc d) ≡ pos j -ℤ pos k → Holds l (window (around p) a k)
      go a d e =
          dite (dec_lt d j)
          (λ h. subst (λ z. Holds l (window (around p) z k)) (sym (place_counted a d j k e h)) ((holds_iff l _).0 (before (j - suc d) (omega arith))))
          (λ h. subst (λ z. Holds l (window (around p) z k)) (sym (place_before a d j k e (omega arith))) (subst (Holds l) (sym (window_early p k (k + (d - j)) (omega arith))) hits_hold))

-- and there is one
pub earliest_broken : (w : ℕ) (l : Rule) (p : List Bool) → RuleAllowed w l → (Kept l p → ⊥) → (i : ℤ) × EarliestBroken l p i
earliest_broken w l p a h =
    let (j, b, f, before) = least_false (suc (width l + length p)) (window_test l p) (λ t. h ((kept_iff l p).0 t)) in
    (pos j -ℤ pos (width l), earliest_tested l p (all_hits_hold w l a) j f before)

module _ (l : Rule) (p : List Bool) (kept : Kept l p) where
  -- a window that fails has the miss in it
  broken_over : (i : ℤ) → (Holds l (window (around (p ++ false ∷ [])) i (width l)) → ⊥) → (n : ℕ) × (n < width l) × (i +ℤ pos n ≡ pos (length p))
  broken_over i h = go (near p i (width l))
    where
      go : Near p i (width l) → (n : ℕ) × (n < width l) × (i +ℤ pos n ≡ pos (length p))
      go (apart e) = absurd (h (subst (Holds l) (sym e) (kept i)))
      go (over n r e f) = (n, omega arith, f)

  -- the window with n outcomes before the miss fails, and those with more don't
  pub earliest_over : (n r : ℕ) → width l ≡ n + suc r → (Holds l (recent p n ++ (false ∷ replicate r true)) → ⊥)
      → ((a b : ℕ) → n < a → width l ≡ a + suc b → Holds l (recent p a ++ (false ∷ replicate b true)))
      → EarliestBroken l (p ++ false ∷ []) (pos (length p) -ℤ pos n)
  earliest_over n r e fails hold = record {
    broken = λ h. fails (subst (Holds l) (over_width p (width l) n r i e to_miss) h);
    none_earlier = λ a h. let (d, g) = earlier_by a i h in go a d g (near p a (width l));
  }
    where
      i : ℤ
      i = pos (length p) -ℤ pos n

      to_miss : i +ℤ pos n ≡ pos (length p)
      to_miss = -ℤ-+ℤ_cancel (pos (length p)) (pos n)

      go : (a : ℤ) (d : ℕ) → a +ℤ pos (suc d) ≡ i → Near p a (width l) → Holds l (window (around (p ++ false ∷ [])) a (width l))
      go a d g (apart q) = subst (Holds l) (sym q) (kept a)
      go a d g (over m b q f) =
          let more : suc d + n ≡ m = steps_from a (suc d + n) m (sym (+ℤ_assoc a (pos (suc d)) (pos n)) ∙ ap (λ z. z +ℤ pos n) g ∙ to_miss ∙ sym f) in
          subst (Holds l) (sym (over_width p (width l) m b a q f)) (hold m b (omega arith) q)

-- A pattern that an allowed set loses: the losing job is a miss after a beginning that is kept, and lies in every window that fails, in the earliest too.
module _ (w : ℕ) (s : LimitSet) (ok : SetAllowed w s) (p : List Bool) (j i : ℕ) (lost : LostAt s p j i) where
  after : 1 ≤ j
  after = lost_job_from_1 s p w ok j i lost

  losing_miss : take j p ≡ take (j - 1) p ++ false ∷ []
  losing_miss = go (get_or p (j - 1) false) (ap (λ z. take z p) more ∙ take-suc p (j - 1) false (omega (arith, after, lost_within s p j i lost)))
    where
      more : j ≡ suc (j - 1)
      more = omega (arith, after)

      go : (o : Bool) → take j p ≡ take (j - 1) p ++ o ∷ [] → take j p ≡ take (j - 1) p ++ false ∷ []
      go false e = e
      go true e = absurd (lost.lost (subst (λ z. KeptBy s z) (sym e) (kept_by_hit s (take (j - 1) p) (lost.shortest (j - 1) (omega (arith, after))))))

  -- every window that fails has the losing job in it: it begins with that job, or fewer jobs before it than a window has
  pub lost_in_each : (a : ℤ) → (Holds (rule_at s i) (window (around (take j p)) a (width (rule_at s i))) → ⊥) → (n : ℕ) × (n < width (rule_at s i)) × (job_at a +ℤ pos n ≡ pos j)
  lost_in_each a fails =
      let before = take (j - 1) p in
      let l = rule_at s i in
      let kept : Kept l before = lost.shortest (j - 1) (omega (arith, after)) i (lost_of_the_set s p j i lost) in
      let (n, h, f) = broken_over l before kept a (subst (λ z. Holds l (window (around z) a (width l)) → ⊥) losing_miss fails) in
      let long : length before + 1 ≡ j = omega (arith, length-take (j - 1) p, after, lost_within s p j i lost) in
      (n, h, steps_swap a (pos 1) (pos n) ∙ ap (λ z. z +ℤ pos 1) f ∙ ap pos long)

  -- RULES, Lost: "job j lies in the window"
  pub lost_in_window : (first : ℤ) → BrokenFrom (rule_at s i) (take j p) first → (n : ℕ) × (n < width (rule_at s i)) × (first +ℤ pos n ≡ pos j)
  lost_in_window first (a, b, e) = let (n, h, f) = lost_in_each a b.broken in (n, h, ap (λ z. z +ℤ pos n) e ∙ f)

  -- and there is such a job
  pub lost_from : (first : ℤ) × LostFrom s p j i first
  lost_from = let (a, b) = earliest_broken w (rule_at s i) (take j p) (ok.each i (lost_of_the_set s p j i lost)).rule_allowed lost.breaks in (job_at a, (lost, (a, b, refl)))
