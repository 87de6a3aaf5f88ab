-- What a guard answers after outcomes: a question of walking them, and them with one more miss. Assumes nothing.
use mathlib.Core.Path.{◌≡◌, refl, sym, ap, subst, ◌∙◌}
use mathlib.Core.Logic.{◌↔◌, dite}
use mathlib.Core.Option.{Option, none, some, none-ne-some}
use mathlib.Core.Bool.{Bool, false, true≢false}
use mathlib.Core.List.{List, [], ◌∷◌, ◌++◌}
use Prim.Native.Nat.{ℕ}
use Rattle.std.specs.Prelude.{Result, Ok}
use Rattle.layout.specs.declared.Refused.{Refused}
use Rattle.layout.specs.Refused.{says}
use Rattle.table.specs.Shared.{passed, Machine, walk, Can}
use Rattle.table.proofs.Shared.{walk_snoc, can_dec}
use Rattle.guard.specs.declared.Guard.{Guard}
use Rattle.guard.specs.declared.Answer.{Answer}
use Rattle.guard.specs.declared.Answer.TheVariants.{Normal, Panic, Lost}
use Rattle.guard.specs.Guard.{standing, Standing}
use Rattle.guard.specs.Told.{after_all, ByWalk}
use Rattle.guard.proofs.Walked.{told_walk, lost_when, lost_not_walked}
use Rattle.guard.proofs.OneResult.{same_ask}

module _ (m : Machine) (s : ℕ) (os : List Bool) (count : ℕ) (p : List Bool) where
  abbrev g : Guard
  g = after_all m (standing s os count) p

  abbrev missed : List Bool
  missed = p ++ false ∷ []

  kept_walked : g.lost ≡ false → Can m s p
  kept_walked kept = dite (can_dec m s p) (λ c. c) (λ n. absurd (true≢false (sym (lost_when m s os count p n) ∙ kept)))

  walked_kept : Can m s p → g.lost ≡ false
  walked_kept (t, e) = ap (λ z. z.lost) (told_walk m s t os count p e)

  miss_walks : Can m s p → m.next g.state false ≡ walk m s missed
  miss_walks (t, e) = ap (λ z. m.next z.state false) (told_walk m s t os count p e) ∙ sym (walk_snoc m s t p false e)

  stands_panic : Standing m g (Ok Panic) ↔ (Can m s p × (Can m s missed → ⊥))
  stands_panic = (
    λ (kept, stays).
        let c = kept_walked kept in (c, λ (u, f). none-ne-some u (sym stays ∙ miss_walks c ∙ f)),
    λ (c, n). (walked_kept c, miss_walks c ∙ none_walked (walk m s missed) refl n),
  )
    where
      none_walked : (r : Option ℕ) → walk m s missed ≡ r → (Can m s missed → ⊥) → r ≡ none
      none_walked none e n = refl
      none_walked (some u) e n = absurd (n (u, e))

  stands_normal : Standing m g (Ok Normal) ↔ (Can m s p × Can m s missed)
  stands_normal = (
    λ (kept, (u, moves)).
        let c = kept_walked kept in (c, (u, sym (miss_walks c) ∙ moves)),
    λ (c, (u, f)). (walked_kept c, (u, miss_walks c ∙ f)),
  )

  module _ (a : Result Answer Refused) (passes : says a ≡ passed) (stands : Standing m g a) where
    -- the answer is the one whose case holds of the guard
    is_case : {P : Type 0} (x : Result Answer Refused) → says x ≡ passed → Standing m g x ↔ P → (a ≡ x) ↔ P
    is_case x said (to, from) =
        (λ e. to (subst (Standing m g) e stands), λ h. same_ask (m.next g.state false) g a x (passes ∙ sym said) stands (from h))

    pub ask_by_walk : ByWalk m s p a
    ask_by_walk = record {
      lost = is_case (Ok Lost) refl (lost_not_walked m s os count p);
      panic = is_case (Ok Panic) refl stands_panic;
      normal = is_case (Ok Normal) refl stands_normal;
    }
