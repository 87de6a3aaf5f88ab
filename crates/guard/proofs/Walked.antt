-- A guard that is told outcomes walks them and counts them: it is lost exactly when they can't be walked, and keeps the state and the outcomes from before the miss that lost it. Over any number of outcomes held. Assumes nothing.
use mathlib.Core.Path.{◌≡◌, refl, sym, ap, ◌∙◌}
use mathlib.Core.Logic.{◌↔◌}
use mathlib.Core.Option.{Option, none, some, none-ne-some}
use mathlib.Core.Bool.{Bool, true, false, cond, true≢false}
use mathlib.Core.List.{List, [], ◌∷◌, ◌++◌}
use Prim.Native.Nat.{ℕ, suc, ◌+◌}
use native.Mathlib.Nat.{add-zero}
use native.Mathlib.Omega.{arith}
use lib.ListN.{length}
use Rattle.table.specs.Shared.{Tested, passed, refused, first, outcome, Machine, walk, Can}
use Rattle.table.specs.Bytes.{machine_of}
use Rattle.table.proofs.Shared.{walk_first, walk_snoc}
use Rattle.guard.specs.declared.Guard.{Guard}
use Rattle.guard.specs.Guard.{standing, latest, lost_in, moved, after, tell_rows, told_when, told_of}
use Rattle.guard.specs.Told.{after_all, told_all}
use Rattle.guard.proofs.Latest.{latest_none, latest_latest}

one_more : (n k : ℕ) → n + 1 + k ≡ n + suc k
one_more n k = omega arith

module _ (m : Machine) where
  pub count_grows : (g : Guard) (o : Bool) → (after m g o).count ≡ g.count + 1
  count_grows g o = go g.lost (m.next g.state o) refl refl
    where
      go : (l : Bool) (r : Option ℕ) → g.lost ≡ l → m.next g.state o ≡ r → (after m g o).count ≡ g.count + 1
      go true r e f = rw e
      go false none e f = rw (e, f)
      go false (some t) e f = rw (e, f)

  pub count_all : (g : Guard) (p : List Bool) → (after_all m g p).count ≡ g.count + length p
  count_all g [] = sym (add-zero g.count)
  count_all g (o ∷ p) = count_all (after m g o) p ∙ ap (λ n. n + length p) (count_grows g o) ∙ one_more g.count (length p)

  lost_stays : (s : ℕ) (os : List Bool) (n : ℕ) (p : List Bool) → after_all m (lost_in s os n) p ≡ lost_in s os (n + length p)
  lost_stays s os n [] = ap (lost_in s os) (sym (add-zero n))
  lost_stays s os n (o ∷ p) = lost_stays s os (n + 1) p ∙ ap (lost_in s os) (one_more n (length p))

  step_moves : (s t : ℕ) (os : List Bool) (n : ℕ) (o : Bool) → m.next s o ≡ some t → after m (standing s os n) o ≡ standing t (latest os (o ∷ [])) (n + 1)
  step_moves s t os n o e = rw e

  step_blocked : (s : ℕ) (os : List Bool) (n : ℕ) (o : Bool) → m.next s o ≡ none → after m (standing s os n) o ≡ lost_in s os (n + 1)
  step_blocked s os n o e = rw e

  pub told_walk : (s t : ℕ) (os : List Bool) (n : ℕ) (p : List Bool) → walk m s p ≡ some t → after_all m (standing s os n) p ≡ standing t (latest os p) (n + length p)
  told_walk s t os n [] e =
      let z : s ≡ t = cc in
      ap (λ k. standing k os n) z ∙ ap (λ l. standing t l n) (sym (latest_none os)) ∙ ap (standing t (latest os [])) (sym (add-zero n))
  told_walk s t os n (o ∷ p) e =
      let (u, f, g) = walk_first m s t o p e in
      ap (λ z. after_all m z p) (step_moves s u os n o f)
      ∙ told_walk u t (latest os (o ∷ [])) (n + 1) p g
      ∙ ap (λ l. standing t l (n + 1 + length p)) (latest_latest os (o ∷ []) p)
      ∙ ap (standing t (latest os (o ∷ p))) (one_more n (length p))

  -- outcomes that lead to s, a miss that isn't possible there, and any others: lost, in state s and holding what it held there
  pub after_lost : (start s : ℕ) (os : List Bool) (n : ℕ) (q r : List Bool) → walk m start q ≡ some s → m.next s false ≡ none → after_all m (standing start os n) (q ++ (false ∷ r)) ≡ lost_in s (latest os q) (n + length (q ++ (false ∷ r)))
  after_lost start s os n [] r e f =
      let z : start ≡ s = cc in
      ap (λ k. after_all m (after m (standing k os n) false) r) z
      ∙ ap (λ g. after_all m g r) (step_blocked s os n false f)
      ∙ lost_stays s os (n + 1) r
      ∙ ap (λ l. lost_in s l (n + 1 + length r)) (sym (latest_none os))
      ∙ ap (lost_in s (latest os [])) (one_more n (length r))
  after_lost start s os n (o ∷ q) r e f =
      let (u, g, h) = walk_first m start s o q e in
      let rest = q ++ (false ∷ r) in
      ap (λ z. after_all m z rest) (step_moves start u os n o g)
      ∙ after_lost u s (latest os (o ∷ [])) (n + 1) q r h f
      ∙ ap (λ l. lost_in s l (n + 1 + length rest)) (latest_latest os (o ∷ []) q)
      ∙ ap (lost_in s (latest os (o ∷ q))) (one_more n (length rest))

  told_lost : (s : ℕ) (os : List Bool) (n : ℕ) (p : List Bool) → walk m s p ≡ none → (after_all m (standing s os n) p).lost ≡ true
  told_lost s os n [] e = absurd (none-ne-some s (sym e))
  told_lost s os n (o ∷ p) e = go (m.next s o) refl (λ u. told_lost u (latest os (o ∷ [])) (n + 1) p)
    where
      go : (r : Option ℕ) → m.next s o ≡ r → ((u : ℕ) → walk m u p ≡ none → (after_all m (standing u (latest os (o ∷ [])) (n + 1)) p).lost ≡ true) → (after_all m (standing s os n) (o ∷ p)).lost ≡ true
      go none f ih = ap (λ z. z.lost) (ap (λ z. after_all m z p) (step_blocked s os n o f) ∙ lost_stays s os (n + 1) p)
      go (some u) f ih = ap (λ z. (after_all m z p).lost) (step_moves s u os n o f) ∙ ih u (rw f at e)

  module _ (s : ℕ) (os : List Bool) (n : ℕ) (p : List Bool) where
    abbrev g : Guard
    g = after_all m (standing s os n) p

    pub lost_when : (Can m s p → ⊥) → g.lost ≡ true
    lost_when not = go (walk m s p) refl
      where
        go : (r : Option ℕ) → walk m s p ≡ r → g.lost ≡ true
        go none e = told_lost s os n p e
        go (some t) e = absurd (not (t, e))

    pub lost_not_walked : (g.lost ≡ true) ↔ (Can m s p → ⊥)
    lost_not_walked = (λ e c. true≢false (sym e ∙ ap (λ z. z.lost) (told_walk s c.0 os n p c.1)), lost_when)

-- bytes after others
pub told_then : (b : List ℕ) (g : Guard) (bytes rest : List ℕ) → told_all b g (bytes ++ rest) ≡ told_all b (told_all b g bytes) rest
told_then b g [] rest = refl
told_then b g (byte ∷ bytes) rest = told_then b (told_of b g byte) bytes rest

-- wherever a guard stands, lost or not, outcomes lead there, and what it holds are the last of those
module _ (m : Machine) (start : ℕ) (hs : List Bool) where
  pub record Led (g : Guard) : Type 0 where
    pub by : List Bool
    pub leads : walk m start by ≡ some g.state
    pub holds : g.outcomes ≡ latest hs by

  led_after : (g : Guard) (o : Bool) → Led g → Led (after m g o)
  led_after g o led = go g.lost (m.next g.state o) refl
    where
      go : (l : Bool) (x : Option ℕ) → m.next g.state o ≡ x → Led (cond l (lost_in g.state g.outcomes (g.count + 1)) (moved x g o))
      go true x f = record { by = led.by; leads = led.leads; holds = led.holds }
      go false none f = record { by = led.by; leads = led.leads; holds = led.holds }
      go false (some u) f = record {
        by = led.by ++ o ∷ [];
        leads = walk_snoc m start g.state led.by o led.leads ∙ f;
        holds = ap (λ l. latest l (o ∷ [])) led.holds ∙ latest_latest hs led.by (o ∷ []);
      }

  pub led_start : (n : ℕ) → Led (standing start hs n)
  led_start n = record { by = []; leads = refl; holds = sym (latest_none hs) }

pub led_told : (b : List ℕ) (start : ℕ) (hs : List Bool) (g : Guard) (bytes : List ℕ) → Led (machine_of b) start hs g → Led (machine_of b) start hs (told_all b g bytes)
led_told b start hs g [] led = led
led_told b start hs g (byte ∷ bytes) led = led_told b start hs (told_of b g byte) bytes (go (first (tell_rows b g byte)))
  where
    go : (t : Tested) → Led (machine_of b) start hs (told_when t (machine_of b) g (outcome byte))
    go passed = led_after (machine_of b) start hs g (outcome byte) led
    go (refused n v) = led
