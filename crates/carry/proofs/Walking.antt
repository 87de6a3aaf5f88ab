-- Outcomes told one after the other on a table that passes the check, and whether they can be walked there. Over any number of them. Assumes nothing.
use mathlib.Core.Path.{◌≡◌, refl, sym, ap, ◌∙◌}
use mathlib.Core.Option.{Option, none, some, none-ne-some}
use mathlib.Core.Bool.{Bool, true, false, true≢false}
use mathlib.Core.List.{List, [], ◌∷◌, ◌++◌}
use Prim.Native.Nat.{ℕ, zero, suc, ◌+◌, ◌≤◌}
use native.Mathlib.Omega.{arith}
use borrow.Author.Tests.{ltb-false}
use lib.ListN.{length, replicate, length-map}
use Rattle.layout.specs.Refusal.{passed, first}
use Rattle.layout.proofs.Rows.{passed_first}
use Rattle.patterns.specs.Outcome.{outcome, outcomes, outcome_rows, AllOutcomes}
use Rattle.patterns.proofs.Outcomes.{outcomes_passed}
use Rattle.machines.specs.Machine.{Machine, walk}
use Rattle.table.specs.Bytes.{machine_of}
use Rattle.table.specs.Rows.{table_rows}
use Rattle.table.proofs.Checked.{checked_well_made}
use Rattle.guard.specs.declared.Guard.{Guard}
use Rattle.guard.specs.Guard.{most_told, standing}
use Rattle.guard.specs.Told.{after_all, told_all, heard_after}
use Rattle.guard.proofs.Latest.{latest_whole}
use Rattle.guard.proofs.Heard.{heard_none, heard_one}
use Rattle.guard.proofs.Walked.{told_walk, lost_when}
use Rattle.guard.proofs.InTable.{told_heard}

-- bytes that 13 lets pass are all heard, where the count has room for them
all_heard : (n : ℕ) (bytes : List ℕ) (i : ℕ) → first (outcome_rows bytes i) ≡ passed → n + length bytes ≤ most_told → heard_after n bytes ≡ outcomes bytes
unfolding outcome_rows
all_heard n [] i e h = heard_none n
all_heard n (byte ∷ bytes) i e h =
    let (f, g) = passed_first _ _ e in
    heard_one n byte bytes (ltb-false 1 byte f) (omega arith) ∙ ap (λ l. outcome byte ∷ l) (all_heard (n + 1) bytes (suc i) g (omega arith))

-- bytes that 13 lets pass, after hits
pub hits_passed : (d i : ℕ) (bytes : List ℕ) → AllOutcomes bytes → first (outcome_rows (replicate d 1 ++ bytes) i) ≡ passed
unfolding outcome_rows first
hits_passed zero i bytes all = (outcomes_passed bytes i).1 all
hits_passed (suc d) i bytes all = hits_passed d (suc i) bytes all

pub hits_outcomes : (d : ℕ) (bytes : List ℕ) → outcomes (replicate d 1 ++ bytes) ≡ replicate d true ++ outcomes bytes
hits_outcomes zero bytes = refl
hits_outcomes (suc d) bytes = ap (λ l. true ∷ l) (hits_outcomes d bytes)

module _ (b : List ℕ) (checked : first (table_rows b) ≡ passed) (bytes : List ℕ) (all : first (outcome_rows bytes 0) ≡ passed) (hs : List Bool) (many : length bytes ≡ length hs) (few : 0 + length bytes ≤ most_told) where
  abbrev m : Machine
  m = machine_of b

  abbrev p : List Bool
  p = outcomes bytes

  abbrev g : Guard
  g = told_all b (standing 0 hs 0) bytes

  told_them : g ≡ after_all m (standing 0 hs 0) p
  told_them =
      told_heard b checked (standing 0 hs 0) bytes (checked_well_made b checked).start_below ∙ ap (after_all m (standing 0 hs 0)) (all_heard 0 bytes 0 all few)

  pub walked_lost : g.lost ≡ true → walk m 0 p ≡ none
  walked_lost e = go (walk m 0 p) refl
    where
      go : (x : Option ℕ) → walk m 0 p ≡ x → walk m 0 p ≡ none
      go none f = f
      go (some s) f = absurd (true≢false (sym e ∙ ap (λ z. z.lost) (told_them ∙ told_walk m 0 s hs 0 p f)))

  pub walked_kept : g.lost ≡ false → (walk m 0 p ≡ some g.state) × (g.outcomes ≡ p)
  walked_kept e = go (walk m 0 p) refl
    where
      go : (x : Option ℕ) → walk m 0 p ≡ x → (walk m 0 p ≡ some g.state) × (g.outcomes ≡ p)
      go none f = absurd (true≢false (sym (lost_when m 0 hs 0 p (λ (t, w). none-ne-some t (sym f ∙ w))) ∙ sym (ap (λ z. z.lost) told_them) ∙ e))
      go (some s) f =
          let walked = told_them ∙ told_walk m 0 s hs 0 p f in
          (f ∙ ap {B = Option ℕ} some (sym (ap (λ z. z.state) walked)), ap (λ z. z.outcomes) walked ∙ latest_whole hs p (length-map bytes outcome ∙ many))
