-- From the numbered classes to the canonical machine: the machine that was numbered walks what the history machine walks, and that is what the set keeps. Assumes nothing.
use mathlib.Core.Path.{refl, sym, subst}
use mathlib.Core.List.{List}
use Prim.Native.Nat.{ℕ, ◌^◌, ◌≤◌}
use native.Mathlib.Omega.{arith}
use lib.ListN.{length}
use Rattle.machines.specs.Machine.{Walks}
use Rattle.machines.proofs.Standing.{canonical_language}
use Rattle.meaning.specs.declared.LimitSet.{LimitSet}
use Rattle.meaning.specs.Sets.{KeptBy}
use Rattle.history.specs.Machine.{history_machine}
use Rattle.history.proofs.Walked.{kept_walked}
use Rattle.history.specs.Length.{LongEnough, Histories}
use Rattle.classes.specs.Area.{used, high, Within}
use Rattle.classes.specs.Classed.{Classed}
use Rattle.classes.proofs.Keeping.{within_trans}
use Rattle.numbering.specs.Numbered.{numbered_machine}
use Rattle.numbering.specs.Work.{NumberedFrom}
use Rattle.numbering.proofs.Classes.{classed_kept}
use Rattle.numbering.proofs.OneResult.{numbered_canonical}
use Rattle.builder.specs.Steps.{Held}

module _ (s : LimitSet) (m : ℕ) (reach : LongEnough s m) (w₀ w w' : List ℕ) (count : ℕ) (classed : Classed s m w) where
  -- with the number of histories written as a power
  held_power : 2 ^ m ≤ high → 1 ≤ 2 ^ m → used (2 ^ m) ≤ length w₀ → Within (2 ^ m) w₀ w → NumberedFrom (2 ^ m) w w' count → Held s (2 ^ m) w₀ w' count
  held_power fits positive room first numbered =
      let N = numbered.numbered s m refl classed in
      let C = classed_kept s m w classed w' numbered.kept in
      record {
        canonical = canonical_language (numbered_machine (2 ^ m) w' count) (Walks (history_machine s m)) (KeptBy s)
            (numbered_canonical s m w' count N) (kept_walked s m reach.enough);
        writable = record {
          entries = record {
            some_history = positive;
            fits = fits;
            room = omega (arith, first.length_stays, numbered.kept.within.length_stays);
            no_greater = C.no_greater;
          };
          no_more = N.no_more;
          histories = N.histories;
          hits = λ j h. (N.hits_numbered j h).0;
          misses = λ j h t. (N.misses_numbered j h t).0;
        };
        within = within_trans (2 ^ m) w₀ w w' first numbered.kept.within;
      }

  pub held_of : (n : ℕ) → Histories m n → used n ≤ length w₀ → Within n w₀ w → NumberedFrom n w w' count → Held s n w₀ w' count
  held_of n h room first numbered =
      subst (λ z. z ≤ high → 1 ≤ z → used z ≤ length w₀ → Within z w₀ w → NumberedFrom z w w' count → Held s z w₀ w' count) (sym h.power) held_power
      h.fits h.some_history room first numbered
