-- What a step of the rounds leaves alone: nothing past the four regions, in a round the first region neither. Assumes nothing.
use mathlib.Core.Path.{◌∙◌}
use mathlib.Core.List.{List}
use Prim.Native.Nat.{ℕ, ◌≤◌, ◌<◌}
use native.Mathlib.Omega.{arith}
use lib.ListN.{set, length-set}
use lib.Seq.{get_or-set_other}
use Rattle.classes.specs.Area.{used, Within}
use Rattle.classes.specs.Chain.{Kept}

module _ (n : ℕ) where
  pub within_trans : (a b c : List ℕ) → Within n a b → Within n b c → Within n a c
  within_trans a b c p q = record { length_stays = q.length_stays ∙ p.length_stays; beyond = λ k l. q.beyond k l ∙ p.beyond k l }

  pub kept_trans : (a b c : List ℕ) → Kept n a b → Kept n b c → Kept n a c
  kept_trans a b c p q = record { within = within_trans a b c p.within q.within; first = λ k l. q.first k l ∙ p.first k l }

  -- a store past the first region and within the four
  pub kept_set : (w : List ℕ) (i x : ℕ) → n ≤ i → i < used n → Kept n w (set w i x)
  kept_set w i x l u = record {
    within = record { length_stays = length-set w i x; beyond = λ k a. get_or-set_other w i k x 0 (omega arith) };
    first = λ k a. get_or-set_other w i k x 0 (omega arith);
  }
