-- A store between the classes and the end of the work area keeps both, so what is asked of the classes still holds. Assumes nothing.
use mathlib.Core.Path.{◌≡◌, refl, sym, ap, ◌∙◌}
use mathlib.Core.Bool.{Bool, true, false}
use mathlib.Core.List.{List}
use Prim.Native.Nat.{ℕ, ◌%◌, ◌≤◌, ◌<◌}
use native.Mathlib.Omega.{arith}
use lib.Dec.{leb}
use lib.ListN.{set, length-set}
use lib.Seq.{get_or-set_other}
use Rattle.classes.specs.Area.{used, high, class_at, may_at}
use Rattle.numbering.specs.Work.{Ready, Kept}
use Rattle.numbering.specs.Rows.{possible}

pub kept_none : (n : ℕ) (w : List ℕ) → Kept n w w
kept_none n w = record { within = record { length_stays = refl; beyond = λ k l. refl }; classes_stay = λ k l. refl }

pub kept_trans : {n : ℕ} {a b c : List ℕ} → Kept n a b → Kept n b c → Kept n a c
kept_trans K L = record {
  within = record {
    length_stays = L.within.length_stays ∙ K.within.length_stays;
    beyond = λ k l. L.within.beyond k l ∙ K.within.beyond k l;
  };
  classes_stay = λ k l. L.classes_stay k l ∙ K.classes_stay k l;
}

pub kept_store : (n : ℕ) (w : List ℕ) (i v : ℕ) → n ≤ i → i < used n → Kept n w (set w i v)
kept_store n w i v a b = record {
  within = record { length_stays = length-set w i v; beyond = λ k l. get_or-set_other w i k v 0 (omega arith) };
  classes_stay = λ k l. get_or-set_other w i k v 0 (omega arith);
}

module _ (n : ℕ) (w w' : List ℕ) (K : Kept n w w') (h : ℕ) (l : h < n) where
  pub class_stays : class_at w' h ≡ class_at w h
  class_stays = ap (λ z. z % high) (K.classes_stay h l)

  pub may_stays : may_at w' h ≡ may_at w h
  may_stays = ap (leb high) (K.classes_stay h l)

  pub possible_stays : (o : Bool) → possible w' h o ≡ possible w h o
  possible_stays true = refl
  possible_stays false = may_stays

pub ready_kept : (n : ℕ) (w w' : List ℕ) → Kept n w w' → Ready n w → Ready n w'
ready_kept n w w' K R = record {
  no_greater = λ h l. omega (arith, stays h l, R.no_greater h l);
  own_class = λ h l.
      ap (class_at w') (stays h l) ∙ stays (class_at w h) (omega (arith, R.no_greater h l)) ∙ R.own_class h l ∙ sym (stays h l);
}
  where
    stays : (h : ℕ) → h < n → class_at w' h ≡ class_at w h
    stays = class_stays n w w' K
