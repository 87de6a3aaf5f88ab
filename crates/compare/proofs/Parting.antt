-- Where two sets part. A history that splits them gives a pattern between them, and every pattern between them has a beginning whose history splits them. Assumes nothing.
use mathlib.Core.Path.{◌≡◌, sym, ◌∙◌, subst}
use mathlib.Core.Bool.{Bool, false}
use mathlib.Core.List.{List, [], ◌∷◌, ◌++◌, append_assoc, append-nil}
use Prim.Native.Nat.{ℕ, suc, ◌-◌, ◌≤◌}
use native.Mathlib.Omega.{arith}
use lib.Dec.{T}
use lib.ListN.{length, length-append}
use Rattle.patterns.specs.Order.{NoLater, same, shorter}
use Rattle.meaning.specs.declared.LimitSet.{LimitSet}
use Rattle.meaning.specs.Sets.{SetAllowed, KeptBy}
use Rattle.meaning.specs.Covers.{Between}
use Rattle.meaning.proofs.SetLaws.{kept_by_empty, kept_by_prefix}
use Rattle.meaning.proofs.Decide.{T_true, T_of, not_T_false}
use Rattle.meaning.proofs.Search.{first_loss}
use Rattle.history.specs.History.{history_of}
use Rattle.history.proofs.MissLaws.{may_miss_kept}
use Rattle.compare.specs.Splits.{Splits}
use Rattle.compare.proofs.Outcomes.{outcomes_history}
use Rattle.compare.proofs.Back.{kept_by_hits_before, kept_by_after_hits}

beginning_no_later : (q rest : List Bool) → NoLater q (q ++ rest)
beginning_no_later q [] = same (sym (append-nil q))
beginning_no_later q (o ∷ rest) = shorter (omega (arith, length-append q (o ∷ rest)))

module _ (a b : LimitSet) (m : ℕ) (oka : SetAllowed (suc m) a) (okb : SetAllowed (suc m) b) where
  -- one miss after q is kept under a and not under b
  pub record Parts (q : List Bool) : Type 0 where
    pub under_first : KeptBy a (q ++ false ∷ [])
    pub kept_second : KeptBy b q
    pub lost_second : KeptBy b (q ++ false ∷ []) → ⊥

  pub parts_split : (q : List Bool) → length q ≤ m → Parts q → Splits a b m (history_of m q)
  parts_split q short p =
      let k = kept_by_prefix a q (false ∷ []) p.under_first in
      record {
        first_may = T_true _ ((may_miss_kept m q a oka k).1 p.under_first);
        second_may_not = not_T_false _ (λ t. p.lost_second ((may_miss_kept m q b okb p.kept_second).0 t));
        first_keeps = subst (λ z. KeptBy a z) (sym (outcomes_history m q short)) (kept_by_hits_before a (m - length q) q k);
      }

  pub split_between : (q : List Bool) → length q ≤ m → Splits a b m (history_of m q) → Between a b (q ++ false ∷ [])
  split_between q short s =
      let k = kept_by_after_hits a (m - length q) q (subst (λ z. KeptBy a z) (outcomes_history m q short) s.first_keeps) in (
        (may_miss_kept m q a oka k).0 (T_of _ s.first_may),
        λ n. subst (λ z. T z) s.second_may_not ((may_miss_kept m q b okb (kept_by_prefix b q (false ∷ []) n)).1 n),
      )

  -- every pattern between the sets has a beginning that parts them
  pub parting : (p : List Bool) → Between a b p → (q : List Bool) × Parts q × NoLater (q ++ false ∷ []) p
  parting p (ka, nb) =
      let (q, rest, e, kq, lq) = first_loss b [] p (kept_by_empty b (suc m) okb) nb in
      let f : p ≡ (q ++ false ∷ []) ++ rest = e ∙ sym (append_assoc q (false ∷ []) rest) in
      let kaq = kept_by_prefix a (q ++ false ∷ []) rest (subst (λ z. KeptBy a z) f ka) in (
        q,
        record { under_first = kaq; kept_second = kq; lost_second = lq },
        subst (λ z. NoLater (q ++ false ∷ []) z) (sym f) (beginning_no_later (q ++ false ∷ []) rest),
      )
