-- Walking a history back: without its newest outcome, a hit more before it. A hit changes nothing, a miss asks that it could follow. Assumes nothing.
use mathlib.Core.Path.{◌≡◌, sym, ap, ◌∙◌, subst}
use mathlib.Core.Logic.{◌↔◌}
use mathlib.Core.Bool.{Bool, true, false}
use mathlib.Core.List.{List, [], ◌∷◌, ◌++◌, append-nil, reverse, reverse-append}
use Prim.Native.Nat.{ℕ, zero, suc, ◌+◌, ◌*◌, ◌/◌, ◌%◌, ◌^◌, ◌<◌}
use native.Mathlib.Nat.{pow-suc}
use native.Mathlib.Omega.{arith}
use borrow.Author.Tests.{eq-eqb, ne_eqb}
use lib.Dec.{T, eqb}
use lib.ListN.{replicate, length-replicate}
use Rattle.patterns.proofs.Numbers.{number_hits, number_injective}
use Rattle.meaning.specs.declared.LimitSet.{LimitSet}
use Rattle.meaning.specs.Sets.{SetAllowed, KeptBy}
use Rattle.meaning.proofs.SetLaws.{kept_by_empty, kept_by_part, kept_by_prefix, kept_by_hit, kept_by_hit_before}
use Rattle.meaning.proofs.Decide.{T_of}
use Rattle.history.specs.History.{history_of, newest}
use Rattle.history.specs.MayMiss.{may_miss}
use Rattle.history.proofs.Histories.{newest_top}
use Rattle.history.proofs.MissLaws.{may_miss_kept}
use Rattle.compare.specs.Splits.{outcomes_of}
use Rattle.compare.proofs.Outcomes.{outcomes_suc, outcomes_length, outcomes_number, history_short}

pub kept_by_hits_before : (s : LimitSet) (d : ℕ) (p : List Bool) → KeptBy s p → KeptBy s (replicate d true ++ p)
kept_by_hits_before s zero p k = k
kept_by_hits_before s (suc d) p k = kept_by_hit_before s (replicate d true ++ p) (kept_by_hits_before s d p k)

pub kept_by_after_hits : (s : LimitSet) (d : ℕ) (p : List Bool) → KeptBy s (replicate d true ++ p) → KeptBy s p
kept_by_after_hits s d p k = kept_by_part s (replicate d true) p [] (subst (λ z. KeptBy s (replicate d true ++ z)) (sym (append-nil p)) k)

module _ (s : LimitSet) (j : ℕ) (ok : SetAllowed (suc (suc j)) s) (h : ℕ) (small : h < 2 ^ suc j) where
  -- all but the newest outcome
  abbrev rest : List Bool
  rest = outcomes_of j (h / 2)

  half : h / 2 < 2 ^ j
  half = omega (arith, pow-suc 2 j)

  pub before_outcomes : outcomes_of (suc j) (h / 2 + 2 ^ j) ≡ true ∷ rest
  before_outcomes =
      let e : h / 2 + 2 ^ j ≡ 1 * 2 ^ j + h / 2 = omega arith in
      ap (outcomes_of (suc j)) e
      ∙ ap reverse (newest_top j (h / 2) true half)
      ∙ reverse-append (newest j (h / 2)) (true ∷ [])

  before_history : history_of (suc j) rest ≡ h / 2 + 2 ^ j
  before_history =
      let l = outcomes_length j (h / 2) in
      omega (arith, history_short (suc j) rest (omega arith), ap (λ z. 2 ^ z) l, pow-suc 2 j, outcomes_number j (h / 2) half)

  rest_kept : KeptBy s (outcomes_of (suc j) (h / 2 + 2 ^ j)) ↔ KeptBy s rest
  rest_kept = (
    λ k. kept_by_after_hits s 1 rest (subst (λ z. KeptBy s z) before_outcomes k),
    λ k. subst (λ z. KeptBy s z) (sym before_outcomes) (kept_by_hit_before s rest k),
  )

  newest_is : (o : Bool) → eqb (h % 2) 1 ≡ o → outcomes_of (suc j) h ≡ rest ++ o ∷ []
  newest_is o e = outcomes_suc j h ∙ ap {B = List Bool} (λ z. rest ++ z ∷ []) e

  back_hit : (h % 2 ≡ 0 → ⊥) → KeptBy s (outcomes_of (suc j) h) ↔ KeptBy s (outcomes_of (suc j) (h / 2 + 2 ^ j))
  back_hit n =
      let o : h % 2 ≡ 1 = omega arith in
      let e = newest_is true (eq-eqb (h % 2) 1 o) in (
        λ k. rest_kept.1 (kept_by_prefix s rest (true ∷ []) (subst (λ z. KeptBy s z) e k)),
        λ k. subst (λ z. KeptBy s z) (sym e) (kept_by_hit s rest (rest_kept.0 k)),
      )

  miss_is : h % 2 ≡ 0 → outcomes_of (suc j) h ≡ rest ++ false ∷ []
  miss_is z = newest_is false (ne_eqb (h % 2) 1 (λ o. omega arith))

  back_miss : h % 2 ≡ 0 → may_miss s (h / 2 + 2 ^ j) ≡ true → KeptBy s (outcomes_of (suc j) h) ↔ KeptBy s (outcomes_of (suc j) (h / 2 + 2 ^ j))
  back_miss z t =
      let e = miss_is z in (
        λ k. rest_kept.1 (kept_by_prefix s rest (false ∷ []) (subst (λ z. KeptBy s z) e k)),
        λ k. subst (λ z. KeptBy s z) (sym e) ((may_miss_kept (suc j) rest s ok (rest_kept.0 k)).0 (T_of _ (ap (may_miss s) before_history ∙ t))),
      )

  back_blocked : h % 2 ≡ 0 → may_miss s (h / 2 + 2 ^ j) ≡ false → KeptBy s (outcomes_of (suc j) h) → ⊥
  back_blocked z f k =
      let n : KeptBy s (rest ++ false ∷ []) = subst (λ z. KeptBy s z) (miss_is z) k in
      let t = (may_miss_kept (suc j) rest s ok (kept_by_prefix s rest (false ∷ []) n)).1 n in
      subst (λ z. T z) (ap (may_miss s) before_history ∙ f) t

-- the same of the `all` histories of m outcomes, where a miss is left in one: then m isn't 0
pub record WalkedBack (s : LimitSet) (m all h : ℕ) : Type 0 where
  pub within : h / 2 + all / 2 < 2 ^ m
  pub more : h < h / 2 + all / 2
  pub hit : (h % 2 ≡ 0 → ⊥) → KeptBy s (outcomes_of m h) ↔ KeptBy s (outcomes_of m (h / 2 + all / 2))
  pub miss : h % 2 ≡ 0 → may_miss s (h / 2 + all / 2) ≡ true → KeptBy s (outcomes_of m h) ↔ KeptBy s (outcomes_of m (h / 2 + all / 2))
  pub blocked : h % 2 ≡ 0 → may_miss s (h / 2 + all / 2) ≡ false → KeptBy s (outcomes_of m h) → ⊥

pub walked_back : (s : LimitSet) (m : ℕ) → SetAllowed (suc m) s → (all h : ℕ) → all ≡ 2 ^ m → h < 2 ^ m → (h + 1 ≡ all → ⊥) → WalkedBack s m all h
walked_back s zero ok all h e small n = absurd (n (omega arith))
walked_back s (suc j) ok all h e small n =
    let p = pow-suc 2 j in
    let half : 2 ^ j ≡ all / 2 = omega arith in
    record {
      within = omega arith;
      more = omega arith;
      hit = subst (λ k. (h % 2 ≡ 0 → ⊥) → KeptBy s (outcomes_of (suc j) h) ↔ KeptBy s (outcomes_of (suc j) (h / 2 + k))) half (back_hit s j ok h small);
      miss = subst (λ k. h % 2 ≡ 0 → may_miss s (h / 2 + k) ≡ true → KeptBy s (outcomes_of (suc j) h) ↔ KeptBy s (outcomes_of (suc j) (h / 2 + k))) half (back_miss s j ok h small);
      blocked = subst (λ k. h % 2 ≡ 0 → may_miss s (h / 2 + k) ≡ false → KeptBy s (outcomes_of (suc j) h) → ⊥) half (back_blocked s j ok h small);
    }

-- the history of hits alone is kept
pub all_hits_kept : (s : LimitSet) (m : ℕ) → SetAllowed (suc m) s → (h : ℕ) → h + 1 ≡ 2 ^ m → KeptBy s (outcomes_of m h)
all_hits_kept s m ok h e =
    let l = length-replicate m true in
    let f : outcomes_of m h ≡ replicate m true =
    number_injective (outcomes_of m h) (replicate m true) (outcomes_length m h ∙ sym l) (omega (arith, outcomes_number m h (omega arith), number_hits m)) in
    subst (λ z. KeptBy s z) (sym f) (subst (λ z. KeptBy s z) (append-nil (replicate m true)) (kept_by_hits_before s m [] (kept_by_empty s (suc m) ok)))
