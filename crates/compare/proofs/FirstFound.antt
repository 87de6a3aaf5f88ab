-- Histories in blocks by their oldest miss are in the order of their patterns, so the first that splits two sets gives the first pattern between them, and where none does the first set covers the second. Assumes nothing.
use mathlib.Core.Path.{◌≡◌, sym, ap, ◌∙◌, subst}
use mathlib.Core.Logic.{dite}
use mathlib.Core.Bool.{Bool, false}
use mathlib.Core.List.{List, [], ◌∷◌, ◌++◌}
use Prim.Native.Nat.{ℕ, zero, suc, ◌+◌, ◌-◌, ◌/◌, ◌^◌, ◌≤◌, ◌<◌}
use native.Mathlib.Nat.{pow-suc}
use native.Mathlib.Decide.{dec_lt, dec_le}
use native.Mathlib.Omega.{arith}
use lib.Pow.{pow_mono}
use lib.ListN.{length}
use Rattle.patterns.specs.Number.{number, code}
use Rattle.patterns.proofs.Numbers.{length_snoc}
use Rattle.patterns.proofs.Codes.{code_snoc, code_shorter, no_later_code, no_later_length}
use Rattle.meaning.specs.declared.LimitSet.{LimitSet}
use Rattle.meaning.specs.Sets.{SetAllowed, KeptBy}
use Rattle.meaning.specs.Covers.{Covers, Between, FirstBetween}
use Rattle.meaning.proofs.Search.{kept_by_dec}
use Rattle.meaning.proofs.Witness.{short_witness}
use Rattle.history.specs.History.{history_of}
use Rattle.history.proofs.Histories.{history_lt}
use Rattle.compare.specs.Splits.{outcomes_of, Splits}
use Rattle.compare.proofs.Outcomes.{outcomes_length, outcomes_number, history_short, outcomes_history_short}
use Rattle.compare.proofs.Parting.{Parts, parts_split, split_between, parting}

smaller_power : (a b : ℕ) → 2 ^ a < 2 ^ b → a < b
smaller_power a b h = dite (dec_lt a b) (λ l. l) (λ n. absurd (omega (arith, pow_mono {i = b} {j = a} (omega arith))))

-- none of the histories from high on splits the sets
abbrev pub NoneFrom : (a b : LimitSet) (m high : ℕ) → Type 0
NoneFrom a b m high = (s : ℕ) → high ≤ s → s < 2 ^ m → Splits a b m s → ⊥

-- the block of the histories whose oldest miss has n - 1 outcomes after it: from low up to high
pub record Block (m n low high : ℕ) : Type 0 where
  pub begins : low + 2 ^ n ≡ 2 ^ m
  pub ends : high + 2 ^ n / 2 ≡ 2 ^ m

pub block_is : (m n all size : ℕ) → n ≤ m → all ≡ 2 ^ m → size ≡ 2 ^ n → Block m n (all - size) (all - size / 2)
block_is m n all size l e f = let p = pow_mono {i = n} {j = m} l in record { begins = omega arith; ends = omega arith }

-- the blocks stand one before the other, and the last of them begins with history 0
pub none_before : (a b : LimitSet) (m n low high : ℕ) → Block m n low high → ((h : ℕ) → low ≤ h → h < high → Splits a b m h → ⊥) → NoneFrom a b m (2 ^ m - 2 ^ n / 2) → NoneFrom a b m (2 ^ m - 2 ^ suc n / 2)
none_before a b m n low high block none later s from below =
    let p = pow-suc 2 n in
    let e = block.begins in
    let f = block.ends in
    dite (dec_lt s high) (λ l. none s (omega arith) l) (λ l. later s (omega arith) below)

pub none_at_all : (a b : LimitSet) (m : ℕ) → NoneFrom a b m (2 ^ m - 2 ^ suc m / 2) → NoneFrom a b m 0
none_at_all a b m none s from below = let p = pow-suc 2 m in none s (omega arith) below

module _ (a b : LimitSet) (m : ℕ) (oka : SetAllowed (suc m) a) (okb : SetAllowed (suc m) b) where
  -- a history below the end of a block has at least as many outcomes from its oldest miss on
  at_least : (n low high : ℕ) → Block m n low high → (q : List Bool) → (s : ℕ) → s + 2 ^ length q ≡ 2 ^ m + number q → s < high → n ≤ length q
  at_least zero low high block q s f l = omega arith
  at_least (suc n) low high block q s f l = let p = pow-suc 2 n in let e = block.ends in smaller_power n (length q) (omega arith)

  module _ (n low high h : ℕ) (fits : n ≤ m) (block : Block m n low high) (from : low ≤ h) (below : h < high) where
    -- the pattern from the oldest miss on
    abbrev q : List Bool
    q = outcomes_of n (h - low)

    q_length : length q ≡ n
    q_length = outcomes_length n (h - low)

    q_number : number q ≡ h - low
    q_number = outcomes_number n (h - low) (omega (arith, block.begins, block.ends))

    q_history : history_of m q ≡ h
    q_history = omega (arith, history_short m q (omega (arith, q_length)), q_number, ap (λ z. 2 ^ z) q_length, block.begins)

    q_outcomes : outcomes_of n h ≡ q
    q_outcomes =
        ap (outcomes_of n) (sym q_history)
        ∙ ap (λ z. outcomes_of z (history_of m q)) (sym q_length)
        ∙ outcomes_history_short m q (omega (arith, q_length))

    module _ (none : NoneFrom a b m (2 ^ m - 2 ^ n / 2)) (before : (s : ℕ) → low ≤ s → s < h → Splits a b m s → ⊥) where
      -- a pattern that parts the sets is no earlier
      later_short : (r : List Bool) → length r ≤ m → Parts a b m oka okb r → code q ≤ code r
      later_short r short p =
          let s = history_of m r in
          let sp = parts_split a b m oka okb r short p in
          let e = history_short m r short in
          dite (dec_lt s high) (λ l.
          let g = at_least n low high block r s e l in
          dite (dec_lt n (length r)) (λ o. omega (arith, code_shorter q r (omega (arith, q_length)))) (λ o.
          let same : length r ≡ n = omega arith in
          dite (dec_lt s h) (λ u. absurd (before s (omega (arith, ap (λ z. 2 ^ z) same, block.begins)) u sp)) (λ u.
          omega (arith, q_number, ap (λ z. 2 ^ z) same, ap (λ z. 2 ^ z) q_length, block.begins))))
          (λ l. absurd (none s (omega (arith, block.ends)) (history_lt m r) sp))

      later : (r : List Bool) → Parts a b m oka okb r → code q ≤ code r
      later r p =
          dite (dec_le (length r) m) (λ l. later_short r l p) (λ l. omega (arith, code_shorter q r (omega (arith, q_length))))

      pub first_found : Splits a b m h → FirstBetween a b (outcomes_of n h ++ false ∷ [])
      first_found s =
          subst (λ z. FirstBetween a b (z ++ false ∷ [])) (sym q_outcomes) (record {
            between = split_between a b m oka okb q (omega (arith, q_length)) (subst (λ z. Splits a b m z) (sym q_history) s);
            none_earlier = λ p w.
                let (r, parts, earlier) = parting a b m oka okb p w in
                (no_later_code (q ++ false ∷ []) p).1
                (omega (arith, later r parts, code_snoc q false, code_snoc r false, (no_later_code (r ++ false ∷ []) p).0 earlier));
          })

  -- where no history splits the sets, the first covers the second
  pub none_covers : NoneFrom a b m 0 → Covers a b
  none_covers none p ka = go (kept_by_dec b p)
    where
      no_witness : Between a b p → ⊥
      no_witness w =
          let (v, between, short) = short_witness a b (suc m) p okb w in
          let (r, parts, earlier) = parting a b m oka okb v between in
          let fits : length r ≤ m = omega (arith, no_later_length (r ++ false ∷ []) v earlier, length_snoc r false) in
          none (history_of m r) (omega arith) (history_lt m r) (parts_split a b m oka okb r fits parts)

      go : Dec (KeptBy b p) → KeptBy b p
      go (yes k) = k
      go (no n) = absurd (no_witness (ka, n))
