-- The promises of a verdict, of a turn and of what is said of a lost one allow one result: a refusal is the row that holds, kept and lost exclude each other, and a pattern is lost at one job by one limit, whose earliest broken window is one. Assumes nothing.
use mathlib.Core.Path.{◌≡◌, refl, sym, ap, ap₂, ◌∙◌, subst}
use mathlib.Core.Bool.{Bool, true, false}
use mathlib.Core.List.{List}
use Prim.Native.Nat.{ℕ, ◌+◌}
use native.Mathlib.Omega.{arith}
use lib.IntN.{ℤ, pos, ◌-ℤ◌}
use Rattle.std.specs.Prelude.{Option, Some, None, Result, Ok, Err}
use Rattle.layout.specs.declared.Refused.{Refused}
use Rattle.layout.specs.Refusal.{Row}
use Rattle.layout.proofs.Refusals.{same_answer}
use Rattle.patterns.specs.Outcome.{outcomes}
use Rattle.meaning.specs.declared.LimitSet.{LimitSet}
use Rattle.meaning.specs.Sets.{rule_at}
use Rattle.meaning.proofs.Unique.{kept_not_lost, lost_job, lost_limit}
use Rattle.meaning.proofs.Earliest.{lost_from_one}
use Rattle.sets.specs.Bytes.{set_of}
use Rattle.history.proofs.OneResult.{blocks_one_result, reaches_one_result}
use Rattle.verdict.specs.declared.Loss.{Loss}
use Rattle.verdict.specs.Turn.{Turned, SaysLost}
use Rattle.verdict.specs.Judge.{Verdict, JudgedBy, judge_rows, JudgedAs}

abbrev loss : ℕ → ℕ → ℤ → Loss
loss job limit first = record { job = job; limit = limit; first = first }

-- kept and lost exclude each other
pub judge_each_one_result : (s : LimitSet) (p : List Bool) (x y : Option Loss) → Verdict s p (Ok x) → Verdict s p (Ok y) → x ≡ y
judge_each_one_result s p None None v w = refl
judge_each_one_result s p None (Some l) v (w, _) = absurd (kept_not_lost s p l.job l.limit v w)
judge_each_one_result s p (Some k) None (v, _) w = absurd (kept_not_lost s p k.job k.limit w v)
judge_each_one_result s p (Some k) (Some l) v w =
    let job = lost_job s p k.job k.limit l.job l.limit v.0 w.0 in
    let limit = lost_limit s p k.job k.limit l.job l.limit v.0 w.0 in
    let first = lost_from_one s p k.job k.limit k.first l.job l.limit l.first v w in
    ap Some (ap (λ z. loss z k.limit k.first) job ∙ ap₂ (loss l.job) limit first)

pub judged_one_result : (rows : List Row) (s : LimitSet) (p : List Bool) (r t : Result (Option Loss) Refused) → JudgedBy rows s p r → JudgedBy rows s p t → r ≡ t
judged_one_result rows s p r t a b =
    same_answer r t (a.refusal ∙ sym b.refusal) (λ x y e f. judge_each_one_result s p x y (subst (Verdict s p) e a.verdict) (subst (Verdict s p) f b.verdict))

pub judge_one_result : (widest : ℕ) (set pattern : List ℕ) (r t : Result (Option Loss) Refused) → JudgedAs widest set pattern r → JudgedAs widest set pattern t → r ≡ t
judge_one_result widest set pattern = judged_one_result (judge_rows widest set pattern) (set_of set) (outcomes pattern)

pub take_turn_one_result : (s : LimitSet) (h : ℕ) (o : Bool) (r t : Result ℕ ℕ) → Turned s h o r → Turned s h o t → r ≡ t
take_turn_one_result s h true (Ok a) (Ok b) p q = ap Ok (p ∙ sym q)
take_turn_one_result s h true (Ok a) (Err b) p q = absurd q
take_turn_one_result s h true (Err a) t p q = absurd p
take_turn_one_result s h false (Ok a) (Ok b) (_, p) (_, q) = ap Ok (p ∙ sym q)
take_turn_one_result s h false (Ok a) (Err b) (p, _) (q, l) = absurd (omega (arith, blocks_one_result s h s.count b p q))
take_turn_one_result s h false (Err a) (Ok b) (p, l) (q, _) = absurd (omega (arith, blocks_one_result s h a s.count p q))
take_turn_one_result s h false (Err a) (Err b) (p, _) (q, _) = ap Err (blocks_one_result s h a b p q)

pub lost_by_one_result : (s : LimitSet) (h i n : ℕ) (r t : Loss) → SaysLost s h i n r → SaysLost s h i n t → r ≡ t
lost_by_one_result s h i n r t (a, p, e) (b, q, f) = e ∙ ap (λ z. loss (i + 1) n (pos (i + 1) -ℤ pos z)) (reaches_one_result (rule_at s n) h a b p q) ∙ sym f
