-- Demand 2: "A pattern is kept exactly when, with endless met jobs before and after it, every window of every limit holds. The verdict, the table walked from its first state and the comparison of two sets answer by this alone. The guard, on the table built from a set, says panic exactly when the outcomes so far are kept and one more miss would make them not kept."
-- The first sentence is the definition `KeptBy` of `meaning`; here is what the entries answer by it. Assumes nothing.
use mathlib.Core.Path.{◌≡◌, refl, sym, ap, ap₂, ◌∙◌, subst}
use mathlib.Core.Logic.{◌↔◌}
use mathlib.Core.Option.{some}
use mathlib.Core.Bool.{Bool, true, false}
use mathlib.Core.List.{List, [], ◌∷◌, ◌++◌}
use Prim.Native.Nat.{ℕ, suc, ◌+◌, ◌-◌, ◌≤◌, ◌<◌}
use native.Mathlib.Omega.{arith}
use lib.IntN.{ℤ, pos, ◌+ℤ◌}
use lib.ListN.{length, replicate}
use lib.ListN.{set as set_guard}
use lib.Seq.{set-get_or}
use Rattle.std.specs.Prelude.{⊤, Option, Some, None, Result, Ok, Err}
use Rattle.layout.specs.declared.Refused.{Refused}
use Rattle.layout.specs.Refusal.{Row, Tested, passed, refused, first}
use Rattle.layout.specs.Refused.{says}
use Rattle.layout.proofs.Rows.{passed_not_refused, both_passed as all_passed}
use Rattle.patterns.specs.Outcome.{outcome, outcomes}
use Rattle.machines.specs.Machine.{walk, Can}
use Rattle.meaning.specs.declared.LimitSet.{LimitSet}
use Rattle.meaning.specs.Longest.{longest}
use Rattle.meaning.specs.Window.{recent}
use Rattle.meaning.specs.Limit.{width}
use Rattle.meaning.specs.Sets.{SetAllowed, KeptBy, rule_at}
use Rattle.meaning.specs.Broken.{LostFrom}
use Rattle.meaning.specs.Covers.{FirstBetween}
use Rattle.meaning.specs.Covers as meant
use Rattle.meaning.proofs.Unique.{kept_not_lost, lost_job, lost_limit, first_between_unique}
use Rattle.meaning.proofs.Earliest.{lost_from_one, lost_in_window}
use Rattle.meaning.proofs.Witness.{first_between_short}
use Rattle.sets.specs.Bytes.{set_of}
use Rattle.sets.specs.Rows.{set_rows}
use Rattle.sets.proofs.Accepted.{accepted_allowed}
use Rattle.verdict.specs.declared.Loss.{Loss}
use Rattle.verdict.specs.Judge.{pattern_rows, judge_rows, Verdict, JudgedBy, JudgedAs}
use Rattle.night_log.specs.Bytes.{outcomes_of}
use Rattle.night_log.specs.Rows.{log_rows}
use Rattle.night_log.specs.Judge.{log_judge_rows, LogJudgedAs}
use Rattle.compare.specs.declared.Pattern.{Pattern}
use Rattle.compare.specs.declared.RefusedSet.{RefusedSet}
use Rattle.compare.specs.Compare.{packed, BothTested, both_passed, in_turn, says as compare_says, Answers, ComparedAs}
use Rattle.compare.proofs.Packing.{packed_injective}
use Rattle.table.specs.Bytes.{machine_of}
use Rattle.guard.specs.declared.Guard.{Guard}
use Rattle.guard.specs.declared.Answer.{Answer}
use Rattle.guard.specs.declared.Answer.TheVariants as answer
use Rattle.guard.specs.Guard.{most_told, standing, fresh, StartedAs, AskedAs, tell_rows, told_when, ToldAs}
use Rattle.guard.specs.Told.{told_all, heard}
use Rattle.guard.specs.Row.{guard_at, RowStartedAs, RowAskedAs}
use Rattle.guard.specs.Runs.{RowCall, RowRun, calls_of, OnTable, bytes_told}
use Rattle.guard.proofs.Walked.{told_then}
use Rattle.guard.proofs.Alone.{own_ask, started_job}
use Rattle.carry.specs.Bytes.{old_carried, carried, size_of}
use Rattle.carry.specs.Rows.{wider}
use Rattle.carry.specs.Read.{guard_in, ReadBackAs}
use Rattle.demands.specs.TableOf.{TableOf}
use Rattle.demands.specs.Judging.{lost_at}
use Rattle.demands.specs.Guarding.{ByKept}
use Rattle.demands.specs.Carrying.{Changed, Event, tells, Through, told_in, old_record_of, Alike}
use Rattle.demands.proofs.Tables.{made_walks_kept}
use Rattle.demands.proofs.Guarded.{answers_by_meaning, heeded_kept, kept_not_lost as guard_not_lost, counts_heard, holds_recent, hits_bring_to_0, lost_state}
use Rattle.demands.proofs.Through.{LedThere, change_gives_back, change_can_be_had, through_told, led_from_start, through_cut, events_cut}
use Rattle.demands.proofs.OldRecords.{asked_alike, old_record_gives, old_record_goes_on}
use Rattle.demands.proofs.Answers.{both_accepted}

-- A verdict says kept exactly when the rows before it are passed and the set keeps the outcomes, and lost, with the job, the limit and the first job of the window, exactly as that is meant.
module _ (rows : List Row) (s : LimitSet) (p : List Bool) (r : Result (Option Loss) Refused) (judged : JudgedBy rows s p r) where
  judged_kept : (r ≡ Ok None) ↔ ((first rows ≡ passed) × KeptBy s p)
  judged_kept = (
    λ e. (sym judged.refusal ∙ ap says e, subst (Verdict s p) e judged.verdict),
    λ (a, k). go r (judged.refusal ∙ a) judged.verdict k,
  )
    where
      go : (r : Result (Option Loss) Refused) → says r ≡ passed → Verdict s p r → KeptBy s p → r ≡ Ok None
      go (Ok None) e v k = refl
      go (Ok (Some l)) e v k = absurd (kept_not_lost s p l.job l.limit k v.0)
      go (Err why) e v k = absurd (passed_not_refused (sym e))

  judged_lost : (j i : ℕ) (from : ℤ) → (r ≡ lost_at j i from) ↔ ((first rows ≡ passed) × LostFrom s p j i from)
  judged_lost j i from = (
    λ e. (sym judged.refusal ∙ ap says e, subst (Verdict s p) e judged.verdict),
    λ (a, l). go r (judged.refusal ∙ a) judged.verdict l,
  )
    where
      go : (r : Result (Option Loss) Refused) → says r ≡ passed → Verdict s p r → LostFrom s p j i from → r ≡ lost_at j i from
      go (Ok None) e v l = absurd (kept_not_lost s p j i v l.0)
      go (Ok (Some x)) e v l =
          let same_job = lost_job s p x.job x.limit j i v.0 l.0 in
          let same_limit = lost_limit s p x.job x.limit j i v.0 l.0 in
          let same_window = lost_from_one s p x.job x.limit x.first j i from v l in
          ap₂ {C = Result (Option Loss) Refused} (λ a b. lost_at a b x.first) same_job same_limit ∙ ap (lost_at j i) same_window
      go (Err why) e v l = absurd (passed_not_refused (sym e))

  -- the losing job is one of the window that is said, so the window begins with it or fewer jobs before it than a window has
  judged_window : (first rows ≡ passed → SetAllowed longest s) → (j i : ℕ) (from : ℤ) → r ≡ lost_at j i from → (n : ℕ) × (n < width (rule_at s i)) × (from +ℤ pos n ≡ pos j)
  judged_window allowed j i from e =
      let (tested, (at, window)) = (judged_lost j i from).0 e in
      lost_in_window longest s (allowed tested) p j i at from window

-- The verdict on a pattern: the set is accepted, and the outcomes are 0 and 1 and not too many.
module _ (set pattern : List ℕ) (r : Result (Option Loss) Refused) (judged : JudgedAs longest set pattern r) where
  pub verdict_kept : (r ≡ Ok None) ↔ ((first (judge_rows longest set pattern) ≡ passed) × KeptBy (set_of set) (outcomes pattern))
  verdict_kept = judged_kept (judge_rows longest set pattern) (set_of set) (outcomes pattern) r judged

  pub verdict_lost : (j i : ℕ) (from : ℤ) → (r ≡ lost_at j i from) ↔ ((first (judge_rows longest set pattern) ≡ passed) × LostFrom (set_of set) (outcomes pattern) j i from)
  verdict_lost = judged_lost (judge_rows longest set pattern) (set_of set) (outcomes pattern) r judged

  pub verdict_window : (j i : ℕ) (from : ℤ) → r ≡ lost_at j i from → (n : ℕ) × (n < width (rule_at (set_of set) i)) × (from +ℤ pos n ≡ pos j)
  verdict_window =
      judged_window (judge_rows longest set pattern) (set_of set) (outcomes pattern) r judged
      (λ t. accepted_allowed longest set (all_passed (set_rows longest set) (pattern_rows pattern) t).0)

-- The verdict on a night log: the set is accepted and the bytes are a log.
module _ (set log : List ℕ) (r : Result (Option Loss) Refused) (judged : LogJudgedAs longest set log r) where
  pub log_verdict_kept : (r ≡ Ok None) ↔ ((first (log_judge_rows longest set log) ≡ passed) × KeptBy (set_of set) (outcomes_of log))
  log_verdict_kept = judged_kept (log_judge_rows longest set log) (set_of set) (outcomes_of log) r judged

  pub log_verdict_lost : (j i : ℕ) (from : ℤ) → (r ≡ lost_at j i from) ↔ ((first (log_judge_rows longest set log) ≡ passed) × LostFrom (set_of set) (outcomes_of log) j i from)
  log_verdict_lost = judged_lost (log_judge_rows longest set log) (set_of set) (outcomes_of log) r judged

  pub log_verdict_window : (j i : ℕ) (from : ℤ) → r ≡ lost_at j i from → (n : ℕ) × (n < width (rule_at (set_of set) i)) × (from +ℤ pos n ≡ pos j)
  log_verdict_window =
      judged_window (log_judge_rows longest set log) (set_of set) (outcomes_of log) r judged
      (λ t. accepted_allowed longest set (all_passed (set_rows longest set) (log_rows log) t).0)

-- The comparison says yes exactly when both sets are accepted and the first covers the second, and else its pattern is exactly the first one between them, of no more jobs than the longest window.
module _ (a b : List ℕ) (r : Result (Option Pattern) RefusedSet) (compared : ComparedAs longest a b r) where
  abbrev tests : BothTested
  tests = in_turn (first (set_rows longest a)) (first (set_rows longest b))

  pub comparison_covers : (r ≡ Ok None) ↔ ((tests ≡ both_passed) × meant.Covers (set_of a) (set_of b))
  comparison_covers = (
    λ e. (sym compared.refusal ∙ ap compare_says e, subst (Answers (set_of a) (set_of b)) e compared.answer),
    λ (p, c). go r (compared.refusal ∙ p) compared.answer c,
  )
    where
      go : (x : Result (Option Pattern) RefusedSet) → compare_says x ≡ both_passed → Answers (set_of a) (set_of b) x → meant.Covers (set_of a) (set_of b) → x ≡ Ok None
      go (Ok None) e v c = refl
      go (Ok (Some w)) e (q, f, g) c = absurd (f.between.1 (c q f.between.0))
      go (Err why) e v c = let z : ◌≡◌ {A = ℕ} 0 1 = cc in absurd (omega arith)

  pub comparison_between : (q : List Bool) → (r ≡ Ok (Some (packed q))) ↔ ((tests ≡ both_passed) × FirstBetween (set_of a) (set_of b) q × (length q ≤ longest))
  comparison_between q = (
    λ e.
        let p = sym compared.refusal ∙ ap compare_says e in
        let (s, f, g) = subst (Answers (set_of a) (set_of b)) e compared.answer in
        let h : FirstBetween (set_of a) (set_of b) q = subst (FirstBetween (set_of a) (set_of b)) (packed_injective s q (sym g)) f in
        (p, h, first_between_short (set_of a) (set_of b) longest q (accepted_allowed longest b (both_accepted (first (set_rows longest a)) (first (set_rows longest b)) p).1) h),
    λ (p, f, l). go r (compared.refusal ∙ p) compared.answer f,
  )
    where
      go : (x : Result (Option Pattern) RefusedSet) → compare_says x ≡ both_passed → Answers (set_of a) (set_of b) x → FirstBetween (set_of a) (set_of b) q → x ≡ Ok (Some (packed q))
      go (Ok None) e c f = absurd (f.between.1 (c q f.between.0))
      go (Ok (Some w)) e (s, h, g) f = ap (λ z. Ok (Some z)) (g ∙ ap packed (first_between_unique (set_of a) (set_of b) s q h f))
      go (Err why) e v f = let z : ◌≡◌ {A = ℕ} 0 1 = cc in absurd (omega arith)

-- The table walked from its first state walks exactly what the set keeps.
pub table_walks_kept : (set b : List ℕ) → TableOf set b → (p : List Bool) → Can (machine_of b) 0 p ↔ KeptBy (set_of set) p
table_walks_kept = made_walks_kept

-- A guard that start gave on that table, told any bytes, refused ones too, and through changes of the battery, any number of them and anywhere: "outcomes so far" are those told before a change and after it. (An ask gives the guard back unchanged, so asks may stand between: `AskedAs`.)
module _ (set b : List ℕ) (t : TableOf set b) (began : Result ⊤ Refused) (s : Guard) (started : StartedAs b began s) (events : List Event) (g : Guard) (run : Through set b s events g) where
  abbrev told : List ℕ
  told = told_in events

  from_fresh : Through set b fresh events g
  from_fresh = subst (λ z. Through set b z events g) started.guard run

  is_told : g ≡ told_all b fresh told
  is_told = through_told set b t fresh (led_from_start set b t []) events g from_fresh

  -- It is the guard that was told the same and never switched off.
  pub as_never_switched_off : g ≡ told_all b s told
  as_never_switched_off = is_told ∙ ap (λ z. told_all b z told) (sym started.guard)

  -- One change more gives back the guard that was written, field for field; and with room for the record there is one.
  pub change_gives_same : (r : Result Guard Refused) → Changed set b g r → r ≡ Ok g
  change_gives_same = rw is_told (change_gives_back set b t (told_all b fresh told) (led_from_start set b t told))

  pub change_is_possible : (out : List ℕ) → size_of carried set ≤ length out → Changed set b g (Ok g)
  change_is_possible = rw is_told (change_can_be_had set b t (told_all b fresh told) (led_from_start set b t told))

  -- It says panic exactly when the outcomes heard are kept and one more miss would make them not kept; normal where they are kept then too, lost where they aren't kept.
  pub guard_answers : (r : Result Answer Refused) (g' : Guard) → AskedAs b g r g' → ByKept (set_of set) (heard told) r
  guard_answers r g' asked = answers_by_meaning set b t told r g' (subst (λ z. AskedAs b z r g') is_told asked)

  -- While every panic job is met, no limit is broken: if wherever ask said panic the next outcome told was a hit, the outcomes heard are kept and the guard isn't lost. (A byte that is refused isn't an outcome told, and isn't a miss.)
  pub met_panics_keep : ((before after : List Event) (byte : ℕ) (h : Guard) (r : Result Answer Refused) (h' : Guard) → events ≡ before ++ (tells byte ∷ after) → Through set b s before h → AskedAs b h r h' → r ≡ Ok answer.Panic → outcome byte ≡ true)
      → KeptBy (set_of set) (heard told) × (g.lost ≡ false)
  met_panics_keep met =
      let k = heeded_kept set b t told in_bytes in
      (k, ap (λ z. z.lost) is_told ∙ guard_not_lost set b t told k)
    where
      in_bytes : (before after : List ℕ) (byte : ℕ) (r : Result Answer Refused) (h' : Guard) → told ≡ before ++ (byte ∷ after) → AskedAs b (told_all b fresh before) r h' → r ≡ Ok answer.Panic → outcome byte ≡ true
      in_bytes before after byte r h' e asked panic =
          let (es, fs, p, q) = events_cut events before after byte e in
          let (h, cut) = through_cut set b s es (tells byte ∷ fs) g (subst (λ z. Through set b s z g) p run) in
          let stood : h ≡ told_all b fresh before = through_told set b t fresh (led_from_start set b t []) es h (subst (λ z. Through set b z es h) started.guard cut) ∙ ap (told_all b fresh) q in
          met es fs byte h r h' p cut (subst (λ z. AskedAs b z r h') (sym stood) asked) panic

  -- It counts the outcomes heard, lost or not, and holds the last of them, one job less than the longest window, unless it is lost.
  pub guard_counts : g.count ≡ length (heard told)
  guard_counts = ap (λ z. z.count) is_told ∙ counts_heard set b t told

  pub guard_holds : g.lost ≡ false → g.outcomes ≡ recent (heard told) (longest - 1)
  guard_holds = rw is_told (holds_recent set b t told)

  -- As many hits bring a guard that isn't lost back to state 0, holding hits alone, as start gave it but for the count.
  pub hits_bring_back : g.lost ≡ false → g.count + (longest - 1) ≤ most_told → told_all b g (replicate (longest - 1) 1) ≡ standing 0 (replicate (longest - 1) true) (g.count + (longest - 1))
  hits_bring_back e room =
      let h = longest - 1 in
      let same = ap (λ z. z.count) is_told in
      ap (λ z. told_all b z (replicate h 1)) is_told
      ∙ sym (told_then b fresh told (replicate h 1))
      ∙ hits_bring_to_0 set b t told (sym (ap (λ z. z.lost) is_told) ∙ e) (subst (λ n. n + h ≤ most_told) same room)
      ∙ ap (λ n. standing 0 (replicate h true) (n + h)) (sym same)

  -- Where the outcomes heard are q, a miss that loses them and any others r, the guard is lost, in the state where q leads, and holds the last of q.
  pub lost_keeps_state : (q r : List Bool) → heard told ≡ q ++ (false ∷ r) → KeptBy (set_of set) q → (KeptBy (set_of set) (q ++ false ∷ []) → ⊥)
      → (g.lost ≡ true) × (walk (machine_of b) 0 q ≡ some g.state) × (g.outcomes ≡ recent q (longest - 1))
  lost_keeps_state = rw is_told (lost_state set b t told)

  -- A record of version 1 with its last eleven outcomes, of a set whose windows have at most twelve jobs: read back, it is accepted, and after any later tells and changes an ask says of all outcomes heard, before and after, what it says of them without a change.
  module _ (narrow : wider (suc old_carried) (set_of set) ≡ false) (back : Result Guard Refused) (read : ReadBackAs longest carried (old_record_of set g) b back) where
    led : LedThere set b t g
    led = rw is_told (led_from_start set b t told)

    pub old_record_accepted : back ≡ Ok (guard_in back)
    old_record_accepted = let e = old_record_gives set b t g led narrow back read in e ∙ ap {B = Result Guard Refused} Ok (sym (ap guard_in e))

    pub old_record_alike : (later : List Event) (h : Guard) → Through set b (guard_in back) later h → Alike (told_all b g (told_in later)) h
    old_record_alike = old_record_goes_on set b t g led narrow back read

    pub old_record_answers : (later : List Event) (h : Guard) → Through set b (guard_in back) later h → (r : Result Answer Refused) (h' : Guard) → AskedAs b h r h' → ByKept (set_of set) (heard (told ++ told_in later)) r
    old_record_answers later h through r h' asked =
        let never = told_all b fresh (told ++ told_in later) in
        let same : told_all b g (told_in later) ≡ never = ap (λ z. told_all b z (told_in later)) is_told ∙ sym (told_then b fresh told (told_in later)) in
        let alike = subst (λ z. Alike z h) same (old_record_alike later h through) in
        answers_by_meaning set b t (told ++ told_in later) r never (asked_alike b never h alike r h' asked)

-- Lost stays lost, on every table: a tell leaves it lost, in its state and with its outcomes, an ask gives it back; only start gives one that isn't, and a record that says so.
module _ (b : List ℕ) where
  pub told_lost_guard : (g : Guard) (byte : ℕ) (r : Result ⊤ Refused) (g' : Guard) → ToldAs b g byte r g' → g.lost ≡ true → (g'.lost ≡ true) × (g'.state ≡ g.state) × (g'.outcomes ≡ g.outcomes)
  told_lost_guard g byte r g' told e = subst (λ z. (z.lost ≡ true) × (z.state ≡ g.state) × (z.outcomes ≡ g.outcomes)) (sym told.guard) (go (first (tell_rows b g byte)))
    where
      go : (t : Tested) → let z = told_when t (machine_of b) g (outcome byte) in (z.lost ≡ true) × (z.state ≡ g.state) × (z.outcomes ≡ g.outcomes)
      go passed = rw e (refl, refl, refl)
      go (refused n v) = (e, refl, refl)

  pub asked_guard : (g : Guard) (r : Result Answer Refused) (g' : Guard) → AskedAs b g r g' → g' ≡ g
  asked_guard g r g' asked = asked.guard

  pub started_guard : (r : Result ⊤ Refused) (g : Guard) → StartedAs b r g → g.lost ≡ false
  started_guard r g started = ap (λ z. z.lost) started.guard

-- The row: a job that was started on that table, any calls on the row after it, of that job only asks and tells on that table, and then an ask. It hears what a single guard hears.
module _ (set b : List ℕ) (t : TableOf set b) (row started last : List Guard) (job : ℕ) (calls : List RowCall)
    (begin : RowStartedAs row job b (Ok tt) started) (run : RowRun started calls last) (on : OnTable b (calls_of job calls)) where
  pub row_answers : (a : Result Answer Refused) → RowAskedAs last job b a → ByKept (set_of set) (heard (bytes_told (calls_of job calls))) a
  row_answers a asked =
      let told = bytes_told (calls_of job calls) in
      let (inside, own) = started_job b row started last job calls begin run on in
      let g = guard_at last job in
      answers_by_meaning set b t told a g (subst (λ z. AskedAs b z a g) own (own_ask job last inside b a asked))

  -- A change of one job's guard gives that guard back, so a row whose guards are carried over one by one is the row that it was.
  pub row_change_gives_same : (r : Result Guard Refused) → Changed set b (guard_at last job) r → (h : Guard) × (r ≡ Ok h) × (set_guard last job h ≡ last)
  row_change_gives_same r changed =
      let told = bytes_told (calls_of job calls) in
      let own = (started_job b row started last job calls begin run on).1 in
      let same = change_gives_back set b t (told_all b fresh told) (led_from_start set b t told) r (subst (λ z. Changed set b z r) own changed) in
      (told_all b fresh told, same, ap (set_guard last job) (sym own) ∙ set-get_or last job fresh)
