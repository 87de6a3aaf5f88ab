-- The jobs of a row are independent over whole runs: what one job hears, and its record afterwards, are those of a single guard given that job's calls alone. By induction on the calls: a call of the job is the call on its guard, a call of another job leaves its record. Assumes nothing.
use mathlib.Core.Path.{◌≡◌, refl, sym, ap, ◌∙◌, subst}
use mathlib.Core.Logic.{dite}
use mathlib.Core.Bool.{Bool, false, cond, ◌||◌, true≢false}
use mathlib.Core.List.{List, [], ◌∷◌}
use Prim.Native.Nat.{ℕ, ◌<◌}
use native.Mathlib.Decide.{dec_lt, ℕ_discrete}
use native.Mathlib.Omega.{arith}
use borrow.Author.Tests.{eq-eqb, ne_eqb, le-leb}
use lib.Dec.{ltb}
use lib.ListN.{length, set, length-set}
use lib.Seq.{get_or-set_same}
use Rattle.std.specs.Prelude.{⊤, Result, Ok, Err}
use Rattle.layout.specs.declared.Refused.{Refused}
use Rattle.layout.specs.Refused.{says}
use Rattle.table.specs.Shared.{Tested, passed, refused, first, outcome, Machine}
use Rattle.table.specs.Bytes.{machine_of}
use Rattle.table.specs.Rows.{table_rows, look_rows}
use Rattle.table.proofs.Shared.{first_skip, passed_first, passed_not_refused}
use Rattle.guard.specs.declared.Guard.{Guard}
use Rattle.guard.specs.declared.Answer.{Answer}
use Rattle.guard.specs.Guard.{fresh, AskedAs, after, tell_rows, told_when, ToldAs}
use Rattle.guard.specs.Told.{told_all}
use Rattle.guard.specs.Row.{most_guards, guard_at, outside, job_row, ChangesOnly, row_started_when, RowStartedAs, RowAskedAs, row_told_when}
use Rattle.guard.specs.Runs.{Call, starts, asks, tells, taken, Run, RowCall, RowStep, RowRun, calls_of, OnTable, bytes_told}
use Rattle.guard.proofs.RowLaws.{others_stay_at_start, others_stay_at_tell}

pub inside_below : (count job : ℕ) → outside count job ≡ false → job < count
inside_below count job e = dite (dec_lt job count) (λ h. h) (λ h. absurd (true≢false (sym (ap (λ z. z || ltb most_guards count) (le-leb count job (omega arith))) ∙ e)))

-- a call of any job changes that job's record only
step_changes : (r : List Guard) (other : ℕ) (c : Call) (r' : List Guard) → RowStep r other c r' → ChangesOnly other r r'
step_changes r other (starts b a) r' s = others_stay_at_start r other b s
step_changes r other (asks b a) r' (s, w) = record { count = ap length w; others = λ k d. ap (λ z. guard_at z k) w }
step_changes r other (tells b byte a) r' s = others_stay_at_tell r other b byte s

pub run_count : (r : List Guard) (calls : List RowCall) (last : List Guard) → RowRun r calls last → length last ≡ length r
run_count r [] last w = ap length w
run_count r (c ∷ calls) last (r', s, rest) = run_count r' calls last rest ∙ (step_changes r c.job c.call r' s).count

module _ (job : ℕ) where
  module _ (r : List Guard) (e : outside (length r) job ≡ false) where
    pub own_ask : (b : List ℕ) (a : Result Answer Refused) → RowAskedAs r job b a → AskedAs b (guard_at r job) a (guard_at r job)
    own_ask b a asked = record { refusal = asked.refusal ∙ first_skip 14 0 (outside (length r) job) (look_rows b (guard_at r job).state) e; answer = asked.answer; guard = refl }

    -- a call of the job, seen from its own guard
    own_step : (c : Call) (r' : List Guard) → RowStep r job c r' → (calls : List Call) (h : Guard) → Run (guard_at r' job) calls h → Run (guard_at r job) (c ∷ calls) h
    own_step (starts b a) r' s calls h rest =
        let f = first_skip 14 0 (outside (length r) job) (table_rows b) e in
        let g = go a (first (table_rows b)) (s.refusal ∙ f) (s.row ∙ ap (λ t. row_started_when t r job) f) in
        (fresh, record { refusal = s.refusal ∙ f; guard = refl }, subst (λ z. Run z calls h) g rest)
      where
        go : (a : Result ⊤ Refused) (t : Tested) → says a ≡ t → r' ≡ row_started_when t r job → guard_at r' job ≡ taken a fresh (guard_at r job)
        go (Ok x) passed q w = ap (λ z. guard_at z job) w ∙ get_or-set_same r job fresh fresh (inside_below (length r) job e)
        go (Ok x) (refused n v) q w = absurd (passed_not_refused q)
        go (Err why) passed q w = absurd (passed_not_refused (sym q))
        go (Err why) (refused k u) q w = ap (λ z. guard_at z job) w
    own_step (asks b a) r' (s, w) calls h rest = (guard_at r job, own_ask b a s, subst (λ z. Run (guard_at z job) calls h) w rest)
    own_step (tells b byte a) r' s calls h rest =
        let f = first_skip 14 0 (outside (length r) job) (tell_rows b (guard_at r job) byte) e in
        let g = go (first (tell_rows b (guard_at r job) byte)) (machine_of b) (outcome byte) (s.row ∙ ap (λ t. row_told_when t (machine_of b) r job (outcome byte)) f) in
        (guard_at r' job, record { refusal = s.refusal ∙ f; guard = g }, rest)
      where
        go : (t : Tested) (m : Machine) (o : Bool) → r' ≡ row_told_when t m r job o → guard_at r' job ≡ told_when t m (guard_at r job) o
        go passed m o w = ap (λ z. guard_at z job) w ∙ get_or-set_same r job (after m (guard_at r job) o) fresh (inside_below (length r) job e)
        go (refused n v) m o w = ap (λ z. guard_at z job) w

  pub job_runs_alone : (r : List Guard) (calls : List RowCall) (last : List Guard) → outside (length r) job ≡ false → RowRun r calls last
      → Run (guard_at r job) (calls_of job calls) (guard_at last job)
  job_runs_alone r [] last e w = ap (λ z. guard_at z job) w
  job_runs_alone r (c ∷ calls) last e (r', s, rest) =
      let same = step_changes r c.job c.call r' s in
      let ih = job_runs_alone r' calls last (ap (λ n. outside n job) same.count ∙ e) rest in
      dite (ℕ_discrete c.job job)
      (λ q. subst (λ z. Run (guard_at r job) z (guard_at last job)) (sym (ap (λ t. cond t (c.call ∷ calls_of job calls) (calls_of job calls)) (eq-eqb _ _ q)))
      (own_step r e c.call r' (subst (λ z. RowStep r z c.call r') q s) (calls_of job calls) (guard_at last job) ih))
      (λ n. subst (λ z. Run (guard_at r job) z (guard_at last job)) (sym (ap (λ t. cond t (c.call ∷ calls_of job calls) (calls_of job calls)) (ne_eqb _ _ n)))
      (subst (λ z. Run z (calls_of job calls) (guard_at last job)) (same.others job (λ q. n (sym q))) ih))

-- a guard asked and told on one table is the guard after the bytes told: asks between tells change nothing
pub run_told : (b : List ℕ) (g : Guard) (calls : List Call) (h : Guard) → OnTable b calls → Run g calls h → h ≡ told_all b g (bytes_told calls)
run_told b g [] h on e = e
run_told b g (starts b' a ∷ calls) h on w = absurd on
run_told b g (asks b' a ∷ calls) h (q, on) (s, asked, rest) = run_told b g calls h on (subst (λ z. Run z calls h) asked.guard rest)
run_told b g (tells b' byte a ∷ calls) h (q, on) (s, told, rest) =
    run_told b s calls h on rest ∙ ap (λ z. told_all b z (bytes_told calls)) (subst (λ z. ToldAs z g byte a s) q told).guard

-- a job that was started on a table, and of whose later calls all are asks and tells on it: it is one of the row's, and its record is the guard after the bytes told to it
pub started_job : (b : List ℕ) (row started last : List Guard) (job : ℕ) (calls : List RowCall) → RowStartedAs row job b (Ok tt) started → RowRun started calls last → OnTable b (calls_of job calls)
    → (outside (length last) job ≡ false) × (guard_at last job ≡ told_all b fresh (bytes_told (calls_of job calls)))
started_job b row started last job calls s run on =
    let e = (passed_first (job_row row job) (table_rows b) (sym s.refusal)).0 in
    let w : started ≡ set row job fresh = s.row ∙ sym (ap (λ t. row_started_when t row job) s.refusal) in
    let l : length started ≡ length row = ap length w ∙ length-set row job fresh in
    let inside = ap (λ n. outside n job) l ∙ e in
    let own = ap (λ z. guard_at z job) w ∙ get_or-set_same row job fresh fresh (inside_below (length row) job e) in
    let alone = subst (λ z. Run z (calls_of job calls) (guard_at last job)) own (job_runs_alone job started calls last inside run) in
    (ap (λ n. outside n job) (run_count started calls last run) ∙ inside, run_told b fresh (calls_of job calls) (guard_at last job) on alone)
