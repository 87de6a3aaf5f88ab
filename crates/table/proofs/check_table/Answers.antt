-- `table::check_table`: the rows of the counts decide, and where those are passed the rows of the entries. Assumes nothing.
use mathlib.Core.Path.{◌≡◌, sym, ap, ap₂, ◌∙◌}
use mathlib.Core.List.{List}
use Prim.Native.Nat.{ℕ}
use Rattle.std.proofs.lemmas.Result.{err_from_is_err_and}
use Rattle.layout.specs.Refusal.{Tested, passed, first}
use Rattle.layout.proofs.Rows.{refused_before, passed_before}
use Rattle.table.specs.Bytes.{state_count}
use Rattle.table.specs.Rows.{count_rows, entries_rows, table_rows}
use Rattle.table.proofs.check_table.Goals as goal

-- what the rows of the entries say is the answer
entries_decide : (b : List ℕ) {b' : List ℕ} {n : ℕ} {t : Tested} → b' ≡ b → n ≡ state_count b' → first (count_rows b) ≡ passed → t ≡ first (entries_rows b' 0 n) → t ≡ first (table_rows b)
entries_decide b e n p d =
    d ∙ ap₂ (λ z k. first (entries_rows z 0 k)) e (n ∙ ap state_count e) ∙ sym (passed_before (count_rows b) (entries_rows b 0 (state_count b)) p)

pub returns-in_err-entries : goal.returns-in_err-entries
returns-in_err-entries c =
    let b = c.args.bytes.now in
    let p = err_from_is_err_and c.from_residual.result c.from_residual.ensures.1 in
    rw (p.1, p.2) (record { refusal = sym (refused_before (count_rows b) (entries_rows b 0 (state_count b)) (sym c.in_err-entries.ensures.0)); states = tt })

pub returns-in_err-test : goal.returns-in_err-test
returns-in_err-test c =
    let (p, e) = c.in_ok-entries.ensures in
    let r = err_from_is_err_and c.from_residual-in_err-test.result c.from_residual-in_err-test.ensures.1 in
    rw (r.1, r.2) (record { refusal = entries_decide c.args.bytes.now e c.in_ok-entries.entries.counted (sym p) c.in_err-test.ensures; states = tt })

pub returns : goal.returns
returns c =
    let (p, e) = c.in_ok-entries.ensures in
    let n = c.in_ok-entries.entries.counted in
    record { refusal = entries_decide c.args.bytes.now e n (sym p) c.in_ok-test.ensures; states = n ∙ ap state_count e }
