-- `table::look`: the rows of the counts decide, then that of the state, then those of its entry. Assumes nothing.
use mathlib.Core.Path.{◌≡◌, sym, ap, subst, ◌∙◌}
use mathlib.Core.List.{List, ◌∷◌}
use Prim.Native.Nat.{ℕ}
use native.Mathlib.Omega.{arith}
use borrow.Author.Tests.{le-leb, lt-leb}
use lib.Dec.{leb}
use Rattle.std.proofs.lemmas.Result.{err_from_is_err_and}
use Rattle.layout.specs.Refusal.{Tested, passed, row, first}
use Rattle.layout.specs.Refused.{says}
use Rattle.layout.proofs.Rows.{first_here, first_skip, refused_before, passed_before}
use Rattle.table.specs.Bytes.{state_count}
use Rattle.table.specs.Rows.{count_rows, entry_rows, look_rows}
use Rattle.table.specs.Check.{Shows}
use Rattle.table.proofs.look.Goals as goal

-- what the rows of the state and its entry say is the answer
rest_decides : (b : List ℕ) (s : ℕ) {t : Tested} → first (count_rows b) ≡ passed → first (row 12 (leb (state_count b) s) 0 ∷ entry_rows b s) ≡ t → t ≡ first (look_rows b s)
rest_decides b s p e = sym (passed_before (count_rows b) (row 12 (leb (state_count b) s) 0 ∷ entry_rows b s) p ∙ e)

pub returns-in_err-entries : goal.returns-in_err-entries
returns-in_err-entries c =
    let b = c.args.bytes.now in
    let s = c.args.state in
    let p = err_from_is_err_and c.from_residual.result c.from_residual.ensures.1 in
    rw (p.1, p.2) (record { refusal = sym (refused_before (count_rows b) (row 12 (leb (state_count b) s) 0 ∷ entry_rows b s) (sym c.in_err-entries.ensures.0)); moves = tt })

pub returns-then-entries-state : goal.returns-then-entries-state
returns-then-entries-state c =
    let (p, e) = c.in_ok-entries.ensures in
    let b = c.args.bytes.now in
    let s = c.args.state in
    let n : c.in_ok-entries.entries.states ≡ state_count b = c.in_ok-entries.entries.counted ∙ ap state_count e in
    record { refusal = rest_decides b s (sym p) (first_here 12 0 _ _ (le-leb (state_count b) s (omega arith))); moves = tt }

pub returns : goal.returns
returns c =
    let (p, e) = c.in_ok-entries.ensures in
    let b = c.args.bytes.now in
    let s = c.args.state in
    let n : c.in_ok-entries.entries.states ≡ state_count b = c.in_ok-entries.entries.counted ∙ ap state_count e in
    let (r, m) = subst (λ z. (says c.moves.result ≡ first (entry_rows z s)) × Shows z s c.moves.result) e c.moves.ensures in
    record { refusal = r ∙ rest_decides b s (sym p) (first_skip 12 0 _ _ (lt-leb (state_count b) s (omega arith))); moves = m }
