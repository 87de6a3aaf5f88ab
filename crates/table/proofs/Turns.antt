-- What a turn of the loop over the entries does to their rows: it takes one state's rows off, which decide where one of them holds. Assumes nothing.
use mathlib.Core.Path.{◌≡◌, ap, ◌∙◌}
use mathlib.Core.List.{List, ◌++◌}
use Prim.Native.Nat.{ℕ, zero, suc, ◌+◌, ◌-◌, ◌≤◌, ◌<◌}
use native.Mathlib.Numerals.{add-one}
use native.Mathlib.Omega.{arith}
use Rattle.layout.specs.Refusal.{passed, refused, first}
use Rattle.layout.proofs.Rows.{refused_before, passed_before}
use Rattle.table.specs.Rows.{entry_rows, entries_rows}

module _ (b : List ℕ) (n s : ℕ) where
  entries_turn : s < n → entries_rows b s (n - s) ≡ entry_rows b s ++ entries_rows b (s + 1) (n - (s + 1))
  unfolding entries_rows
  entries_turn h = let g : n - s ≡ suc (n - (s + 1)) = omega arith in rw (g, add-one s)

  pub entries_refused : s < n → {number at : ℕ} → first (entry_rows b s) ≡ refused number at → first (entries_rows b s (n - s)) ≡ refused number at
  entries_refused h e = ap first (entries_turn h) ∙ refused_before _ _ e

  pub entries_go_on : s < n → first (entry_rows b s) ≡ passed → first (entries_rows b s (n - s)) ≡ first (entries_rows b (s + 1) (n - (s + 1)))
  entries_go_on h e = ap first (entries_turn h) ∙ passed_before _ _ e

  pub entries_end : n ≤ s → first (entries_rows b s (n - s)) ≡ passed
  unfolding entries_rows first
  entries_end h = let g : n - s ≡ zero = omega arith in rw g
