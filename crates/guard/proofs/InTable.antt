-- On a table that passes the check a guard never leaves the table, so ask and tell refuse nothing there but an outcome that is neither 0 nor 1 and, at the largest count, any. Assumes nothing.
use mathlib.Core.Path.{◌≡◌, refl, sym, ap, ◌∙◌, subst}
use mathlib.Core.Logic.{dite}
use mathlib.Core.Option.{Option, none, some}
use mathlib.Core.Bool.{Bool, true, false, cond}
use mathlib.Core.List.{List, [], ◌∷◌}
use Prim.Native.Nat.{ℕ, ◌+◌, ◌≤◌, ◌<◌}
use native.Mathlib.Decide.{dec_lt}
use native.Mathlib.Omega.{arith}
use borrow.Author.Tests.{lt-ltb, le-ltb, le-leb, lt-leb}
use lib.Dec.{leb, ltb}
use Rattle.std.specs.Prelude.{Result}
use Rattle.layout.specs.declared.Refused.{Refused}
use Rattle.layout.specs.Refused.{says}
use Rattle.table.specs.Shared.{Row, row, passed, refused, first, outcome, Machine, WellMade}
use Rattle.table.specs.Bytes.{state_count, machine_of}
use Rattle.table.specs.Rows.{table_rows, look_rows}
use Rattle.table.proofs.Shared.{first_here, first_skip, passed_before}
use Rattle.table.proofs.Checked.{checked_looks, checked_well_made}
use Rattle.guard.specs.declared.Guard.{Guard}
use Rattle.guard.specs.declared.Answer.{Answer}
use Rattle.guard.specs.Guard.{most_told, fresh, AskedAs, lost_in, moved, after, tell_rows, told_when}
use Rattle.guard.specs.Told.{after_all, told_all, heard_after, heard, ByWalk}
use Rattle.guard.proofs.Heard.{heard_none, heard_not, heard_one, heard_full}
use Rattle.guard.proofs.Walked.{count_grows}
use Rattle.guard.proofs.Answered.{ask_by_walk}

module _ (m : Machine) (w : WellMade m) where
  state_below : (g : Guard) (o : Bool) → g.state < m.states → (after m g o).state < m.states
  state_below g o h = go g.lost (m.next g.state o) refl
    where
      go : (l : Bool) (r : Option ℕ) → m.next g.state o ≡ r → (cond l (lost_in g.state g.outcomes (g.count + 1)) (moved r g o)).state < m.states
      go true r e = h
      go false none e = h
      go false (some t) e = w.next_below g.state t o h e

  states_below : (g : Guard) (p : List Bool) → g.state < m.states → (after_all m g p).state < m.states
  states_below g [] h = h
  states_below g (o ∷ p) h = states_below (after m g o) p (state_below g o h)

module _ (b : List ℕ) (e : first (table_rows b) ≡ passed) where
  abbrev m : Machine
  m = machine_of b

  module _ (g : Guard) (h : g.state < state_count b) where
    asked_in_table : (r : Result Answer Refused) (g' : Guard) → AskedAs b g r g' → says r ≡ passed
    asked_in_table r g' asked = asked.refusal ∙ checked_looks b e g.state h

    abbrev left : ℕ → List Row
    left byte = row 13 (ltb 1 byte) 0 ∷ row 17 (leb most_told g.count) 0 ∷ []

    left_13 : (byte : ℕ) → first (tell_rows b g byte) ≡ first (left byte)
    left_13 byte = passed_before (look_rows b g.state) (left byte) (checked_looks b e g.state h)

    left_17 : (byte : ℕ) → byte ≤ 1 → first (tell_rows b g byte) ≡ first (row 17 (leb most_told g.count) 0 ∷ [])
    left_17 byte l = left_13 byte ∙ first_skip 13 0 (ltb 1 byte) (row 17 (leb most_told g.count) 0 ∷ []) (le-ltb 1 byte l)

    told_in_table : (byte : ℕ) → byte ≤ 1 → g.count < most_told → first (tell_rows b g byte) ≡ passed
    unfolding first
    told_in_table byte l c = left_17 byte l ∙ first_skip 17 0 (leb most_told g.count) [] (lt-leb most_told g.count c)

    refused_in_table : (byte : ℕ) → 1 < byte → first (tell_rows b g byte) ≡ refused 13 0
    refused_in_table byte l = left_13 byte ∙ first_here 13 0 (ltb 1 byte) (row 17 (leb most_told g.count) 0 ∷ []) (lt-ltb 1 byte l)

    full_in_table : (byte : ℕ) → byte ≤ 1 → most_told ≤ g.count → first (tell_rows b g byte) ≡ refused 17 0
    full_in_table byte l c = left_17 byte l ∙ first_here 17 0 (leb most_told g.count) [] (le-leb most_told g.count c)

  pub told_heard : (g : Guard) (bytes : List ℕ) → g.state < state_count b → told_all b g bytes ≡ after_all m g (heard_after g.count bytes)
  told_heard g [] h = ap (after_all m g) (sym (heard_none g.count))
  told_heard g (byte ∷ bytes) h =
      let o = outcome byte in
      dite (dec_lt 1 byte)
      (λ l. ap (λ t. told_all b (told_when t m g o) bytes) (refused_in_table g h byte l) ∙ told_heard g bytes h ∙ ap (after_all m g) (sym (heard_not g.count byte bytes l)))
      (λ l.
      let k : byte ≤ 1 = omega arith in
      dite (dec_lt g.count most_told)
      (λ c.
      ap (λ t. told_all b (told_when t m g o) bytes) (told_in_table g h byte k c)
      ∙ told_heard (after m g o) bytes (state_below m (checked_well_made b e) g o h)
      ∙ ap (λ n. after_all m (after m g o) (heard_after n bytes)) (count_grows m g o)
      ∙ ap (after_all m g) (sym (heard_one g.count byte bytes k c)))
      (λ c.
      let full : most_told ≤ g.count = omega arith in
      ap (λ t. told_all b (told_when t m g o) bytes) (full_in_table g h byte k full)
      ∙ told_heard g bytes h
      ∙ ap (after_all m g) (heard_full g.count bytes full ∙ sym (heard_full g.count (byte ∷ bytes) full))))

  some_state : 0 < state_count b
  some_state = (checked_well_made b e).start_below

  pub told_all_lem : (bytes : List ℕ) → told_all b fresh bytes ≡ after_all m fresh (heard bytes)
  told_all_lem bytes = told_heard fresh bytes some_state

  pub never_leaves : (p : List Bool) → (after_all m fresh p).state < state_count b
  never_leaves p = states_below m (checked_well_made b e) fresh p some_state

  -- a guard started on a checked table, told these bytes and asked
  pub answers_by_walk : (bytes : List ℕ) (r : Result Answer Refused) (g : Guard) → AskedAs b (told_all b fresh bytes) r g → ByWalk m 0 (heard bytes) r
  answers_by_walk bytes r g asked =
      let walked = subst (λ z. AskedAs b z r g) (told_all_lem bytes) asked in
      ask_by_walk m 0 fresh.outcomes 0 (heard bytes) r (asked_in_table (after_all m fresh (heard bytes)) (never_leaves (heard bytes)) r g walked) walked.answer
