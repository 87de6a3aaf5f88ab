-- What an answer says: a refusal is the first row that holds, anything else that all were passed, and a state's moves are its machine's. Assumes nothing.
use mathlib.Core.Path.{◌≡◌, refl, sym, ap, subst, ◌∙◌}
use mathlib.Core.Option.{none, some}
use mathlib.Core.Bool.{Bool, true, false, cond}
use mathlib.Core.List.{List}
use Prim.Native.Nat.{ℕ}
use Rattle.std.specs.Prelude.{Result, Ok, Err, Some, None}
use lib.Dec.{eqb}
use Rattle.layout.specs.Refusal.{Tested, passed, first}
use Rattle.layout.specs.declared.Refused.{Refused}
use Rattle.layout.specs.Refused.{row_of, says}
use Rattle.table.specs.declared.Moves.{Moves}
use Rattle.table.specs.Bytes.{state_count, miss_entry, no_miss, machine_of}
use Rattle.table.specs.Rows.{table_rows, look_rows}
use Rattle.table.specs.Check.{Counts, CheckedAs, moves_of, reached, move_by, Shows, LookedAs}

module _ (b : List ℕ) where
  -- also where only some rows were tested
  pub states_passed : {t : Tested} {r : Result ℕ Refused} {n : ℕ} → (says r ≡ t) × Counts b r → r ≡ Ok n → (t ≡ passed) × (n ≡ state_count b)
  states_passed (said, counted) e = (sym said ∙ ap says e, subst (Counts b) e counted)

  pub checked_states : {r : Result ℕ Refused} {n : ℕ} → CheckedAs b r → r ≡ Ok n → first (table_rows b) ≡ passed
  checked_states c e = (states_passed (c.refusal, c.states) e).0

  pub checked_refused : {r : Result ℕ Refused} {why : Refused} → CheckedAs b r → r ≡ Err why → first (table_rows b) ≡ row_of why
  checked_refused c e = sym c.refusal ∙ ap says e

  module _ (s : ℕ) where
    pub looked_moves : {r : Result Moves Refused} {m : Moves} → LookedAs b s r → r ≡ Ok m → (first (look_rows b s) ≡ passed) × (m ≡ moves_of b s)
    looked_moves l e = (sym l.refusal ∙ ap says e, subst (Shows b s) e l.moves)

    pub looked_refused : {r : Result Moves Refused} {why : Refused} → LookedAs b s r → r ≡ Err why → first (look_rows b s) ≡ row_of why
    looked_refused l e = sym l.refusal ∙ ap says e

reached_by : (t : Bool) (miss : ℕ) → reached (cond t None (Some miss)) ≡ cond t none (some miss)
reached_by true miss = refl
reached_by false miss = refl

pub moves_are_next : (b : List ℕ) (s : ℕ) (o : Bool) → move_by (moves_of b s) o ≡ (machine_of b).next s o
moves_are_next b s true = refl
moves_are_next b s false = reached_by (eqb (miss_entry b s) no_miss) (miss_entry b s)
