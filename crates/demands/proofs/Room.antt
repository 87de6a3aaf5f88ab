-- An accepted set that is given room isn't refused: 1 to 7 and 21 don't hold, the work area is long enough for 8, and the buffer for every table. Assumes nothing.
use mathlib.Core.Path.{◌≡◌, refl, sym, ◌∙◌}
use mathlib.Core.List.{List, [], ◌∷◌}
use Prim.Native.Nat.{ℕ}
use native.Mathlib.Omega.{arith}
use lib.ListN.{length}
use Rattle.layout.specs.Refusal.{passed, first}
use Rattle.std.specs.Prelude.{Result, Ok, Err}
use Rattle.layout.specs.Write.{room_row, length_of}
use Rattle.layout.proofs.Rows.{long_enough, passed_before, passed_not_refused}
use Rattle.sets.specs.Bytes.{set_of}
use Rattle.sets.specs.Rows.{set_rows}
use Rattle.sets.proofs.Accepted.{accepted_allowed}
use Rattle.table.specs.Bytes.{size_of}
use Rattle.classes.specs.Area.{area_size}
use Rattle.layout.specs.declared.Refused.{Refused}
use Rattle.layout.specs.Refused.{says}
use Rattle.builder.specs.Build.{area_row, early_rows, build_rows, BuiltAs}
use Rattle.builder.proofs.BuiltTables.{no_more_states}
use Rattle.demands.specs.TableOf.{GivenRoom}

module _ (widest : ℕ) where
  early_passed : (set work table : List ℕ) → GivenRoom widest set work table → first (early_rows widest set work) ≡ passed
  early_passed set work table given =
      passed_before (set_rows widest set) (area_row widest work ∷ []) given.accepted ∙ long_enough 8 0 (length work) (area_size widest) given.area

  pub room_suffices : (set work work' table table' : List ℕ) (r : Result ℕ Refused) → GivenRoom widest set work table → BuiltAs widest set work work' table table' r → r ≡ Ok (length_of r)
  room_suffices set work work' table table' r given (m, built) = known r (built.written.answer ∙ all_passed)
    where
      size : ℕ
      size = size_of m.states

      room_passed : first (room_row table size ∷ []) ≡ passed
      room_passed =
          let most = no_more_states widest (set_of set) (accepted_allowed widest set given.accepted) m (built.canonical (early_passed set work table given)) in
          long_enough 9 size (length table) size (omega (arith, given.room))

      all_passed : first (build_rows widest set work table size) ≡ passed
      all_passed = passed_before (early_rows widest set work) (room_row table size ∷ []) (early_passed set work table given) ∙ room_passed

      known : (r : Result ℕ Refused) → says r ≡ passed → r ≡ Ok (length_of r)
      known (Ok n) e = refl
      known (Err why) e = absurd (passed_not_refused (sym e))
