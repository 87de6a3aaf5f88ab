-- What each way out of the builder gives: a refusal is the first row that holds, and past 8 the work area is cleared. Assumes nothing.
use mathlib.Core.Path.{◌≡◌, refl, sym, ◌∙◌, subst}
use mathlib.Core.Option.{none}
use mathlib.Core.List.{List, [], ◌∷◌, ◌++◌}
use Prim.Native.Nat.{ℕ, ◌≤◌, ◌<◌}
use native.Mathlib.Omega.{arith}
use lib.ListN.{length, drop}
use Rattle.std.specs.Prelude.{Result, Ok, Err}
use Rattle.layout.specs.Refusal.{passed, refused, first}
use Rattle.layout.specs.declared.Refused.{Refused}
use Rattle.layout.specs.declared.Refused.TheVariants.{WorkLength, Room}
use Rattle.layout.specs.Refused.{row_of}
use Rattle.layout.specs.Write.{room_row}
use Rattle.layout.proofs.Write.{written_by}
use Rattle.layout.proofs.Rows.{too_short, long_enough, refused_before, passed_before, passed_not_refused}
use Rattle.machines.specs.Machine.{Machine}
use Rattle.machines.specs.Canonical.{Canonical}
use Rattle.meaning.specs.declared.LimitSet.{LimitSet}
use Rattle.meaning.specs.Sets.{KeptBy}
use Rattle.sets.specs.Bytes.{set_of}
use Rattle.sets.specs.Rows.{set_rows}
use Rattle.table.specs.Bytes.{bytes_of, size_of}
use Rattle.history.specs.Length.{Histories}
use Rattle.classes.specs.Area.{area_size, Within}
use Rattle.builder.specs.Build.{area_row, early_rows, build_rows, ClearedTo, Cleared, WorkAfter, BuiltAs}
use Rattle.builder.specs.Steps.{BuildsTable}
use Rattle.builder.proofs.Windows.{area_suffices}

-- what the histories of a set took is cleared with the rest of the area
pub clear_within : (widest m n size : ℕ) (a b c : List ℕ) → size ≡ area_size widest → Histories m n → m < widest → Within n a b → ClearedTo size b c → Cleared widest a c
clear_within widest m n size a b c e h l f g =
    let enough = area_suffices widest m n h l in
    record {
      length_stays = g.length_stays ∙ f.length_stays;
      zero = λ k i. g.zero k (omega arith);
      beyond = λ k i. g.beyond k (omega arith) ∙ f.beyond k (omega arith);
    }

module _ (widest : ℕ) (s : LimitSet) (work work' table : List ℕ) (m : Machine) (canonical : Canonical m (KeptBy s)) (cleared : Cleared widest work work') where
  abbrev size : ℕ
  size = size_of m.states

  pub short_table : length table < size → BuildsTable widest s work work' table table (Err (Room size)) m
  short_table h = record {
    canonical = canonical;
    written = written_by (room_row table size ∷ []) size (bytes_of m) table (refused 9 size) table _ (too_short 9 size (length table) size h) refl refl refl;
    cleared = cleared;
  }

  pub whole_table : (table' : List ℕ) → size ≤ length table → table' ≡ bytes_of m ++ drop size table → BuildsTable widest s work work' table table' (Ok size) m
  whole_table table' h q = record {
    canonical = canonical;
    written = written_by (room_row table size ∷ []) size (bytes_of m) table passed table' _ (long_enough 9 size (length table) size h) refl refl q;
    cleared = cleared;
  }

-- stands where no table is asked for
no_machine : Machine
no_machine = record { states = 0; start = 0; next = λ s o. none }

module _ (widest : ℕ) (set work table : List ℕ) where
  refused_early : (e : Refused) → first (early_rows widest set work) ≡ row_of e → BuiltAs widest set work work table table (Err e)
  refused_early e q =
      let size = size_of no_machine.states in (
        no_machine,
        record {
          canonical = λ p. absurd (passed_not_refused (sym p ∙ q));
          written = written_by (build_rows widest set work table size) size (bytes_of no_machine) table (row_of e) table (Err e)
              (refused_before (early_rows widest set work) (room_row table size ∷ []) q) refl refl refl;
          work_after = subst (λ z. WorkAfter widest z work work) (sym q) refl;
        },
      )

  pub refused_set : (e : Refused) → first (set_rows widest set) ≡ row_of e → BuiltAs widest set work work table table (Err e)
  refused_set e q = refused_early e (refused_before _ (area_row widest work ∷ []) q)

  pub refused_area : first (set_rows widest set) ≡ passed → length work < area_size widest → BuiltAs widest set work work table table (Err WorkLength)
  refused_area e h = refused_early WorkLength (passed_before _ (area_row widest work ∷ []) e ∙ too_short 8 0 (length work) (area_size widest) h)

  pub built_table : (work' table' : List ℕ) (r : Result ℕ Refused) → first (set_rows widest set) ≡ passed → area_size widest ≤ length work
      → (m : Machine) × BuildsTable widest (set_of set) work work' table table' r m → BuiltAs widest set work work' table table' r
  built_table work' table' r e h (m, b) =
      let size = size_of m.states in
      let p : first (early_rows widest set work) ≡ passed = passed_before _ (area_row widest work ∷ []) e ∙ long_enough 8 0 (length work) (area_size widest) h in (
        m,
        record {
          canonical = λ q. b.canonical;
          written = written_by (build_rows widest set work table size) size (bytes_of m) table (first (room_row table size ∷ [])) table' r
              (passed_before (early_rows widest set work) (room_row table size ∷ []) p) b.written.answer b.written.length_written b.written.buffer;
          work_after = subst (λ z. WorkAfter widest z work work') (sym p) b.cleared;
        },
      )
