-- What is known of a table that the builder wrote: its bytes are those of a canonical machine for what the set keeps, and they pass the table check. Assumes nothing.
use mathlib.Core.Path.{◌≡◌, sym, ap, ap₂, ◌∙◌, subst}
use mathlib.Core.Logic.{◌↔◌}
use mathlib.Core.Option.{some}
use mathlib.Core.Bool.{Bool, true}
use mathlib.Core.List.{List, [], ◌∷◌, ◌++◌}
use Prim.Native.Nat.{ℕ, suc, ◌-◌, ◌^◌, ◌≤◌, ◌<◌}
use native.Mathlib.Omega.{arith}
use lib.ListN.{take, drop}
use lib.Pow.{pow_mono}
use lib.Seq.{take_at}
use Rattle.std.specs.Prelude.{Ok}
use Rattle.layout.specs.Refusal.{passed, first}
use Rattle.layout.specs.Write.{room_row, length_when, buffer_when}
use Rattle.layout.proofs.Rows.{both_passed}
use Rattle.machines.specs.Machine.{Machine, Walks}
use Rattle.machines.specs.Canonical.{Canonical, OneTable}
use Rattle.machines.proofs.Walk.{walk_snoc}
use Rattle.machines.proofs.Fewest.{canonical_fewest}
use Rattle.meaning.specs.declared.LimitSet.{LimitSet}
use Rattle.meaning.specs.Longest.{longest}
use Rattle.meaning.specs.Sets.{SetAllowed, KeptBy}
use Rattle.meaning.proofs.Widths.{some_window}
use Rattle.meaning.proofs.SetLaws.{kept_by_hit}
use Rattle.history.specs.Machine.{history_machine}
use Rattle.history.proofs.Walked.{kept_walked}
use Rattle.classes.proofs.Converge.{history_well_made}
use Rattle.sets.specs.Bytes.{set_of}
use Rattle.sets.specs.Rows.{set_rows}
use Rattle.sets.proofs.Accepted.{accepted_allowed}
use Rattle.table.specs.Bytes.{machine_of, bytes_of, size_of}
use Rattle.table.specs.Rows.{table_rows}
use Rattle.table.specs.Writable.{Writable}
use Rattle.table.proofs.Bytes.{machine_of_bytes, bytes_checked, bytes_length}
use Rattle.builder.specs.Build.{area_row, early_rows, build_rows, BuiltAs}

module _ (widest : ℕ) (s : LimitSet) (ok : SetAllowed widest s) (m : Machine) (canonical : Canonical m (KeptBy s)) where
  abbrev source : Machine
  source = history_machine s (widest - 1)

  pub walked_by_histories : (p : List Bool) → Walks source p ↔ KeptBy s p
  walked_by_histories = let e : widest ≡ suc (widest - 1) = omega (arith, some_window widest s ok) in kept_walked s (widest - 1) (subst (λ w. SetAllowed w s) e ok)

  pub no_more_states : m.states ≤ 2 ^ (widest - 1)
  no_more_states = canonical_fewest m source (KeptBy s) canonical (history_well_made s (widest - 1)) walked_by_histories

  -- RULES, Bytes of a table: "A hit is allowed in every state"
  hit_allowed : (t : ℕ) → t < m.states → (u : ℕ) × (m.next t true ≡ some u)
  hit_allowed t l =
      let (p, first_to) = canonical.first t l in
      let (u, e) = (canonical.exact (p ++ true ∷ [])).1 (kept_by_hit s p ((canonical.exact p).0 (t, first_to.reaches))) in
      (u, sym (walk_snoc m m.start t p true first_to.reaches) ∙ e)

  -- RULES, Bytes of a table: "n, how many states there are, 1 to 32,768"
  pub canonical_writable : widest ≤ longest → Writable m
  canonical_writable within = record {
    well_made = canonical.well_made;
    starts_at_0 = canonical.starts_at_0;
    most = let short : widest - 1 ≤ longest - 1 = omega arith in omega (arith, no_more_states, pow_mono short);
    hit_allowed = hit_allowed;
  }

-- what a build that wasn't refused says
module _ (widest : ℕ) (set work work' table table' : List ℕ) (size : ℕ) (built : BuiltAs widest set work work' table table' (Ok size)) where
  abbrev m : Machine
  m = built.0

  all_passed : first (build_rows widest set work table (size_of m.states)) ≡ passed
  all_passed = sym built.1.written.answer

  early_passed : first (early_rows widest set work) ≡ passed
  early_passed = (both_passed (early_rows widest set work) (room_row table (size_of m.states) ∷ []) all_passed).0

  pub built_accepted : first (set_rows widest set) ≡ passed
  built_accepted = (both_passed (set_rows widest set) (area_row widest work ∷ []) early_passed).0

  pub built_allowed : SetAllowed widest (set_of set)
  built_allowed = accepted_allowed widest set built_accepted

  pub built_canonical : Canonical m (KeptBy (set_of set))
  built_canonical = built.1.canonical early_passed

  built_size : size ≡ size_of m.states
  built_size = built.1.written.length_written ∙ ap (λ z. length_when z (size_of m.states)) all_passed

  -- the table: as many bytes of the buffer as the builder returned
  abbrev pub bytes : List ℕ
  bytes = take size table'

  pub built_bytes : bytes ≡ bytes_of m
  built_bytes =
      ap₂ take built_size (built.1.written.buffer ∙ ap (λ z. buffer_when z (size_of m.states) (bytes_of m) table) all_passed)
      ∙ take_at (bytes_of m) (drop (size_of m.states) table) (size_of m.states) (bytes_length m)

  -- within the windows of the library
  module _ (within : widest ≤ longest) where
    built_writable : Writable m
    built_writable = canonical_writable widest (set_of set) built_allowed m built_canonical within

    pub built_checked : first (table_rows bytes) ≡ passed
    built_checked = subst (λ z. first (table_rows z) ≡ passed) (sym built_bytes) (bytes_checked m built_writable)

    pub built_one_table : OneTable (machine_of bytes) m
    built_one_table = subst (λ z. OneTable (machine_of z) m) (sym built_bytes) (machine_of_bytes m built_writable)
