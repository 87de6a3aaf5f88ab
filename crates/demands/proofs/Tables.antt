-- What a table built from a set is, whichever edition built it: the bytes of the canonical machine for what the set keeps. It passes the check and is walked by exactly the kept patterns. Assumes nothing.
use mathlib.Core.Path.{◌≡◌, sym, ap, ◌∙◌, subst}
use mathlib.Core.Logic.{◌↔◌}
use mathlib.Core.Bool.{Bool}
use mathlib.Core.List.{List}
use Prim.Native.Nat.{ℕ}
use Rattle.layout.specs.Refusal.{passed, first}
use Rattle.machines.specs.Machine.{Machine, walk, Can}
use Rattle.machines.specs.Canonical.{Canonical, OneTable}
use Rattle.machines.proofs.Walk.{one_walk}
use Rattle.meaning.specs.Longest.{longest}
use Rattle.meaning.specs.Sets.{SetAllowed, KeptBy}
use Rattle.meaning.proofs.Widths.{set_wider}
use Rattle.sets.specs.Bytes.{set_of}
use Rattle.sets.specs.Rows.{set_rows}
use Rattle.sets.proofs.Accepted.{accepted_head, accepted_something, passed_rows}
use Rattle.table.specs.Bytes.{machine_of, bytes_of}
use Rattle.table.specs.Rows.{table_rows}
use Rattle.table.proofs.Checked.{checked_well_made}
use Rattle.builder.proofs.BuiltTables.{built_accepted, built_allowed, built_canonical, built_bytes, built_checked, built_one_table}
use Rattle.demands.specs.TableOf.{TableOf}

module _ (set b : List ℕ) (t : TableOf set b) where
  abbrev pub canonical_machine : Machine
  canonical_machine = t.built.0

  pub made_allowed : SetAllowed longest (set_of set)
  made_allowed = set_wider t.widest longest (set_of set) t.edition (built_allowed t.widest set t.work t.work' t.table t.table' t.size t.built)

  -- in its own edition, and in the library's
  pub made_taken : first (set_rows t.widest set) ≡ passed
  made_taken = built_accepted t.widest set t.work t.work' t.table t.table' t.size t.built

  pub made_accepted : first (set_rows longest set) ≡ passed
  made_accepted = passed_rows longest set (accepted_head t.widest set made_taken) made_allowed (accepted_something t.widest set made_taken)

  pub made_canonical : Canonical canonical_machine (KeptBy (set_of set))
  made_canonical = built_canonical t.widest set t.work t.work' t.table t.table' t.size t.built

  pub made_bytes : b ≡ bytes_of canonical_machine
  made_bytes = t.bytes ∙ built_bytes t.widest set t.work t.work' t.table t.table' t.size t.built

  pub made_checked : first (table_rows b) ≡ passed
  made_checked = subst (λ z. first (table_rows z) ≡ passed) (sym t.bytes) (built_checked t.widest set t.work t.work' t.table t.table' t.size t.built t.edition)

  pub made_one_table : OneTable (machine_of b) canonical_machine
  made_one_table = subst (λ z. OneTable (machine_of z) canonical_machine) (sym t.bytes) (built_one_table t.widest set t.work t.work' t.table t.table' t.size t.built t.edition)

  pub made_walk : (p : List Bool) → walk (machine_of b) 0 p ≡ walk canonical_machine canonical_machine.start p
  made_walk p =
      let w = checked_well_made b made_checked in
      one_walk (machine_of b) canonical_machine w made_one_table 0 w.start_below p ∙ ap (λ z. walk canonical_machine z p) (sym made_canonical.starts_at_0)

  pub made_walks_kept : (p : List Bool) → Can (machine_of b) 0 p ↔ KeptBy (set_of set) p
  made_walks_kept p = (
    λ (s, e). (made_canonical.exact p).0 (s, sym (made_walk p) ∙ e),
    λ k. let (s, e) = (made_canonical.exact p).1 k in (s, made_walk p ∙ e),
  )
