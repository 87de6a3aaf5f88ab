-- What 21 is for: a set is refused by it exactly where it is refused by none of 1 to 7 and keeps every pattern. So an accepted set loses some pattern, and fewer misses than the longest window has jobs, with nothing before them, lead to panic; a table built from a set has a state that allows no miss, and a guard started there hears panic after so many misses. Assumes nothing.
use mathlib.Core.Path.{◌≡◌, sym, subst}
use mathlib.Core.Logic.Iff
use mathlib.Core.Logic.{◌↔◌}
use mathlib.Core.Option.{none}
use mathlib.Core.Bool.{Bool, false}
use mathlib.Core.List.{List, [], ◌∷◌, ◌++◌}
use Prim.Native.Nat.{ℕ, ◌<◌}
use native.Mathlib.Omega.{arith}
use lib.ListN.{replicate}
use Rattle.std.specs.Prelude.{Result, Ok}
use Rattle.layout.specs.declared.Refused.{Refused}
use Rattle.layout.specs.Refusal.{passed, first}
use Rattle.machines.specs.Machine.{Machine}
use Rattle.machines.proofs.Walk.{walk_below}
use Rattle.meaning.specs.declared.LimitSet.{LimitSet}
use Rattle.meaning.specs.Sets.{KeptBy, LimitsNothing, Panic}
use Rattle.meaning.proofs.Nothing.{something_panics}
use Rattle.sets.specs.Bytes.{set_of}
use Rattle.sets.specs.Rows.{set_rows}
use Rattle.sets.specs.Read.{ReadAs}
use Rattle.sets.proofs.Accepted.{accepted_allowed, accepted_something}
use Rattle.sets.proofs.Numbers.{seven_rows, nothing_refused}
use Rattle.table.specs.Bytes.{machine_of, state_count}
use Rattle.table.proofs.Checked.{checked_well_made}
use Rattle.guard.specs.declared.Guard.{Guard}
use Rattle.guard.specs.declared.Answer.{Answer}
use Rattle.guard.specs.declared.Answer.TheVariants as answer
use Rattle.guard.specs.Guard.{fresh, AskedAs}
use Rattle.guard.specs.Told.{told_all}
use Rattle.guard.proofs.Heard.{heard_same}
use Rattle.demands.specs.Refusing.{RefusedBy}
use Rattle.demands.specs.TableOf.{TableOf}
use Rattle.demands.proofs.Tables.{made_taken, made_checked, made_walks_kept}
use Rattle.demands.proofs.Guarded.{answers_by_meaning, miss_blocked}
use Rattle.demands.proofs.Demand1.{read_refuses}

pub read_refuses_nothing : (widest : ℕ) (b : List ℕ) (r : Result LimitSet Refused) → ReadAs widest b r → RefusedBy r 21 0 ↔ ((first (seven_rows widest b) ≡ passed) × LimitsNothing (set_of b))
read_refuses_nothing widest b r read = Iff.trans ((read_refuses widest b r read).exactly 21 0) (nothing_refused widest b)

module _ (widest : ℕ) (b : List ℕ) (accepted : first (set_rows widest b) ≡ passed) where
  pub accepted_panics : (n : ℕ) × (n < widest) × Panic (set_of b) (replicate n false)
  accepted_panics = something_panics (set_of b) widest (accepted_allowed widest b accepted) (accepted_something widest b accepted)

  pub accepted_loses_some : (p : List Bool) × (KeptBy (set_of b) p → ⊥)
  accepted_loses_some = let (n, l, p) = accepted_panics in (replicate n false ++ false ∷ [], p.miss_loses)

module _ (set b : List ℕ) (t : TableOf set b) where
  abbrev m : Machine
  m = machine_of b

  pub table_has_panic : (s : ℕ) × (s < state_count b) × (m.next s false ≡ none)
  table_has_panic =
      let (n, l, p) = accepted_panics t.widest set (made_taken set b t) in
      let (s, w) = (made_walks_kept set b t (replicate n false)).1 p.kept in
      let made = checked_well_made b (made_checked set b t) in
      (s, walk_below m made 0 s (replicate n false) made.start_below w, miss_blocked set b t (replicate n false) s w p.miss_loses)

  pub misses_reach_panic : (n : ℕ) × (n < t.widest) × ((r : Result Answer Refused) (g : Guard) → AskedAs b (told_all b fresh (replicate n 0)) r g → r ≡ Ok answer.Panic)
  misses_reach_panic =
      let (n, l, p) = accepted_panics t.widest set (made_taken set b t) in
      let few = t.edition in
      (n, l, λ r g asked. (answers_by_meaning set b t (replicate n 0) r g asked).panic.1 (subst (Panic (set_of set)) (sym (heard_same 0 (omega arith) 0 n (omega arith))) p))
