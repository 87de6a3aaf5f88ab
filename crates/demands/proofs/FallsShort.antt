-- That a guard holds one outcome less than the longest window has jobs is as few as will do: with one fewer there is a set, and outcomes that it keeps, after which what is held would lead every machine for the set to another state than the outcomes do. The set is AnyMiss(1,k) with the longest k, the outcomes a miss and hits, and the miss is the one that wouldn't be held. The checker computes the tests. Assumes nothing.
use mathlib.Core.Path.{◌≡◌, sym, ap, ◌∙◌}
use mathlib.Core.Logic.{◌↔◌}
use mathlib.Core.Bool.{Bool, true, false}
use mathlib.Core.List.{List, [], ◌∷◌, ◌++◌}
use Prim.Native.Nat.{◌-◌}
use lib.ListN.{replicate}
use Rattle.machines.specs.Machine.{Machine, onward, walk, Walks}
use Rattle.machines.proofs.Walk.{walk_append}
use Rattle.meaning.specs.declared.LimitSet.{LimitSet}
use Rattle.meaning.specs.Longest.{longest}
use Rattle.meaning.specs.Window.{recent}
use Rattle.meaning.specs.Sets.{KeptBy}
use Rattle.meaning.proofs.Search.{kept_by_iff}
use Rattle.meaning.proofs.WorkedRows.{any_miss}

abbrev strict : LimitSet
strict = any_miss 1 longest

abbrev miss_then_hits : List Bool
miss_then_hits = false ∷ replicate (longest - 2) true

-- the outcomes are kept and another miss isn't; after those that would be held, hits alone, it is
kept_so_far : KeptBy strict miss_then_hits
kept_so_far = (kept_by_iff strict miss_then_hits).0 tt

miss_loses : KeptBy strict (miss_then_hits ++ false ∷ []) → ⊥
miss_loses k = (kept_by_iff strict (miss_then_hits ++ false ∷ [])).1 k

miss_kept : KeptBy strict (recent miss_then_hits (longest - 2) ++ false ∷ [])
miss_kept = (kept_by_iff strict (recent miss_then_hits (longest - 2) ++ false ∷ [])).0 tt

pub one_fewer_falls_short : (m : Machine) → ((p : List Bool) → Walks m p ↔ KeptBy strict p) → KeptBy strict miss_then_hits × (walk m m.start (recent miss_then_hits (longest - 2)) ≡ walk m m.start miss_then_hits → ⊥)
one_fewer_falls_short m exact = (
  kept_so_far,
  λ e.
      let (s, w) = (exact (recent miss_then_hits (longest - 2) ++ false ∷ [])).1 miss_kept in
      miss_loses
      ((exact (miss_then_hits ++ false ∷ [])).0
      (s, walk_append m m.start miss_then_hits (false ∷ []) ∙ ap (λ z. onward z (λ t. walk m t (false ∷ []))) (sym e) ∙ sym (walk_append m m.start (recent miss_then_hits (longest - 2)) (false ∷ [])) ∙ w)),
)
