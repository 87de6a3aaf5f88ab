-- Demand 3: "Two accepted sets, given room, yield the same table, byte for byte, exactly when they keep the same finite patterns; and no machine with fewer states walks exactly those patterns." Assumes nothing.
use mathlib.Core.Path.{◌≡◌, refl, sym, ◌∙◌, subst}
use mathlib.Core.Logic.Iff
use mathlib.Core.Logic.{◌↔◌}
use mathlib.Core.Bool.{Bool}
use mathlib.Core.List.{List}
use Prim.Native.Nat.{ℕ, ◌≤◌}
use native.Mathlib.Omega.{arith}
use lib.ListN.{take}
use Rattle.std.specs.Prelude.{Result}
use Rattle.layout.specs.declared.Refused.{Refused}
use Rattle.layout.specs.Refusal.{passed, first}
use Rattle.layout.specs.Write.{length_of}
use Rattle.machines.specs.Machine.{Machine, WellMade, Can, Walks}
use Rattle.machines.proofs.Unique.{canonical_unique}
use Rattle.machines.proofs.Fewest.{canonical_fewest}
use Rattle.meaning.specs.Sets.{KeptBy}
use Rattle.meaning.specs.Longest.{longest}
use Rattle.sets.specs.Bytes.{set_of}
use Rattle.table.specs.Bytes.{machine_of, state_count}
use Rattle.table.specs.Rows.{table_rows, most_states}
use Rattle.table.proofs.Bytes.{bytes_of_one_table}
use Rattle.builder.specs.Build.{BuiltAs}
use Rattle.builder.proofs.BuiltTables.{no_more_states}
use Rattle.demands.specs.TableOf.{TableOf, GivenRoom}
use Rattle.demands.proofs.Tables.{canonical_machine, made_allowed, made_canonical, made_bytes, made_checked, made_one_table, made_walks_kept}
use Rattle.demands.proofs.Room.{room_suffices}

-- An accepted set that is given room yields a table: it is never refused. In either edition, the library's or the printing program's: `widest` is its longest window.
pub accepted_yields_table : (widest : ℕ) → widest ≤ longest → (set work work' table table' : List ℕ) (r : Result ℕ Refused) → GivenRoom widest set work table → BuiltAs widest set work work' table table' r
    → TableOf set (take (length_of r) table')
accepted_yields_table widest edition set work work' table table' r given built =
    let e = room_suffices widest set work work' table table' r given built in
    record {
      widest = widest;
      edition = edition;
      work = work;
      work' = work';
      table = table;
      table' = table';
      size = length_of r;
      built = subst (λ z. BuiltAs widest set work work' table table' z) e built;
      bytes = refl;
    }

-- Two such tables are the same, byte for byte, exactly when the sets keep the same patterns.
module _ (set₁ set₂ b₁ b₂ : List ℕ) (t₁ : TableOf set₁ b₁) (t₂ : TableOf set₂ b₂) where
  pub same_bytes_same_patterns : (b₁ ≡ b₂) ↔ ((p : List Bool) → KeptBy (set_of set₁) p ↔ KeptBy (set_of set₂) p)
  same_bytes_same_patterns = (
    λ e p. Iff.trans (Iff.symm (made_walks_kept set₁ b₁ t₁ p)) (Iff.trans (by e p) (made_walks_kept set₂ b₂ t₂ p)),
    λ alike. made_bytes set₁ b₁ t₁
        ∙ bytes_of_one_table (canonical_machine set₁ b₁ t₁) (canonical_machine set₂ b₂ t₂)
        (canonical_unique (canonical_machine set₁ b₁ t₁) (canonical_machine set₂ b₂ t₂) (KeptBy (set_of set₁)) (KeptBy (set_of set₂))
        (made_canonical set₁ b₁ t₁) (made_canonical set₂ b₂ t₂) alike)
        ∙ sym (made_bytes set₂ b₂ t₂),
  )
    where
      by : b₁ ≡ b₂ → (p : List Bool) → Can (machine_of b₁) 0 p ↔ Can (machine_of b₂) 0 p
      by e p = (λ c. subst (λ z. Can (machine_of z) 0 p) e c, λ c. subst (λ z. Can (machine_of z) 0 p) (sym e) c)

-- The demand whole: from acceptance and room, whatever the builder answered; for two sets of one edition, and for one of each too.
pub accepted_sets_agree : (widest₁ : ℕ) → widest₁ ≤ longest → (set₁ work₁ work₁' table₁ table₁' : List ℕ) (r₁ : Result ℕ Refused) → GivenRoom widest₁ set₁ work₁ table₁ → BuiltAs widest₁ set₁ work₁ work₁' table₁ table₁' r₁
    → (widest₂ : ℕ) → widest₂ ≤ longest → (set₂ work₂ work₂' table₂ table₂' : List ℕ) (r₂ : Result ℕ Refused) → GivenRoom widest₂ set₂ work₂ table₂ → BuiltAs widest₂ set₂ work₂ work₂' table₂ table₂' r₂
    → (take (length_of r₁) table₁' ≡ take (length_of r₂) table₂') ↔ ((p : List Bool) → KeptBy (set_of set₁) p ↔ KeptBy (set_of set₂) p)
accepted_sets_agree widest₁ edition₁ set₁ work₁ work₁' table₁ table₁' r₁ given₁ built₁ widest₂ edition₂ set₂ work₂ work₂' table₂ table₂' r₂ given₂ built₂ =
    same_bytes_same_patterns set₁ set₂ (take (length_of r₁) table₁') (take (length_of r₂) table₂')
    (accepted_yields_table widest₁ edition₁ set₁ work₁ work₁' table₁ table₁' r₁ given₁ built₁) (accepted_yields_table widest₂ edition₂ set₂ work₂ work₂' table₂ table₂' r₂ given₂ built₂)

module _ (set b : List ℕ) (t : TableOf set b) where
  -- No machine with fewer states walks exactly those patterns.
  pub table_fewest : (n : Machine) → WellMade n → ((p : List Bool) → Walks n p ↔ KeptBy (set_of set) p) → state_count b ≤ n.states
  table_fewest n w walks =
      let f = canonical_fewest (canonical_machine set b t) n (KeptBy (set_of set)) (made_canonical set b t) w walks in
      let e = (made_one_table set b t).states in
      omega arith

  pub table_states : state_count b ≤ most_states
  table_states =
      let f = no_more_states longest (set_of set) (made_allowed set b t) (canonical_machine set b t) (made_canonical set b t) in
      let e = (made_one_table set b t).states in
      omega arith

  pub table_passes_check : first (table_rows b) ≡ passed
  table_passes_check = made_checked set b t
