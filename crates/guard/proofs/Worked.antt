-- A guard on the table of AnyHit(1,2), asked after these bytes were told: panic after a miss, lost after two, a byte that is no outcome changes nothing, and a lost guard holds what it held before the losing miss and counts on. By computing. Assumes nothing.
use mathlib.Core.Path.{◌≡◌, refl}
use mathlib.Core.Bool.{true, false}
use mathlib.Core.List.{List, [], ◌∷◌, ◌++◌}
use Prim.Native.Nat.{ℕ}
use lib.ListN.{replicate}
use Rattle.std.specs.Prelude.{Ok}
use Rattle.table.specs.Shared.{first}
use Rattle.table.proofs.Worked.{any_hit_1_2}
use Rattle.guard.specs.declared.Guard.{Guard}
use Rattle.guard.specs.declared.Answer.{Answer}
use Rattle.guard.specs.declared.Answer.TheVariants.{Normal, Panic, Lost}
use Rattle.guard.specs.Guard.{fresh, AskedAs, lost_in}
use Rattle.guard.specs.Told.{told_all}

abbrev told : List ℕ → Guard
told bytes = told_all any_hit_1_2 fresh bytes

abbrev Answers : List ℕ → Answer → Type 0
Answers bytes a = AskedAs any_hit_1_2 (told bytes) (Ok a) (told bytes)

pub any_hit_1_2_answers :
    Answers [] Normal
    × Answers (0 ∷ []) Panic
    × Answers (0 ∷ 1 ∷ []) Normal
    × Answers (0 ∷ 2 ∷ []) Panic
    × Answers (0 ∷ 0 ∷ []) Lost
    × Answers (0 ∷ 0 ∷ 1 ∷ []) Lost
    × (told (0 ∷ 0 ∷ 1 ∷ []) ≡ lost_in 1 (replicate 14 true ++ false ∷ []) 3)
unfolding first
any_hit_1_2_answers = (
  record { refusal = refl; answer = (refl, (1, refl)); guard = refl },
  record { refusal = refl; answer = (refl, refl); guard = refl },
  record { refusal = refl; answer = (refl, (1, refl)); guard = refl },
  record { refusal = refl; answer = (refl, refl); guard = refl },
  record { refusal = refl; answer = refl; guard = refl },
  record { refusal = refl; answer = refl; guard = refl },
  refl,
)
