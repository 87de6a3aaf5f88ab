-- By which numbers the builder can refuse, and what a refusal's number says of the work area: by 9 it is cleared, by every other it is as it was. Assumes nothing.
use mathlib.Core.Path.{◌≡◌, refl, sym, ◌∙◌}
use mathlib.Core.Logic.{◌⊎◌, inl, inr, ⊎_elim}
use mathlib.Core.List.{List, [], ◌∷◌, ◌++◌}
use Prim.Native.Nat.{ℕ, ◌≤◌}
use native.Mathlib.Omega.{arith}
use Rattle.layout.specs.Refusal.{Row, Tested, passed, refused, first}
use Rattle.layout.specs.Write.{room_row}
use Rattle.layout.proofs.Rows.{and_then, first_append, Numbers, FromTo, first_number, numbers_append, numbers_among}
use Rattle.sets.specs.Rows.{set_rows}
use Rattle.sets.proofs.Numbers.{SetNumber, set_numbers}
use Rattle.builder.specs.Build.{area_row, early_rows, build_rows, Cleared, WorkAfter}

abbrev pub EarlyNumber : ℕ → Type 0
EarlyNumber n = FromTo 1 8 n ⊎ (n ≡ 21)

abbrev pub BuildNumber : ℕ → Type 0
BuildNumber n = FromTo 1 9 n ⊎ (n ≡ 21)

pub build_positive : (n : ℕ) → BuildNumber n → 1 ≤ n
build_positive n = ⊎_elim (λ (l, h). l) (λ e. omega arith)

pub early_numbers : (w : ℕ) (set work : List ℕ) → Numbers EarlyNumber (early_rows w set work)
early_numbers w set work =
    numbers_append EarlyNumber (set_rows w set) (area_row w work ∷ [])
    (numbers_among SetNumber EarlyNumber (λ n. ⊎_elim (λ (l, h). inl (omega arith, omega arith)) (λ e. inr e)) (set_rows w set) (set_numbers w set)) (inl (omega arith, omega arith), tt)

module _ (early : List Row) (table : List ℕ) (size : ℕ) (numbers : Numbers EarlyNumber early) where
  -- rows tested before the work area is used, and then the room
  abbrev pub with_room : List Row
  with_room = early ++ room_row table size ∷ []

  pub room_numbers : Numbers BuildNumber with_room
  room_numbers =
      numbers_append BuildNumber early (room_row table size ∷ [])
      (numbers_among EarlyNumber BuildNumber (λ n. ⊎_elim (λ (l, h). inl (omega arith, omega arith)) (λ e. inr e)) early numbers) (inl (omega arith, omega arith), tt)

  pub work_by_number : (w : ℕ) (work work' : List ℕ) (n v : ℕ) → first with_room ≡ refused n v → WorkAfter w (first early) work work' → ((n ≡ 9 → ⊥) → work' ≡ work) × (n ≡ 9 → Cleared w work work')
  work_by_number w work work' n v e = go (first early) refl (sym (first_append early (room_row table size ∷ [])) ∙ e)
    where
      go : (t : Tested) → first early ≡ t → and_then t (first (room_row table size ∷ [])) ≡ refused n v → WorkAfter w t work work' → ((n ≡ 9 → ⊥) → work' ≡ work) × (n ≡ 9 → Cleared w work work')
      go passed f q after =
          let nine = first_number (λ k. k ≡ 9) (room_row table size ∷ []) n v (refl, tt) q in
          (λ h. absurd (h nine), λ h. after)
      go (refused k u) f q after =
          let z : k ≡ n = cc in
          (λ h. after, λ h. absurd (⊎_elim (λ (low, high). omega arith) (λ g. omega arith) (first_number EarlyNumber early k u numbers f)))

pub build_numbers : (w : ℕ) (set work table : List ℕ) (size : ℕ) → Numbers BuildNumber (build_rows w set work table size)
build_numbers w set work table size = room_numbers (early_rows w set work) table size (early_numbers w set work)
