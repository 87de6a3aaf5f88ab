-- By which numbers a set can be refused: its bytes by 1 to 7 and 21, a set in memory by 3, 5 to 7 and 21; and when by 21. Assumes nothing.
use mathlib.Core.Path.{◌≡◌, refl, sym, ap, ◌∙◌, subst}
use mathlib.Core.Logic.{◌↔◌, ◌⊎◌, inl, inr, ⊎_elim, ite, if_pos}
use mathlib.Core.Bool.{true, false, cond}
use mathlib.Core.List.{List, [], ◌∷◌, ◌++◌, append_assoc}
use Prim.Native.Nat.{ℕ, zero, suc, ◌≤◌}
use native.Mathlib.Omega.{arith}
use Rattle.layout.specs.Refusal.{Row, Tested, passed, refused, first}
use Rattle.layout.proofs.Rows.{and_then, first_append, first_here, passed_before, passed_not_refused, Numbers, FromTo, first_number, numbers_append, numbers_among}
use Rattle.meaning.specs.declared.LimitSet.{LimitSet}
use Rattle.meaning.specs.Sets.{LimitsNothing}
use Rattle.meaning.proofs.Nothing.{nothing_dec}
use Rattle.sets.specs.Bytes.{set_of, count_of}
use Rattle.sets.specs.Rows.{limits_rows, limits_nothing, nothing_row, head_rows, set_rows, memory_rows}

limits_numbers : (w : ℕ) (s : LimitSet) (i n : ℕ) → Numbers (FromTo 5 7) (limits_rows w s i n)
unfolding limits_rows
limits_numbers w s i zero = tt
limits_numbers w s i (suc n) = ((omega arith, omega arith), ((omega arith, omega arith), ((omega arith, omega arith), limits_numbers w s (suc i) n)))

-- 1 to 7
abbrev pub seven_rows : (w : ℕ) → List ℕ → List Row
seven_rows w b = head_rows b ++ limits_rows w (set_of b) 0 (count_of b)

seven_numbers : (w : ℕ) (b : List ℕ) → Numbers (FromTo 1 7) (seven_rows w b)
seven_numbers w b =
    let limits = limits_rows w (set_of b) 0 (count_of b) in
    numbers_append (FromTo 1 7) (head_rows b) limits
    ((omega arith, omega arith), ((omega arith, omega arith), ((omega arith, omega arith), ((omega arith, omega arith), tt))))
    (numbers_among (FromTo 5 7) (FromTo 1 7) (λ n (l, h). (omega arith, omega arith)) limits (limits_numbers w (set_of b) 0 (count_of b)))

-- and then 21
seven_and_nothing : (w : ℕ) (b : List ℕ) → set_rows w b ≡ seven_rows w b ++ nothing_row (set_of b) ∷ []
seven_and_nothing w b = sym (append_assoc (head_rows b) (limits_rows w (set_of b) 0 (count_of b)) (nothing_row (set_of b) ∷ []))

abbrev pub SetNumber : ℕ → Type 0
SetNumber n = FromTo 1 7 n ⊎ (n ≡ 21)

pub set_numbers : (w : ℕ) (b : List ℕ) → Numbers SetNumber (set_rows w b)
set_numbers w b =
    subst (Numbers SetNumber) (sym (seven_and_nothing w b))
    (numbers_append SetNumber (seven_rows w b) (nothing_row (set_of b) ∷ []) (numbers_among (FromTo 1 7) SetNumber (λ n h. inl h) (seven_rows w b) (seven_numbers w b)) (inr refl, tt))

pub set_positive : (n : ℕ) → SetNumber n → 1 ≤ n
set_positive n = ⊎_elim (λ (l, h). l) (λ e. omega arith)

-- a set is refused by 21 exactly where it is refused by none of 1 to 7 and keeps every pattern
pub nothing_refused : (w : ℕ) (b : List ℕ) → (first (set_rows w b) ≡ refused 21 0) ↔ ((first (seven_rows w b) ≡ passed) × LimitsNothing (set_of b))
unfolding first
nothing_refused w b = (
  λ e. go (first (seven_rows w b)) refl (sym (first_append (seven_rows w b) last) ∙ ap first (sym (seven_and_nothing w b)) ∙ e),
  λ (e, n). ap first (seven_and_nothing w b) ∙ passed_before (seven_rows w b) last e ∙ first_here 21 0 (limits_nothing (set_of b)) [] (if_pos (nothing_dec (set_of b)) n true false),
)
  where
    last : List Row
    last = nothing_row (set_of b) ∷ []

    decided : (d : Dec (LimitsNothing (set_of b))) → cond (ite d true false) (refused 21 0) passed ≡ refused 21 0 → LimitsNothing (set_of b)
    decided (yes n) e = n
    decided (no f) e = absurd (passed_not_refused e)

    go : (t : Tested) → first (seven_rows w b) ≡ t → and_then t (first last) ≡ refused 21 0 → (first (seven_rows w b) ≡ passed) × LimitsNothing (set_of b)
    go passed f e = (f, decided (nothing_dec (set_of b)) e)
    go (refused n v) f e =
        let z : n ≡ 21 = cc in
        let (low, high) = first_number (FromTo 1 7) (seven_rows w b) n v (seven_numbers w b) f in
        absurd (omega arith)

-- a set in memory
abbrev pub MemoryNumber : ℕ → Type 0
MemoryNumber n = (n ≡ 3) ⊎ (FromTo 5 7 n ⊎ (n ≡ 21))

pub memory_numbers : (w : ℕ) (s : LimitSet) → Numbers MemoryNumber (memory_rows w s)
memory_numbers w s =
    let limits = limits_rows w s 0 s.count in (
      inl refl,
      numbers_append MemoryNumber limits (nothing_row s ∷ []) (numbers_among (FromTo 5 7) MemoryNumber (λ n h. inr (inl h)) limits (limits_numbers w s 0 s.count)) (inr (inr refl), tt),
    )
