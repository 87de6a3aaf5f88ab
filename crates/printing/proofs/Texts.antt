-- The lines of a table: one more state is one more line, machines with one table have one text, and what the tests say decides the text. Assumes nothing.
use mathlib.Core.Path.{◌≡◌, refl, sym, ap, ap₂, ◌∙◌}
use mathlib.Core.Bool.{Bool, true, false}
use mathlib.Core.List.{[], ◌++◌, append_assoc, append-nil}
use Prim.Native.Nat.{ℕ, zero, suc, ◌+◌, ◌<◌}
use native.Mathlib.Nat.{add-zero}
use native.Mathlib.Numerals.{add-one}
use native.Mathlib.Omega.{arith}
use Rattle.layout.specs.Refusal.{Tested, passed}
use Rattle.machines.specs.Machine.{Machine}
use Rattle.machines.specs.Canonical.{OneTable}
use Rattle.printing.specs.Text.{line_of, state_line, state_lines, head_line, table_text, text_when}

module _ (m : Machine) where
  lines_snoc : (s n : ℕ) → state_lines m s (suc n) ≡ state_lines m s n ++ state_line m (s + n)
  unfolding state_lines
  lines_snoc s zero = append-nil (state_line m s) ∙ ap (state_line m) (sym (add-zero s))
  lines_snoc s (suc n) =
      let e : suc s + n ≡ s + suc n = omega arith in
      ap (λ z. state_line m s ++ z) (lines_snoc (suc s) n ∙ ap (λ k. state_lines m (suc s) n ++ state_line m k) e)
      ∙ sym (append_assoc (state_line m s) (state_lines m (suc s) n) (state_line m (s + suc n)))

  pub no_lines : state_lines m 0 0 ≡ []
  unfolding state_lines
  no_lines = refl

  pub one_more_line : (n : ℕ) → state_lines m 0 n ++ state_line m n ≡ state_lines m 0 (n + 1)
  one_more_line n =
      let e : 0 + n ≡ n = omega arith in
      sym (ap (state_lines m 0) (add-one n) ∙ lines_snoc 0 n ∙ ap (λ k. state_lines m 0 n ++ state_line m k) e)

  pub passed_text : (t : Tested) (n : ℕ) → t ≡ passed → n ≡ m.states → head_line n ++ state_lines m 0 n ≡ text_when t m
  passed_text t n e l = ap (λ k. head_line k ++ state_lines m 0 k) l ∙ sym (ap (λ z. text_when z m) e)

lines_alike : (m n : Machine) (s k : ℕ) → ((j : ℕ) (o : Bool) → j < s + k → m.next j o ≡ n.next j o) → state_lines m s k ≡ state_lines n s k
unfolding state_lines
lines_alike m n s zero a = refl
lines_alike m n s (suc k) a =
    ap₂ (λ x y. x ++ y)
    (ap₂ (line_of s) (a s false (omega arith)) (a s true (omega arith)))
    (lines_alike m n (suc s) k (λ j o h. a j o (omega arith)))

pub text_of_one_table : (m n : Machine) → OneTable m n → table_text m ≡ table_text n
text_of_one_table m n e =
    ap (λ z. head_line m.states ++ z) (lines_alike m n 0 m.states (λ j o h. e.moves j o (omega arith)))
    ∙ ap (λ k. head_line k ++ state_lines n 0 k) e.states
