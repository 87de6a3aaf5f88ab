-- A refusal's line says its number and its value: both are read back from it, and no table's text is such a line. Assumes nothing.
use mathlib.Core.Path.{◌≡◌, sym, ap, ap₂, ◌∙◌}
use mathlib.Core.Logic.{◌↔◌, dite}
use mathlib.Core.Bool.{cond}
use mathlib.Core.List.{List, [], ◌∷◌, ◌++◌, append_assoc}
use Prim.Native.Nat.{ℕ, zero, suc, ◌+◌, ◌-◌, ◌*◌, ◌/◌, ◌%◌}
use native.Mathlib.Decide.{dec_lt}
use native.Mathlib.Omega.{arith}
use borrow.Author.Tests.{le-ltb}
use lib.Dec.{ltb}
use lib.ListN.{length, get_or, drop}
use lib.Seq.{drop-append_seam}
use Rattle.layout.specs.Refusal.{Tested, passed, refused}
use Rattle.layout.proofs.Rows.{passed_not_refused}
use Rattle.machines.specs.Machine.{Machine}
use Rattle.printing.specs.Text.{ascii, digit, decimal_in, decimal, table_text, refusal_text, text_when}
use Rattle.printing.proofs.Digits.{one_digit, more_digits}

-- the number that goes on with a text's first digits; a space and a newline are less than every digit and end it
abbrev number : ℕ → List ℕ → ℕ
number n [] = n
number n (b ∷ text) = cond (ltb b 48) n (number (n * 10 + (b - 48)) text)

one_more : (n d : ℕ) (rest : List ℕ) → number n (digit d ∷ rest) ≡ number (n * 10 + d) rest
one_more n d rest =
    let e : n * 10 + (48 + d - 48) ≡ n * 10 + d = omega arith in
    ap₂ (λ b k. cond b n (number k rest)) (le-ltb (48 + d) 48 (omega arith)) e

digits_read : (turns n : ℕ) (rest : List ℕ) → number 0 (decimal_in turns n ++ rest) ≡ number n rest
unfolding decimal_in
digits_read zero n rest = one_more 0 n rest ∙ ap (λ k. number k rest) (omega arith)
digits_read (suc turns) n rest =
    dite (dec_lt n 10)
    (λ l. ap (λ z. number 0 (z ++ rest)) (one_digit (suc turns) n l) ∙ one_more 0 n rest ∙ ap (λ k. number k rest) (omega arith))
    (λ l.
    ap (λ z. number 0 (z ++ rest)) (more_digits turns n (omega arith))
    ∙ ap (number 0) (append_assoc (decimal_in turns (n / 10)) (digit (n % 10) ∷ []) rest)
    ∙ digits_read turns (n / 10) (digit (n % 10) ∷ rest)
    ∙ one_more (n / 10) (n % 10) rest
    ∙ ap (λ k. number k rest) (omega arith))

number_read : (n v : ℕ) → number 0 (drop 8 (refusal_text n v)) ≡ n
number_read n v = simp append_assoc (digits_read n n _)

abbrev before_value : ℕ → List ℕ
before_value n = ascii "refused " ++ decimal n ++ ascii " at "

value_read : (n v : ℕ) → number 0 (drop (length (before_value n)) (refusal_text n v)) ≡ v
value_read n v =
    ap (λ z. number 0 (drop (length (before_value n)) z)) (append_assoc (before_value n) (decimal v) (ascii "\n"))
    ∙ ap (number 0) (drop-append_seam (before_value n) (decimal v ++ ascii "\n"))
    ∙ digits_read v v (ascii "\n")

pub refusal_read_back : (n v k u : ℕ) → refusal_text n v ≡ refusal_text k u → (n ≡ k) × (v ≡ u)
refusal_read_back n v k u e =
    let a : n ≡ k = sym (number_read n v) ∙ ap (λ z. number 0 (drop 8 z)) e ∙ number_read k u in
    (a, sym (value_read n v) ∙ ap₂ (λ x z. number 0 (drop (length (before_value x)) z)) a e ∙ value_read k u)

-- one begins with s, the other with r
table_no_refusal : (m : Machine) (n v : ℕ) → table_text m ≡ refusal_text n v → ⊥
table_no_refusal m n v e = let z : ◌≡◌ {A = ℕ} 115 114 = ap (λ t. get_or t 0 0) e in omega arith

pub text_refuses : (t : Tested) (m : Machine) (n v : ℕ) → (text_when t m ≡ refusal_text n v) ↔ (t ≡ refused n v)
text_refuses passed m n v = (λ e. absurd (table_no_refusal m n v e), λ e. absurd (passed_not_refused e))
text_refuses (refused k u) m n v = (λ e. let (a, b) = refusal_read_back k u n v e in ap₂ refused a b, λ e. ap (λ z. text_when z m) e)
