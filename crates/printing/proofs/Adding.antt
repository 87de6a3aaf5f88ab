-- Adding at a place of a buffer: nothing, one piece after another, a text byte by byte, and from the start. Assumes nothing.
use mathlib.Core.Path.{◌≡◌, refl, sym, ap, ap₂, ◌∙◌, subst}
use mathlib.Core.Logic.{dite}
use mathlib.Core.List.{List, [], ◌∷◌, ◌++◌, append_assoc, append-nil}
use Prim.Native.Nat.{ℕ, ◌+◌, ◌-◌, ◌≤◌, ◌<◌}
use native.Mathlib.Decide.{dec_le}
use native.Mathlib.Numerals.{add-one}
use native.Mathlib.Omega.{arith}
use lib.ListN.{length, get_or, take, drop, length-append, length-take, length-drop, take-append-drop, drop_of_length-le}
use lib.Seq.{take_all, take-append-le, take-append-add, take-nil, take-suc, take_at, drop-append-add, drop-drop}
use Rattle.printing.specs.declared.put.Text.{Text}
use Rattle.printing.specs.Cut.{Holds, Adds}
use Rattle.printing.specs.Put.{Puts}

-- the buffer with more in it
abbrev with : (more out : List ℕ) → (at : ℕ) → List ℕ
with more out at = take at out ++ (take (length out - at) more ++ drop (at + length more) out)

pub adds_nothing : (out : List ℕ) (at : ℕ) → Adds [] out at out at
adds_nothing out at =
    let e : at + length {A = ℕ} [] ≡ at = omega arith in
    record {
      place = omega arith;
      bytes = sym (ap₂ (λ a k. take at out ++ (a ++ drop k out)) (take-nil (length out - at)) e ∙ take-append-drop at out);
    }

-- at the buffer's end, or past it
nothing_fits : (more out : List ℕ) (at : ℕ) → length out ≤ at → with more out at ≡ out
nothing_fits more out at h =
    let e : length out - at ≡ 0 = omega arith in
    ap₂ (λ a b. a ++ b) (take_all at out h) (ap₂ (λ k b. take k more ++ b) e (drop_of_length-le out {i = at + length more} (omega arith)))
    ∙ append-nil out

module _ {a b o₁ o₂ o₃ : List ℕ} {p₁ p₂ p₃ : ℕ} (f : Adds a o₁ p₁ o₂ p₂) (g : Adds b o₂ p₂ o₃ p₃) where
  both_lengths : length (a ++ b) ≡ length a + length b
  both_lengths = length-append a b

  room_stays : length o₂ ≡ length o₁
  room_stays = ap length f.bytes ∙ simp (length-append, length-take, length-drop) (omega arith)

  first_fits : p₁ + length a ≤ length o₁ → with b o₂ p₂ ≡ with (a ++ b) o₁ p₁
  first_fits h =
      let x = take p₁ o₁ ++ a in
      let rest = drop (p₁ + length a) o₁ in
      let held : o₂ ≡ x ++ rest = f.bytes ∙ ap (λ z. take p₁ o₁ ++ (z ++ rest)) (take_all (length o₁ - p₁) a (omega arith)) ∙ sym (append_assoc (take p₁ o₁) a rest) in
      let q : length x ≡ p₂ = length-append (take p₁ o₁) a ∙ omega (arith, length-take p₁ o₁, f.place) in
      let before : take p₂ o₂ ≡ x = ap (take p₂) held ∙ take_at x rest p₂ q in
      let k : length o₁ - p₁ ≡ length a + (length o₂ - p₂) = omega (arith, f.place, room_stays) in
      let between : take (length o₁ - p₁) (a ++ b) ≡ a ++ take (length o₂ - p₂) b = ap (λ z. take z (a ++ b)) k ∙ take-append-add a b (length o₂ - p₂) in
      let j : p₁ + length a + length b ≡ p₁ + length (a ++ b) = omega (arith, both_lengths) in
      let behind : drop (p₂ + length b) o₂ ≡ drop (p₁ + length (a ++ b)) o₁ =
      ap₂ (λ z l. drop (z + length b) l) (sym q) held ∙ drop-append-add x rest (length b) ∙ drop-drop (length b) (p₁ + length a) o₁ ∙ ap (λ z. drop z o₁) j in
      ap₂ (λ y z. y ++ (take (length o₂ - p₂) b ++ z)) before behind
      ∙ sym (ap (λ z. take p₁ o₁ ++ (z ++ drop (p₁ + length (a ++ b)) o₁)) between ∙ (simp append_assoc))

  first_cut_off : length o₁ ≤ p₁ + length a → with b o₂ p₂ ≡ with (a ++ b) o₁ p₁
  first_cut_off h =
      nothing_fits b o₂ p₂ (omega (arith, f.place, room_stays)) ∙ f.bytes
      ∙ ap₂ (λ y z. take p₁ o₁ ++ (y ++ z)) (sym (take-append-le (length o₁ - p₁) a b (omega arith)))
      (drop_of_length-le o₁ {i = p₁ + length a} h ∙ sym (drop_of_length-le o₁ {i = p₁ + length (a ++ b)} (omega (arith, both_lengths))))

  pub adds_then : Adds (a ++ b) o₁ p₁ o₃ p₃
  adds_then = record {
    place = omega (arith, f.place, g.place, both_lengths, room_stays);
    bytes = g.bytes ∙ dite (dec_le (p₁ + length a) (length o₁)) first_fits (λ h. first_cut_off (omega arith));
  }

pub adds_same : {a b o o' : List ℕ} {p p' : ℕ} → a ≡ b → Adds a o p o' p' → Adds b o p o' p'
adds_same {a} {b} {o} {o'} {p} {p'} e f = subst (λ z. Adds z o p o' p') e f

-- one piece put after another, and one byte more of a text
pub puts_same : {a b : List ℕ} {t t' : Text} → a ≡ b → Puts a t t' → Puts b t t'
puts_same e f = record { buffer = f.buffer; added = adds_same e f.added }

pub puts_nothing : (t : Text) → Puts [] t t
puts_nothing t = record { buffer = refl; added = adds_nothing t.out.now t.at }

pub puts_then : {a b : List ℕ} {t u v : Text} → Puts a t u → Puts b u v → Puts (a ++ b) t v
puts_then f g = record { buffer = g.buffer ∙ f.buffer; added = adds_then f.added g.added }

pub puts_next : {t u v : Text} (text : List ℕ) (i : ℕ) → i < length text → Puts (take i text) t u → Puts (get_or text i 0 ∷ []) u v → Puts (take (i + 1) text) t v
puts_next text i h f g = puts_same (sym (ap (λ k. take k text) (add-one i) ∙ take-suc text i 0 h)) (puts_then f g)

-- a text put into a buffer that nothing was put into before
pub holds_text : (text out : List ℕ) (t t' : Text) → t.out.now ≡ out → t.at ≡ 0 → Puts text t t' → Holds text out t'.out.now t'.at
holds_text text out t t' same start f =
    let e : length out - 0 ≡ length out = omega arith in
    let k : 0 + length text ≡ length text = omega arith in
    let g : Adds text out 0 t'.out.now t'.at = subst (λ z. Adds text z 0 t'.out.now t'.at) same (subst (λ z. Adds text t.out.now z t'.out.now t'.at) start f.added) in
    record { place = omega (arith, g.place); bytes = g.bytes ∙ ap₂ (λ n m. take n text ++ drop m out) e k }
