-- The stores of a round: none has a class before the first, h has one after its own, and after all of them each class is the least history of its signature. Assumes nothing.
use mathlib.Core.Path.{◌≡◌, sym, ap, ◌∙◌, subst}
use Rattle.std.specs.Prelude.{None}
use mathlib.Core.List.{List}
use Prim.Native.Nat.{ℕ, ◌+◌, ◌*◌, ◌≤◌, ◌<◌}
use native.Mathlib.Omega.{arith}
use lib.ListN.{length, get_or, set}
use lib.Seq.{get_or-set_same, get_or-set_other}
use Rattle.classes.specs.Area.{used}
use Rattle.classes.specs.Signature.{sig, bucket}
use Rattle.classes.specs.Chain.{new_class, head, link, bucket_of, Grouped, Placed, Joins, Found, Kept, Rounded}
use Rattle.classes.proofs.Keeping.{kept_trans, kept_set}
use Rattle.classes.proofs.Signatures.{sig_first, bucket_lt}
use Rattle.classes.proofs.Grow.{grouped_joined, grouped_alone, chained_joined, chained_alone}

module _ (w : List ℕ) (n h s : ℕ) (long : used n ≤ length w) (P : Placed w n h) (hn : h < n) (es : s ≡ sig w n h) where
  abbrev classed : ℕ → List ℕ
  classed r = set w (n + h) r

  pub placed_joined : (r : ℕ) → Joins w n h s r → Placed (classed r) n (h + 1) × Kept n w (classed r)
  placed_joined r J =
      let w₁ = classed r in
      let K = kept_set n w (n + h) r (omega arith) (omega arith) in
      let off : (k : ℕ) → (k ≡ n + h → ⊥) → get_or w₁ k 0 ≡ get_or w k 0 = λ k ne. get_or-set_other w (n + h) k r 0 ne in
      let new : new_class n w₁ h ≡ r = get_or-set_same w (n + h) r 0 (omega (arith, long)) in
      let old : (g : ℕ) → g < h → new_class n w₁ g ≡ new_class n w g = λ g gl. off (n + g) (omega arith) in (
        record {
          grouped = grouped_joined w w₁ n h hn K.first old P.grouped r J.below J.class (J.alike ∙ es) new;
          chained = chained_joined w w₁ n h hn K.first old P.chained (λ g gl. off (3 * n + g) (omega arith))
              (λ b bl. off (2 * n + b) (omega arith)) (omega arith);
        },
        K,
      )

  module _ (b : ℕ) (eb : b ≡ bucket n s) where
    abbrev w₁ : List ℕ
    w₁ = classed h

    abbrev w₂ : List ℕ
    w₂ = set w₁ (3 * n + h) (head n w₁ b)

    abbrev w₃ : List ℕ
    w₃ = set w₂ (2 * n + b) (h + 1)

    pub placed_alone : Found w n h s None → Placed w₃ n (h + 1) × Kept n w w₃
    placed_alone none_below =
        let bl : b < n = omega (arith, bucket_lt n s (omega arith)) in
        let own : b ≡ bucket_of w n h = eb ∙ ap (bucket n) es in
        let K₁ = kept_set n w (n + h) h (omega arith) (omega arith) in
        let K₂ = kept_set n w₁ (3 * n + h) (head n w₁ b) (omega arith) (omega arith) in
        let K₃ = kept_set n w₂ (2 * n + b) (h + 1) (omega arith) (omega arith) in
        let K = kept_trans n w w₁ w₃ K₁ (kept_trans n w₁ w₂ w₃ K₂ K₃) in
        let off : (k : ℕ) → (k ≡ n + h → ⊥) → (k ≡ 3 * n + h → ⊥) → (k ≡ 2 * n + b → ⊥) → get_or w₃ k 0 ≡ get_or w k 0 =
        λ k a c d. get_or-set_other w₂ (2 * n + b) k (h + 1) 0 d ∙ get_or-set_other w₁ (3 * n + h) k (head n w₁ b) 0 c ∙ get_or-set_other w (n + h) k h 0 a in
        let new : new_class n w₃ h ≡ h =
        get_or-set_other w₂ (2 * n + b) (n + h) (h + 1) 0 (omega arith) ∙ get_or-set_other w₁ (3 * n + h) (n + h) (head n w₁ b) 0 (omega arith)
        ∙ get_or-set_same w (n + h) h 0 (omega arith) in
        let top : head n w₃ b ≡ h + 1 = get_or-set_same w₂ (2 * n + b) (h + 1) 0 (omega (arith, K₁.within.length_stays, K₂.within.length_stays)) in
        let next : link n w₃ h ≡ head n w b =
        get_or-set_other w₂ (2 * n + b) (3 * n + h) (h + 1) 0 (omega arith)
        ∙ get_or-set_same w₁ (3 * n + h) (head n w₁ b) 0 (omega (arith, K₁.within.length_stays))
        ∙ get_or-set_other w (n + h) (2 * n + b) h 0 (omega arith) in
        let old : (g : ℕ) → g < h → new_class n w₃ g ≡ new_class n w g = λ g gl. off (n + g) (omega arith) (omega arith) (omega arith) in (
          record {
            grouped = grouped_alone w w₃ n h hn K.first old P.grouped (λ g gl c e. none_below g gl c (e ∙ sym es)) new;
            chained = chained_alone w w₃ n h hn K.first old P.chained (λ g gl. off (3 * n + g) (omega arith) (omega arith) (omega arith)) new
                (subst (λ z. head n w₃ z ≡ h + 1) own top)
                (λ c cl d. off (2 * n + c) (omega arith) (omega arith) (λ q. d (let z : c ≡ b = omega arith in z ∙ own)))
                (next ∙ ap (head n w) own);
          },
          K,
        )

-- at the end
module _ (n : ℕ) (w w' : List ℕ) (some_history : 1 ≤ n) (K : Kept n w w') (G : Grouped w' n n) where
  sig_was : (g : ℕ) → g < n → sig w' n g ≡ sig w n g
  sig_was g l = sig_first w w' n g K.first some_history l

  one_class : (g h : ℕ) → g < n → h < n → sig w' n g ≡ sig w' n h → new_class n w' g < new_class n w' h → ⊥
  one_class g h i l e less =
      G.apart (new_class n w' h) (new_class n w' g) (omega (arith, G.no_greater h l)) less (G.of_itself h l) (G.of_itself g i)
      (G.alike h l ∙ sym e ∙ sym (G.alike g i))

  pub rounded : Rounded n w w'
  rounded = record {
    kept = K;
    no_greater = G.no_greater;
    alike = λ h l. sym (sig_was (new_class n w' h) (omega (arith, G.no_greater h l))) ∙ G.alike h l ∙ sig_was h l;
    least = λ g h i l e.
        let no_less : new_class n w' g < new_class n w' h → ⊥ = one_class g h i l (sig_was g i ∙ e ∙ sym (sig_was h l)) in
        omega (arith, no_less, G.no_greater g i);
  }
