-- One history more gets its class: what is known of the classes and chains below h is known below h + 1, since only the places of h and of its bucket change. Assumes nothing.
use mathlib.Core.Path.{◌≡◌, refl, sym, ap, ◌∙◌, subst}
use mathlib.Core.List.{List}
use Prim.Native.Nat.{ℕ, ◌+◌, ◌-◌, ◌≤◌, ◌<◌}
use native.Mathlib.Decide.{ℕ_discrete}
use native.Mathlib.Omega.{arith}
use borrow.Author.Count.{below_more}
use Rattle.classes.specs.Signature.{sig, bucket}
use Rattle.classes.specs.Chain.{new_class, head, link, bucket_of, Grouped, Entry, Chained}
use Rattle.classes.proofs.Signatures.{Firsts, sig_first, bucket_lt}

-- w' is w with h placed
module _ (w w' : List ℕ) (n h : ℕ) (hn : h < n) (first : Firsts n w w')
    (old : (g : ℕ) → g < h → new_class n w' g ≡ new_class n w g) where
  sig_keeps : (g : ℕ) → g ≤ h → sig w' n g ≡ sig w n g
  sig_keeps g l = sig_first w w' n g first (omega arith) (omega arith)

  bucket_keeps : (g : ℕ) → g ≤ h → bucket_of w' n g ≡ bucket_of w n g
  bucket_keeps g l = ap (bucket n) (sig_keeps g l)

  in_range : (g : ℕ) → bucket_of w n g < n
  in_range g = bucket_lt n (sig w n g) (omega arith)

  class_was : (g : ℕ) → g < h → new_class n w' g ≡ g → new_class n w g ≡ g
  class_was g l r = sym (old g l) ∙ r

  module _ (I : Grouped w n h) where
    old_of_itself : (g : ℕ) → g < h → new_class n w' (new_class n w' g) ≡ new_class n w' g
    old_of_itself g l = ap (new_class n w') (old g l) ∙ old (new_class n w g) (omega (arith, I.no_greater g l)) ∙ I.of_itself g l ∙ sym (old g l)

    old_alike : (g : ℕ) → g < h → sig w' n (new_class n w' g) ≡ sig w' n g
    old_alike g l =
        ap (sig w' n) (old g l) ∙ sig_keeps (new_class n w g) (omega (arith, I.no_greater g l)) ∙ I.alike g l ∙ sym (sig_keeps g (omega arith))

    abbrev Apart : ℕ → Type 0
    Apart g = (k : ℕ) → k < g → new_class n w' g ≡ g → new_class n w' k ≡ k → sig w' n g ≡ sig w' n k → ⊥

    old_apart : (g : ℕ) → g < h → Apart g
    old_apart g l k kl rg rk s =
        I.apart g k l kl (class_was g l rg) (class_was k (omega arith) rk) (sym (sig_keeps g (omega arith)) ∙ s ∙ sig_keeps k (omega arith))

    grouped : new_class n w' h ≤ h → new_class n w' (new_class n w' h) ≡ new_class n w' h → sig w' n (new_class n w' h) ≡ sig w' n h → Apart h → Grouped w' n (h + 1)
    grouped a b c d = record {
      no_greater = below_more _ h (λ g l. omega (arith, old g l, I.no_greater g l)) a;
      of_itself = below_more _ h old_of_itself b;
      alike = below_more _ h old_alike c;
      apart = λ g k l. below_more Apart h old_apart d g l k;
    }

    -- h has an earlier class r
    pub grouped_joined : (r : ℕ) → r < h → new_class n w r ≡ r → sig w n r ≡ sig w n h → new_class n w' h ≡ r → Grouped w' n (h + 1)
    grouped_joined r rl rr rs new =
        grouped (omega arith)
        (ap (new_class n w') new ∙ old r rl ∙ rr ∙ sym new)
        (ap (sig w' n) new ∙ sig_keeps r (omega arith) ∙ rs ∙ sym (sig_keeps h (omega arith)))
        (λ k kl rg rk s. omega arith)

    -- h is a class of its own
    pub grouped_alone : ((g : ℕ) → g < h → new_class n w g ≡ g → sig w n g ≡ sig w n h → ⊥) → new_class n w' h ≡ h → Grouped w' n (h + 1)
    grouped_alone none new =
        grouped (omega arith) (ap (new_class n w') new) (ap (sig w' n) new) (λ k kl rg rk s.
        none k kl (class_was k kl rk) (sym (sig_keeps k (omega arith)) ∙ sym s ∙ sig_keeps h (omega arith)))

  -- an entry below h stays one
  entry_keeps : (i b c c' : ℕ) → i ≤ h → Entry w n i b c → c' ≡ c → (i' b' : ℕ) → i ≤ i' → b' ≡ b → Entry w' n i' b' c'
  entry_keeps i b c c' il E e i' b' ii eb = record {
    no_greater = omega (arith, E.no_greater);
    class = λ p. ap (λ x. new_class n w' (x - 1)) e ∙ old (c - 1) (omega (arith, E.no_greater)) ∙ E.class (omega arith) ∙ ap (λ x. x - 1) (sym e);
    of_bucket = λ p. ap (λ x. bucket_of w' n (x - 1)) e ∙ bucket_keeps (c - 1) (omega (arith, E.no_greater)) ∙ E.of_bucket (omega arith) ∙ sym eb;
  }

  module _ (C : Chained w n h) (links : (g : ℕ) → g < h → link n w' g ≡ link n w g) where
    old_links : (g : ℕ) → g < h → new_class n w' g ≡ g → Entry w' n g (bucket_of w' n g) (link n w' g)
    old_links g l r =
        entry_keeps g (bucket_of w n g) (link n w g) (link n w' g) (omega arith) (C.links g l (class_was g l r)) (links g l) g (bucket_of w' n g) (omega arith)
        (bucket_keeps g (omega arith))

    abbrev Most : ℕ → Type 0
    Most g = (k : ℕ) → k < g → new_class n w' g ≡ g → new_class n w' k ≡ k → bucket_of w' n k ≡ bucket_of w' n g → k < link n w' g

    old_most : (g : ℕ) → g < h → Most g
    old_most g l k kl rg rk e =
        omega (
          arith,
          links g l,
          C.link_most g k l kl (class_was g l rg) (class_was k (omega arith) rk)
              (sym (bucket_keeps k (omega arith)) ∙ e ∙ bucket_keeps g (omega arith)),
        )

    -- where a head stays, it is above its classes
    head_stays : (g : ℕ) → g < h → new_class n w' g ≡ g → head n w' (bucket_of w n g) ≡ head n w (bucket_of w n g) → g < head n w' (bucket_of w' n g)
    head_stays g l r e =
        subst (λ x. g < x) (sym (ap (head n w') (bucket_keeps g (omega arith)) ∙ e)) (C.head_most g l (class_was g l r))

    pub chained_joined : ((b : ℕ) → b < n → head n w' b ≡ head n w b) → new_class n w' h < h → Chained w' n (h + 1)
    chained_joined heads less = record {
      heads = λ b bl. entry_keeps h b (head n w b) (head n w' b) (omega arith) (C.heads b bl) (heads b bl) (h + 1) b (omega arith) refl;
      links = below_more _ h old_links (λ r. absurd (omega arith));
      head_most = below_more _ h (λ g l r. head_stays g l r (heads (bucket_of w n g) (in_range g))) (λ r. absurd (omega arith));
      link_most = λ g k l. below_more Most h old_most (λ k kl r rk e. absurd (omega arith)) g l k;
    }

    module _ (new : new_class n w' h ≡ h) (top : head n w' (bucket_of w n h) ≡ h + 1)
        (heads : (b : ℕ) → b < n → (b ≡ bucket_of w n h → ⊥) → head n w' b ≡ head n w b) (next : link n w' h ≡ head n w (bucket_of w n h)) where
      new_heads : (b : ℕ) → b < n → Entry w' n (h + 1) b (head n w' b)
      new_heads b bl = elim (ℕ_discrete b (bucket_of w n h)) [
        | yes e ↦ subst (λ x. Entry w' n (h + 1) b x) (sym (ap (head n w') e ∙ top)) (record {
          no_greater = omega arith;
          class = λ p. subst (λ x. new_class n w' x ≡ x) back new;
          of_bucket = λ p. subst (λ x. bucket_of w' n x ≡ b) back (bucket_keeps h (omega arith) ∙ sym e);
        })
        | no d ↦ entry_keeps h b (head n w b) (head n w' b) (omega arith) (C.heads b bl) (heads b bl d) (h + 1) b (omega arith) refl
      ]
        where
          back : h ≡ h + 1 - 1
          back = omega arith

      new_head_most : (g : ℕ) → g < h → new_class n w' g ≡ g → g < head n w' (bucket_of w' n g)
      new_head_most g l r = elim (ℕ_discrete (bucket_of w n g) (bucket_of w n h)) [
        | yes e ↦ subst (λ x. g < x) (sym (ap (head n w') (bucket_keeps g (omega arith) ∙ e) ∙ top)) (omega arith)
        | no d ↦ head_stays g l r (heads (bucket_of w n g) (in_range g) d)
      ]

      pub chained_alone : Chained w' n (h + 1)
      chained_alone = record {
        heads = new_heads;
        links = below_more _ h old_links (λ r.
            entry_keeps h (bucket_of w n h) (head n w (bucket_of w n h)) (link n w' h) (omega arith) (C.heads (bucket_of w n h) (in_range h)) next h (bucket_of w' n h)
            (omega arith) (bucket_keeps h (omega arith)));
        head_most = below_more _ h new_head_most (λ r. subst (λ x. h < x) (sym (ap (head n w') (bucket_keeps h (omega arith)) ∙ top)) (omega arith));
        link_most = λ g k l. below_more Most h old_most (λ k kl r rk e.
            subst (λ x. k < x) (sym next) (subst (λ b. k < head n w b) (sym (bucket_keeps k (omega arith)) ∙ e ∙ bucket_keeps h (omega arith))
            (C.head_most k kl (class_was k kl rk)))) g l k;
      }
