-- One store after another in a lent area: the reference and the number of histories stay. Assumes nothing.
use mathlib.Core.Path.{◌∙◌, subst}
use mathlib.Core.List.{List}
use Prim.Native.Nat.{ℕ}
use Rattle.numbering.specs.declared.Numbers.{Numbers}
use Rattle.numbering.specs.Stores.{Stores}

pub stores_then : {P Q R : (n : ℕ) → (w w' : List ℕ) → (count r : ℕ) → Type 0} {a b c : Numbers}
    → (P a.n a.work.now b.work.now a.count b.count → Q a.n b.work.now c.work.now b.count c.count → R a.n a.work.now c.work.now a.count c.count)
    → Stores P a b → Stores Q b c → Stores R a c
stores_then {Q = Q} {b = b} {c = c} then p q = record {
  buffer = q.buffer ∙ p.buffer;
  histories = q.histories ∙ p.histories;
  stored = then p.stored (subst (λ n. Q n b.work.now c.work.now b.count c.count) p.histories q.stored);
}
