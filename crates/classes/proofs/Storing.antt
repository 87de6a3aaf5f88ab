-- One store after another in a lent area: the reference and the number of histories stay. Assumes nothing.
use mathlib.Core.Path.{◌∙◌, subst}
use mathlib.Core.List.{List}
use Prim.Native.Nat.{ℕ}
use Rattle.classes.specs.declared.Area.{Area}
use Rattle.classes.specs.Stores.{Stores}

pub stores_then : {P Q R : (n : ℕ) → (w w' : List ℕ) → Type 0} {a b c : Area}
    → (P a.n a.work.now b.work.now → Q a.n b.work.now c.work.now → R a.n a.work.now c.work.now)
    → Stores P a b → Stores Q b c → Stores R a c
stores_then {Q = Q} {b = b} {c = c} then p q = record {
  buffer = q.buffer ∙ p.buffer;
  histories = q.histories ∙ p.histories;
  stored = then p.stored (subst (λ n. Q n b.work.now c.work.now) p.histories q.stored);
}
