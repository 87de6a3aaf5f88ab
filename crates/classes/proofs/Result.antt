-- What stands in the area after the marks and the rounds, and so in the slice that it was lent. Assumes nothing.
use mathlib.Core.Path.{◌≡◌, refl, sym, subst}
use mathlib.Core.Bool.{true, false}
use mathlib.Core.List.{List}
use Prim.Native.Nat.{ℕ, ◌+◌, ◌^◌, ◌≤◌}
use native.Mathlib.Numerals.{add-one}
use native.Mathlib.Omega.{arith}
use Rattle.meaning.specs.declared.LimitSet.{LimitSet}
use Rattle.classes.specs.declared.Area.{Area}
use Rattle.classes.specs.Area.{Within}
use Rattle.classes.specs.Classed.{Classed}
use Rattle.classes.specs.Stage.{Stage, Started, Parted, Refined}
use Rattle.classes.specs.Stores.{Stores}
use Rattle.classes.proofs.Keeping.{within_trans}
use Rattle.classes.proofs.Storing.{stores_then}
use Rattle.classes.proofs.OneJob.{stage_one}
use Rattle.classes.proofs.Stages.{stage_end}

-- from the classes of one job to those of k, whatever the set
abbrev pub Further : (m k n : ℕ) → (w w' : List ℕ) → Type 0
Further m k n w w' = ((s : LimitSet) → Stage s m 1 w → Stage s m k w') × Within n w w'

pub further_more : (m k : ℕ) (a b c : Area) → a.n ≡ 2 ^ m → Stores (Further m k) a b → Stores (λ n w w'. Refined n w w' true) b c → Stores (Further m (k + 1)) a c
further_more m k a b c e = stores_then (λ (f, v) R. (
  λ s S. subst (λ z. Stage s m z c.work.now) (sym (add-one k)) (R.further refl s m k e (f s S)),
  within_trans a.n a.work.now b.work.now c.work.now v R.within,
))

module _ (s : LimitSet) (m : ℕ) where
  abbrev Staged : (k n : ℕ) → (w w' : List ℕ) → Type 0
  Staged k n w w' = Stage s m k w' × Within n w w'

  abbrev Done : (n : ℕ) → (w w' : List ℕ) → Type 0
  Done n w w' = Classed s m w' × Within n w w'

  module _ (a b c : Area) (e : a.n ≡ 2 ^ m) where
    staged_one : Stores (Started s) a b → Stores Parted b c → Stores (Staged 1) a c
    staged_one = stores_then (λ B P. (
      stage_one s m a.n a.work.now b.work.now c.work.now e a.some_history a.fits B P,
      within_trans a.n a.work.now b.work.now c.work.now B.within P.entered.within,
    ))

    staged_on : (k : ℕ) → Stores (Staged 1) a b → Stores (Further m k) b c → Stores (Staged k) a c
    staged_on k = stores_then (λ (S, v) (f, u). (f s S, within_trans a.n a.work.now b.work.now c.work.now v u))

    staged_settled : (k : ℕ) → Stores (Staged k) a b → Stores (λ n w w'. Refined n w w' false) b c → Stores Done a c
    staged_settled k = stores_then (λ (S, v) R. (R.settled refl s m k e S, within_trans a.n a.work.now b.work.now c.work.now v R.within))

  staged_end : (k : ℕ) (a b : Area) → m ≤ k → Stores (Staged k) a b → Stores Done a b
  staged_end k a b h t = record { buffer = t.buffer; histories = t.histories; stored = (stage_end s m k b.work.now h t.stored.0, t.stored.1) }

  done_in : (n : ℕ) (w w' : List ℕ) (a b : Area) → a.n ≡ n → a.work.now ≡ w → w' ≡ b.work.now → Stores Done a b → Classed s m w' × Within n w w'
  done_in n w w' a b e f g t =
      subst (λ z. Classed s m z × Within n w z) (sym g)
      (subst (λ z. Classed s m b.work.now × Within n z b.work.now) f (subst (λ z. Classed s m b.work.now × Within z a.work.now b.work.now) e t.stored))

  module _ (k : ℕ) (a b c d : Area) (n : ℕ) (w w' : List ℕ) (e : n ≡ 2 ^ m) (same : a.n ≡ n) (unchanged : a.work.now ≡ w)
      (B : Stores (Started s) a b) (P : Stores Parted b c) (F : Stores (Further m k) c d) where
    staged : Stores (Staged k) a d
    staged = let e' : a.n ≡ 2 ^ m = omega arith in staged_on a c d e' k (staged_one a b c e' B P) F

    -- after m rounds, or where one changed nothing
    pub classed_all : m ≤ k → w' ≡ d.work.now → Classed s m w' × Within n w w'
    classed_all h g = done_in n w w' a d same unchanged g (staged_end k a d h staged)

    pub classed_settled : (f : Area) → Stores (λ n w w'. Refined n w w' false) d f → w' ≡ f.work.now → Classed s m w' × Within n w w'
    classed_settled f R g = done_in n w w' a f same unchanged g (staged_settled a d f (omega arith) k staged R)
