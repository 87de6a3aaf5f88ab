-- RULES, A change of the battery: "nothing older can matter to it." Kept patterns with the same last h outcomes lead a canonical machine to the same state, where no window has more than h + 1 jobs. Assumes nothing.
use mathlib.Core.Path.{◌≡◌, sym, ap, ◌∙◌}
use mathlib.Core.Logic.Iff
use mathlib.Core.Logic.{◌↔◌}
use mathlib.Core.Option.{Option, some}
use mathlib.Core.Bool.{Bool}
use mathlib.Core.List.{List}
use Prim.Native.Nat.{ℕ, suc, ◌<◌}
use Rattle.patterns.specs.Number.{number}
use Rattle.machines.specs.Machine.{Machine, walk, Walks}
use Rattle.machines.specs.Canonical.{Canonical}
use Rattle.machines.proofs.Walk.{walk_below}
use Rattle.machines.proofs.Meeting.{meeting_same}
use Rattle.meaning.specs.declared.LimitSet.{LimitSet}
use Rattle.meaning.specs.Window.{recent}
use Rattle.meaning.specs.Sets.{SetAllowed, KeptBy}
use Rattle.meaning.proofs.Recent.{recent_recent, recent_kept}
use Rattle.history.specs.History.{history_of}
use Rattle.history.specs.Machine.{history_machine}
use Rattle.history.proofs.Walked.{walked_state, kept_walked}

module _ (s : LimitSet) (h : ℕ) (ok : SetAllowed (suc h) s) (c : Machine) (canonical : Canonical c (KeptBy s)) where
  abbrev H : Machine
  H = history_machine s h

  alike : (p : List Bool) → Walks c p ↔ Walks H p
  alike p = Iff.trans (canonical.exact p) (Iff.symm (kept_walked s h ok p))

  below : (a : ℕ) (p : List Bool) → walk c c.start p ≡ some a → a < c.states
  below a p = walk_below c canonical.well_made c.start a p canonical.well_made.start_below

  pub same_recent_leads : (p q : List Bool) → KeptBy s p → KeptBy s q → recent p h ≡ recent q h → walk c c.start p ≡ walk c c.start q
  unfolding history_of
  same_recent_leads p q kp kq e =
      let (a, ca) = (canonical.exact p).1 kp in
      let (b, cb) = (canonical.exact q).1 kq in
      let ha : walk H H.start p ≡ some (history_of h q) = walked_state s h ok p kp ∙ ap {B = Option ℕ} (λ w. some (number w)) e in
      let same = meeting_same c H alike a b (history_of h q) p q ca cb ha (walked_state s h ok q kq) in
      ca ∙ ap {B = Option ℕ} some (canonical.differ a b (below a p ca) (below b q cb) same) ∙ sym cb

  -- the last h outcomes alone lead where the whole pattern does
  pub recent_leads : (p : List Bool) → KeptBy s p → walk c c.start (recent p h) ≡ walk c c.start p
  recent_leads p k = same_recent_leads (recent p h) p (recent_kept s p h k) k (recent_recent p h)
