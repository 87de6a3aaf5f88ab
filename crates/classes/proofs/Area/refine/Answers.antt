-- `classes::Area::refine`: a round and the renewed classes are one stage more, and a round that changes nothing is the last. Assumes nothing.
use mathlib.Core.Path.{◌≡◌, subst}
use mathlib.Core.Bool.{true≢false, false≢true}
use Prim.Native.Nat.{ℕ, ◌<◌}
use Rattle.classes.specs.Area.{class_at}
use Rattle.classes.specs.Chain.{new_class}
use Rattle.classes.proofs.Keeping.{within_trans}
use Rattle.classes.proofs.Storing.{stores_then}
use Rattle.classes.proofs.Stages.{stage_next, stage_settled}
use Rattle.classes.proofs.Area.refine.Goals as goal

pub returns-then-not-changed : goal.returns-then-not-changed
returns-then-not-changed c =
    let a = c.args.self.now in
    let w₁ = c.round.new.self.work.now in
    let R = c.round.ensures in
    record {
      buffer = R.buffer;
      histories = R.histories;
      stored = record {
        within = R.stored.kept.within;
        further = λ e. absurd (false≢true e);
        settled = λ _ set m k e S. stage_settled set m k a.n a.work.now w₁ e R.stored S
            (subst (λ n. (h : ℕ) → h < n → new_class n w₁ h ≡ class_at w₁ h) R.histories (c.changed.ensures c.if-not-changed.true));
      };
    }

pub returns : goal.returns
returns c =
    let a = c.args.self.now in
    let w₁ = c.round.new.self.work.now in
    let w₂ = c.renew.new.self.work.now in
    stores_then (λ R N. record {
      within = within_trans a.n a.work.now w₁ w₂ R.kept.within N.within;
      further = λ _ set m k e S. stage_next set m k a.n a.work.now w₁ e R S w₂ N;
      settled = λ e. absurd (true≢false e);
    }) c.round.ensures c.renew.ensures
