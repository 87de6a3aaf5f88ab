-- `night_log::read_log` meets its contract: past the tests the log's count says whether there is an outcome. Assumes nothing.
use mathlib.Core.Path.{refl, sym, ◌∙◌}
use native.Mathlib.Omega.{arith}
use Rattle.night_log.proofs.Accepted.{accepted_log}
use Rattle.night_log.proofs.Outcomes.{outcomes_length, outcomes_at}
use Rattle.night_log.proofs.read_log.Goals as goal

pub returns-then-count-at : goal.returns-then-count-at
returns-then-count-at c = record {
  refusal = c.in_ok-count.ensures.refusal;
  hands_out = record { past = omega (arith, outcomes_length c.args.log.now, c.in_ok-count.ensures.count); stays = refl };
}

pub outcome_in-requires : goal.outcome_in-requires
outcome_in-requires c =
    let log = accepted_log c.args.log.now (sym c.in_ok-count.ensures.refusal) in
    (omega (arith, log.size, c.in_ok-count.ensures.count), omega (arith, c.in_ok-count.ensures.count))

pub returns : goal.returns
returns c =
    let b = c.args.log.now in
    let i = c.args.place.now in
    record {
      refusal = c.in_ok-count.ensures.refusal;
      hands_out = record {
        there = omega (arith, outcomes_length b, c.in_ok-count.ensures.count);
        outcome = outcomes_at b i (omega (arith, c.in_ok-count.ensures.count)) ∙ sym c.outcome_in.ensures;
        moved = refl;
      };
    }
