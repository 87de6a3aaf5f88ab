-- `history::Latest::hits`: the ones of the low bits are the hits. Assumes nothing.
use mathlib.Core.Path.{ap, ◌∙◌}
use lib.Count.{ones}
use Rattle.history.proofs.Bits.{ones_hits}
use Rattle.history.proofs.Latest.hits.Goals as goal

pub returns : goal.returns
returns c = let l = c.args.self in ap ones c.bits.ensures ∙ ones_hits l.n l.history
