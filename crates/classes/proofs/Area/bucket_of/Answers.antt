-- `classes::Area::bucket_of`: what is masked with n - 1 is below n. Assumes nothing.
use mathlib.Core.Path.{refl}
use Rattle.classes.specs.Signature.{bucket}
use Rattle.classes.proofs.Signatures.{bucket_lt}
use Rattle.classes.proofs.Area.bucket_of.Goals as goal

pub returns : goal.returns
unfolding bucket
returns c = (refl, bucket_lt c.args.self.now.n c.args.s c.args.self.now.some_history)
