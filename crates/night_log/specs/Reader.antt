-- RULES, The reader of a log: "keeps the caller's bytes and its place in them". "Opening a log gives place 0." A call is the one on the bytes and the place; nothing else of the reader changes.
use Rattle.std.specs.Prelude.{◌≡◌, Bool, List, ℕ, Option, Result}
use Rattle.std.specs.Borrow.{Bor}
use Rattle.layout.specs.declared.Refused.{Refused}
use Rattle.night_log.specs.declared.reader.LogReader.{LogReader}
use Rattle.night_log.specs.Read.{OpenedAs, ReadAs}

abbrev pub ReaderOpenedAs : (log : Bor (List ℕ)) → LogReader → Type 0
ReaderOpenedAs log r = (r.log ≡ log) × (r.place ≡ 0) × OpenedAs log.now r.opened

pub record NextAs (before after : LogReader) (r : Result (Option Bool) Refused) : Type 0 where
  pub same_log : after.log ≡ before.log
  pub same_opened : after.opened ≡ before.opened
  pub read : ReadAs before.log.now before.place r after.place
