-- `carry::read_record`: it reads the version that the record says. Assumes nothing.
use mathlib.Core.Path.{sym, subst, ◌∙◌}
use mathlib.Core.Bool.{Bool, cond}
use mathlib.Core.List.{List}
use Prim.Native.Nat.{ℕ}
use Rattle.meaning.specs.Longest.{longest}
use Rattle.std.specs.Prelude.{Result}
use Rattle.layout.specs.declared.Refused.{Refused}
use Rattle.guard.specs.declared.Guard.{Guard}
use Rattle.carry.specs.Bytes.{old_version, new_version, old_carried, carried}
use Rattle.carry.specs.Read.{ReadInVersion}
use Rattle.carry.proofs.read_record.Goals as goal

-- what is read where the record is of the version before, and where it isn't
abbrev ReadWhen : Bool → (r b : List ℕ) → Result Guard Refused → Type 0
ReadWhen old r b = ReadInVersion longest carried (cond old old_version new_version) (cond old old_carried carried) r b

pub returns-then-is_old : goal.returns-then-is_old
returns-then-is_old c =
    let a = c.args in
    subst (λ z. ReadWhen z a.bytes.now a.table.now c.read_version.result) (sym c.if-is_old.true ∙ c.is_old.ensures) c.read_version.ensures

pub returns : goal.returns
returns c =
    let a = c.args in
    subst (λ z. ReadWhen z a.bytes.now a.table.now c.read_version-2.result) (sym c.if-is_old.false ∙ c.is_old.ensures) c.read_version-2.ensures
