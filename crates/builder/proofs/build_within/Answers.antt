-- `builder::build_within`: the refusals in their order, and then what `build_table` ensures. Assumes nothing.
use mathlib.Core.Path.{sym, subst}
use native.Mathlib.Omega.{arith}
use Rattle.std.proofs.lemmas.Result.{err_from_is_err_and}
use Rattle.machines.specs.Machine.{Machine}
use Rattle.sets.proofs.Reading.{accepted_rows, accepted_set, accepted_set_allowed}
use Rattle.builder.specs.Steps.{BuildsTable}
use Rattle.builder.proofs.Answers.{refused_set, refused_area, built_table}
use Rattle.builder.proofs.build_within.Goals as goal

pub returns-in_err-read : goal.returns-in_err-read
returns-in_err-read c =
    let s = c.args in
    let p = err_from_is_err_and c.from_residual.result c.from_residual.ensures.1 in
    rw (p.1, p.2) (refused_set s.widest s.set.now s.work.now s.table.now _ (sym c.in_err-read.ensures.answer))

pub returns-then-work-area_size : goal.returns-then-work-area_size
returns-then-work-area_size c =
    let s = c.args in
    refused_area s.widest s.set.now s.work.now s.table.now
    (accepted_rows s.widest s.set.now c.read_set_within.result c.read_set_within.ensures _ c.in_ok-read.was) (omega (arith, c.area_size.ensures, c.if-work-area_size.true))

pub build_table-requires : goal.build_table-requires
build_table-requires c = (
  c.requires.0,
  c.requires.1,
  accepted_set_allowed c.args.widest c.args.set.now c.read_set_within.result c.read_set_within.ensures _ c.in_ok-read.was,
  omega (arith, c.area_size.ensures, c.if-work-area_size.false),
)

pub returns : goal.returns
returns c =
    let s = c.args in
    let w = s.widest in
    let set = s.set.now in
    let e = c.in_ok-read.was in
    built_table w set s.work.now s.table.now _ _ c.build_table.result
    (accepted_rows w set c.read_set_within.result c.read_set_within.ensures _ e) (omega (arith, c.area_size.ensures, c.if-work-area_size.false))
    (subst (λ z. (m : Machine) × BuildsTable w z s.work.now c.build_table.new.work s.table.now c.build_table.new.table c.build_table.result m)
    (accepted_set w set c.read_set_within.result c.read_set_within.ensures _ e) c.build_table.ensures)
