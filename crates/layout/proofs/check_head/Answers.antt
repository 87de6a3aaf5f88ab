-- `layout::check_head` meets its contract: each return is a case of the head. Assumes nothing.
use mathlib.Core.Path.{◌∙◌}
use native.Mathlib.Omega.{arith}
use Rattle.layout.proofs.Head.{head_short, head_unequal, head_other, head_right}
use Rattle.layout.proofs.check_head.Goals as goal

pub returns-then-n-least : goal.returns-then-n-least
returns-then-n-least c = λ wrong other. let s = c.args in head_short s.least s.own wrong other s.bytes.now c.if-n-least.true

pub returns-then-rest-n : goal.returns-then-rest-n
returns-then-rest-n c =
    λ wrong other. let s = c.args in
    head_unequal s.least s.own wrong other s.bytes.now (omega arith) (λ e. c.if-rest-n.true (c.length_field-rest.ensures.0 ∙ e))

pub returns-then-bytes-own : goal.returns-then-bytes-own
returns-then-bytes-own c =
    λ wrong other. let s = c.args in
    head_other s.least s.own wrong other s.bytes.now (omega arith) (omega (arith, c.length_field-rest.ensures)) c.if-bytes-own.true

pub returns : goal.returns
returns c =
    λ wrong other. let s = c.args in
    head_right s.least s.own wrong other s.bytes.now (omega arith) (omega (arith, c.length_field-rest.ensures)) (omega arith)
