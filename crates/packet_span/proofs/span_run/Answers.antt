-- `span_run` meets its contract: at each `return` the rule that is broken, or the last frame's size. Assumes nothing.
use Rattle.std.proofs.Common.{refl, ◌∙◌, arith}
use Rattle.packet_span.proofs.SpanLaws.{broken, late, reached, closes_varied, closes_shared}
use Rattle.packet_span.proofs.span_run.Goals as goal
use Rattle.packet_span.proofs.span_run.Goals.{then-f-eq0-via-then-f-eq0, then-f-eq0-via-else-f-eq0+then-not-in_time}

pub returns-then-f-eq0 : goal.returns-then-f-eq0
returns-then-f-eq0 c =
    let s = c.args.s.now in
    let f = c.args.f in
    let e = c.requires.f_value.0 in
    elim c.then-f-eq0.branch [
      | then-f-eq0-via-then-f-eq0 w ↦ broken s f e (λ k. omega (arith, k.some, w.if-f-eq0.true))
      | then-f-eq0-via-else-f-eq0+then-not-in_time w ↦
          late s f e w.byte_at.result w.byte_at.ensures.0 w.if-not-in_time.ensures
    ]

pub returns-then-s-used : goal.returns-then-s-used
returns-then-s-used c =
    let r = c.firsts_run-lengths.ensures.value_value in
    broken c.args.s.now c.args.f c.requires.f_value.0 (λ k. omega (arith, k.fits, c.if-s-used.true, r.0, r.1))

pub returns-then-f : goal.returns-then-f
returns-then-f c =
    let s = c.args.s.now in
    let f = c.args.f in
    let e = c.requires.f_value.0 in
    let r = c.firsts_run-lengths.ensures.value_value in
    let k = reached s f e c.byte_at.result c.byte_at.ensures.0 _ _ c.if-f-eq0.false c.if-not-in_time.ensures r.0 r.1
    c.if-s-used.false in
    c.closed.ensures
    ∙ closes_varied s f e (λ i. omega (arith, c.type_inv.s i)) _ _ _ k refl c.if-f.true

pub returns-else-f : goal.returns-else-f
returns-else-f c =
    let s = c.args.s.now in
    let f = c.args.f in
    let e = c.requires.f_value.0 in
    let r = c.firsts_run-lengths.ensures.value_value in
    let k = reached s f e c.byte_at.result c.byte_at.ensures.0 _ _ c.if-f-eq0.false c.if-not-in_time.ensures r.0 r.1
    c.if-s-used.false in
    c.shared_run.ensures
    ∙ closes_shared s f e (λ i. omega (arith, c.type_inv.s i)) _ _ _ k refl c.if-f.false
