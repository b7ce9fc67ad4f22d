-- `many_run` meets its contract: written lengths of one byte each, or any. Assumes nothing.
use Rattle.std.proofs.Common.{ℕ, List, subst, arith}
use Rattle.packet_places.specs.Inner.{Stands}
use Rattle.packet_places.proofs.SpannedLaws.{by_form, last_small, inside, start_near, sizes_read, ones}
use Rattle.packet_places.proofs.many_run.Goals as goal

pub overflow_sub-f : goal.overflow_sub-f
overflow_sub-f c = let a = c.args in omega (arith, (by_form a.s.now a.f a.span.head a.span.last c.requires.0).some)

pub overflow_sub-f-then-span-f : goal.overflow_sub-f-then-span-f
overflow_sub-f-then-span-f c = let a = c.args in omega (arith, (by_form a.s.now a.f a.span.head a.span.last c.requires.0).some)

pub bytes_run-requires : goal.bytes_run-requires
bytes_run-requires c =
    let a = c.args in
    let p = c.requires.0 in (
      omega (arith, c.if-span-f.true, inside a.s.now a.f a.span.head a.span.last p),
      omega (arith, c.requires.1),
      start_near a.s.now a.f a.span.head a.span.last p,
      last_small a.s.now a.f a.span.head a.span.last p,
      ones a.s.now a.f a.span.head a.span.last p c.if-f.true c.if-span-f.true,
    )

pub returns-then-span-f : goal.returns-then-span-f
returns-then-span-f c =
    let a = c.args in
    let e = sizes_read a.s.now a.f a.span.head a.span.last c.requires.0 c.if-f.true in
    subst (λ (ns : List ℕ). Stands ns a.span.head c.bytes_run.result) e c.bytes_run.ensures
