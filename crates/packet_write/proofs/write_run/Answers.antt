-- `write_run` meets its contract. Assumes nothing.
use Rattle.std.proofs.Common.{ℕ, List, length, ap, ◌∙◌, arith}
use Rattle.std.proofs.lemmas.Bool.Decides.{nat_tests}
use lib.Seq.{sets}
use Rattle.framing.proofs.Written.{at_most_twelve, packet_length}
use Rattle.packet_write.proofs.WholeLaws.{Worked, code_four, whole_is, small_most, bare_short}
use Rattle.packet_write.proofs.write_run.Goals as goal

pub overflow_add-p : goal.overflow_add-p
overflow_add-p c = omega (arith, bare_short c.requires.writable c.requires.same_value.2)

pub own_run-requires : goal.own_run-requires
own_run-requires c = omega (arith, bare_short c.requires.writable c.requires.same_value.2)

pub overflow_add-toc : goal.overflow_add-toc
overflow_add-toc c =
    let w : Worked c.args.p c.saturating_sub-padding.result c.own_run.result c.if-p-own_run.code =
    record { pads = c.saturating_sub-padding.ensures; least = c.own_run.ensures; coded = grind (arith, nat_tests) } in
    omega (arith, c.requires.writable.config, code_four c.args.sizes.now c.args.p c.requires.same_value w)

pub overflow_cast-toc : goal.overflow_cast-toc
overflow_cast-toc c =
    let w : Worked c.args.p c.saturating_sub-padding.result c.own_run.result c.if-p-own_run.code =
    record { pads = c.saturating_sub-padding.ensures; least = c.own_run.ensures; coded = grind (arith, nat_tests) } in
    omega (arith, c.requires.writable.config, code_four c.args.sizes.now c.args.p c.requires.same_value w)

pub put_whole_run-requires-clause-k_bound : goal.put_whole_run-requires-clause-k_bound
put_whole_run-requires-clause-k_bound c =
    let q = c.requires.writable in (
      omega (arith, c.saturating_sub-padding.ensures, q.room, q.buffer),
      q.some,
      at_most_twelve (length c.args.sizes.now) c.args.c q.config q.time,
      small_most c.args.sizes.now q.small,
    )

pub put_whole_run-requires-clause-frames_in_bounds : goal.put_whole_run-requires-clause-frames_in_bounds
put_whole_run-requires-clause-frames_in_bounds c =
    let a = c.args in
    let q = c.requires.writable in
    let w : Worked c.args.p c.saturating_sub-padding.result c.own_run.result c.if-p-own_run.code =
    record { pads = c.saturating_sub-padding.ensures; least = c.own_run.ensures; coded = grind (arith, nat_tests) } in
    omega (
      arith,
      ap length (whole_is a.sizes.now a.p c.requires.same_value a.c a.frames.now w),
      packet_length _ a.c a.frames.now a.sizes.now a.p.length q,
      q.room,
    )

pub returns : goal.returns
returns c =
    let a = c.args in
    let w : Worked c.args.p c.saturating_sub-padding.result c.own_run.result c.if-p-own_run.code =
    record { pads = c.saturating_sub-padding.ensures; least = c.own_run.ensures; coded = grind (arith, nat_tests) } in
    c.put_whole_run.ensures.is
    ∙ ap (λ (t : List ℕ). sets a.buf.now 0 t) (whole_is a.sizes.now a.p c.requires.same_value a.c a.frames.now w)
