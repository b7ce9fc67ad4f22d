-- `carry_out_run` meets its contract: 255 waits; any other digit has what waited stored, and is held. Assumes nothing.
use borrow.Author.Rules.{rules}
use Prim.Native.Nat.{◌+◌, ◌/◌, ◌%◌}
use mathlib.Core.Path.{refl, ap, ◌∙◌}
use native.Mathlib.Omega.{arith}
use mir.Syntax.{w32}
use mir.Facts.{to_z_pos}
use lib.ListN.{replicate}
use Rattle.entcode.specs.Flat.{Out, out, held_of}
use Rattle.entcode.proofs.FlatLaws.{put_append}
use Rattle.entcode.specs.Front.{stored}
use Rattle.entcode.proofs.WriterFacts.{hold}
use Rattle.entcode.specs.Inner.Writing.{put_all}
use Rattle.entenc_bytes.proofs.Digits.{wait_is, hold_is}
use Rattle.entenc_bytes.proofs.Placing.{put_roomy}
use Rattle.entenc_bytes.proofs.carry_out_run.Statement.{statement}
use Rattle.entenc_bytes.proofs.carry_out_run.Tie as tie

put_many_requires : tie.Need-put_many-z-requires
put_many_requires c κs =
    let b = c.before.before.before.before.before.before.before in
    rw c.put_held-a.ensures (put_roomy _ _ b.requires.0)

returns : tie.Need-returns-then-c-eq255
returns c =
    let b = c.before.before.before in
    let o = out b.args.buf.now b.args.w in
    rw c.if-c-eq255.true (wait_is o (b.args.w.ext + 1) b.requires.0.fair refl)

returns_2 : tie.Need-returns-else-c-eq255
returns_2 c =
    let b = c.before.before.before.before.before.before.before.before.before.before in
    let n = b.args.c in
    let o = out b.args.buf.now b.args.w in
    let p = stored (held_of b.args.w.rem) (n / 256) in
    let r = replicate b.args.w.ext ((255 + n / 256) % 256) in
    let e =
    c.put_many-z.ensures
    ∙ ap (λ (q : Out). put_all q r) c.put_held-a.ensures
    ∙ put_append o p r
    in
    rw (to_z_pos w32 {n = n % 256} (omega arith))
    (ap (λ (q : Out). hold q (n % 256)) e ∙ hold_is o n c.if-c-eq255.false)

pub carry_out_run_spec : {M : Type 1} → statement M
carry_out_run_spec =
    tie.close
    (tie.spec
    (λ c. search rules) (λ c κs. search rules) (λ c. search rules) (λ c. search rules) put_many_requires
    (λ c. search rules) returns (λ c. search rules) returns_2)
