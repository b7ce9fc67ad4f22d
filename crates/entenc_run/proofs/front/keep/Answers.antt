-- The range that the cut leaves is settled, and the sum in the value does not wrap.
use Rattle.std.proofs.Common.{◌≡◌, ◌+◌, ◌-◌, ◌%◌, ◌^◌, ◌∙◌, arith, rules}
use mir.Facts.{to_z-of_z}
use mir.Syntax.{w32}
use mir.Val.{SFits}
use Rattle.entcode.proofs.CoreLaws.{cut_step}
use Rattle.entcode.specs.Flat.{out}
use Rattle.entenc_run.proofs.Turns.{cut_is}
use Rattle.entenc_run.proofs.front.keep.Goals as goal

pub returns : goal.returns
returns c =
    let a = c.args in
    let r = c.requires in
    let o = out a.buf.now a.w in
    let f : SFits w32 c.args.w.rem = search rules in
    let g : SFits w32 c.args.w.error = search rules in
    let v : (a.w.val + (a.w.rng - a.t)) % 2 ^ 32 ≡ a.w.val + (a.w.rng - a.t) = omega arith in
    let e = rw (to_z-of_z f, to_z-of_z g, v) at c.normalize.ensures in
    cut_step o _ a.t a.s r.core r.total_bound r.cut_ok (e ∙ cut_is o a.t a.s)
