-- The bits stand above those of the window, and the wrapping sum does not wrap.
use Rattle.std.proofs.Common.{◌≡◌, ℕ, ◌+◌, ◌*◌, ◌%◌, ◌^◌, ap, ◌∙◌, rules}
use Rattle.std.proofs.Math.Nat.{mod-eq_of_lt}
use mir.Facts.{to_z-of_z}
use mir.Syntax.{w32}
use mir.Val.{SFits}
use Rattle.entcode.proofs.CoreLaws.{append_step}
use Rattle.entcode.specs.Flat.{Out, out}
use Rattle.entcode.proofs.FlatLaws.{append_is}
use Rattle.entcode.proofs.WriterFacts.{at_window}
use Rattle.entcode.proofs.Window.{window_sum}
use Rattle.entenc_run.proofs.tail.append.Goals as goal

pub returns : goal.returns
returns c =
    let w = c.args.w in
    let n = c.args.n in
    let v = c.args.v in
    let o = out c.args.buf.now w in
    let f = c.spare_for-a in
    let a = f.result in
    let r = c.requires in
    let s = window_sum a.window v a.wbits n f.ensures.windowed.slim r.le_n.2 f.ensures.free in
    let e : (a.window + v * 2 ^ a.wbits % 2 ^ 32) % 2 ^ 32 ≡ a.window + v * 2 ^ a.wbits = rw s.0 (mod-eq_of_lt s.1) in
    let m : SFits w32 c.spare_for-a.result.rem = search rules in
    let g : SFits w32 c.spare_for-a.result.error = search rules in
    rw (to_z-of_z m, to_z-of_z g)
    (append_step o _ n v r.core r.total_bound r.le_n.1 r.le_n.2
    (ap (λ (x : ℕ). at_window (out f.new.buf a) x (a.wbits + n) (w.total + n)) e
    ∙ ap (λ (p : Out). at_window p (p.state.window + v * 2 ^ p.state.wbits) (p.state.wbits + n) (w.total + n)) f.ensures.is
    ∙ append_is o n v))
