-- `index_pitch_write::pitch_tell_run` meets its contract: lag, contour, filters, scale. Assumes nothing.
use Rattle.std.proofs.Common.{ℕ, ℤ, ◌≡◌, ◌+◌, ◌^◌, Bool, refl, arith}
use borrow.Author.Rules.{rules}
use Rattle.entcode.specs.Flat.{Out}
use Rattle.tree.specs.Inner.Told.{Told}
use Rattle.tree.proofs.Says.{says_means}
use Rattle.tree.proofs.Told.{told_then}
use Rattle.silk.specs.declared.Indices.{Indices}
use Rattle.silk.specs.declared.Setting.{Setting}
use Rattle.silk.specs.Record.{Shape}
use Rattle.silk.specs.IndexSyntax.{lag, relative_lag, pitch}
use Rattle.silk.proofs.IndexSays.{lag_says, contour_says, period_says}
use Rattle.silk.proofs.IndexTold.{writing_next}
use Rattle.index_pitch_write.proofs.pitch_tell_run.Goals as goal

pub contour_tell_run-c-requires-clause-writing : goal.contour_tell_run-c-requires-clause-writing
contour_tell_run-c-requires-clause-writing c =
    writing_next (2 ^ 29) c.requires.writing (c.lag_tell_run-l.ensures c.args.s.prevlag) (omega arith)

pub period_tell_run-p-requires-clause-writing : goal.period_tell_run-p-requires-clause-writing
period_tell_run-p-requires-clause-writing c =
    let l = writing_next (2 ^ 27 + 48) c.requires.writing (c.lag_tell_run-l.ensures c.args.s.prevlag) (omega arith) in
    writing_next (2 ^ 28) l c.contour_tell_run-c.ensures (omega arith)

pub scale_tell_run-requires-clause-writing : goal.scale_tell_run-requires-clause-writing
scale_tell_run-requires-clause-writing c =
    let l = writing_next (2 ^ 27 + 48) c.requires.writing (c.lag_tell_run-l.ensures c.args.s.prevlag) (omega arith) in
    let k = writing_next (2 ^ 27 + 64) l c.contour_tell_run-c.ensures (omega arith) in
    writing_next (2 ^ 29) k c.period_tell_run-p.ensures (omega arith)

-- the lag is relative where the setting says so
as_set : (s : Setting) (khz : ℕ) (before : ℤ) {o q : Out} {x : Indices} {relative : Bool} {n : ℕ} → Told o x (lag relative khz before x) n q
    → relative ≡ relative_lag s → Told o x (lag (relative_lag s) khz before x) n q
as_set s khz before t e = rw e at t

pub returns : goal.returns
unfolding pitch
returns c =
    let x = c.args.x in
    let s = c.args.s in
    let r = c.requires.rate in
    let h : Shape x = record { gains = search rules; ltp = search rules; nlsf = search rules } in
    told_then _ (says_means (lag_says (relative_lag s) s.khz s.prevlag x r.0 r.2.lag))
    (as_set s s.khz s.prevlag (c.lag_tell_run-l.ensures s.prevlag) refl)
    (told_then _ (says_means (contour_says s x r.0 r.1 h r.2)) c.contour_tell_run-c.ensures
    (told_then _ (says_means (period_says s x r.0 r.1 h r.2)) c.period_tell_run-p.ensures
    c.scale_tell_run.ensures))
