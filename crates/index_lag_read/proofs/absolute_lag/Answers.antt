-- `index_lag_read::absolute_lag` meets its contract: a high and a low part. Assumes nothing.
use Rattle.std.proofs.Common.{ℕ, ◌≡◌, ◌+◌, ◌*◌, ◌/◌, ◌<◌, ◌≤◌, pos, to_z, arith}
use mir.Syntax.{w16}
use mir.Facts.{to_z_pos}
use native.Mathlib.Nat.{mul-le-mul}
use Rattle.symbol_reader.proofs.AlongLaws.{along_done, along_ask}
use Rattle.silk.specs.IndexSyntax.{absolute_lag}
use Rattle.silk.proofs.IndexRows.{lag_low_within}
use Rattle.index_lag_read.proofs.absolute_lag.Goals as goal

-- a high part is at most 31 x 8, a low part at most 7
high_most : (h half : ℕ) → h < 32 → half ≤ 8 → h * half ≤ 248
high_most h half p q = let l : h ≤ 31 = omega arith in mul-le-mul l q

pub overflow_mul-x : goal.overflow_mul-x
overflow_mul-x c =
    let h = c.symbol_run-high in
    omega (arith, high_most h.result (c.args.khz / 2) (omega (arith, h.ensures.took.inside)) (lag_low_within c.args.khz c.requires.rate).1)

pub overflow_add-x : goal.overflow_add-x
overflow_add-x c =
    let h = c.symbol_run-high in
    let w = lag_low_within c.args.khz c.requires.rate in
    omega (arith, high_most h.result (c.args.khz / 2) (omega (arith, h.ensures.took.inside)) w.1, c.symbol_run-low.ensures.took.inside, w.1)

pub overflow_cast-x : goal.overflow_cast-x
overflow_cast-x c =
    let h = c.symbol_run-high in
    let w = lag_low_within c.args.khz c.requires.rate in
    omega (arith, high_most h.result (c.args.khz / 2) (omega (arith, h.ensures.took.inside)) w.1, c.symbol_run-low.ensures.took.inside, w.1)

pub returns : goal.returns
unfolding absolute_lag
returns c =
    let h = c.symbol_run-high in
    let l = c.symbol_run-low in
    let w = lag_low_within c.args.khz c.requires.rate in
    let v = h.result * (c.args.khz / 2) + l.result in
    let m = high_most h.result (c.args.khz / 2) (omega (arith, h.ensures.took.inside)) w.1 in
    let e : to_z w16 v ≡ pos v = to_z_pos w16 {n = v} (omega (arith, m, l.ensures.took.inside, w.1)) in
    rw e (along_ask c.lag_row_run.ensures.is h.ensures (along_ask c.lag_low_row_run.ensures.is l.ensures (along_done _ _)))
