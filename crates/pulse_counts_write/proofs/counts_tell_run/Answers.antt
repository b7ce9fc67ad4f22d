-- A block's first symbol, and what follows it.
use Rattle.std.proofs.Common.{◌≡◌, ◌+◌, ◌≤◌, ℕ, subst, sym, arith}
use mathlib.Core.List.{List}
use Rattle.sheet.specs.Directory.{count_row}
use Rattle.sheet.proofs.SheetRule.{row_good}
use Rattle.entcode.specs.Models.{tab}
use Rattle.entcode.specs.Flat.{Out}
use Rattle.entcode.specs.Inner.Writing.{Core, Wrote}
use Rattle.tree.specs.Inner.Told.{Told}
use Rattle.tree.proofs.Told.{midway_start, midway_next, midway_end, told_ask, told_within}
use Rattle.silk.specs.PulseSyntax.{Block, count_said, low_counts, count}
use Rattle.silk.specs.Inner.Pulses.{block_at}
use Rattle.silk.proofs.PulseRowLaws.{count_in}
use Rattle.silk.proofs.PulseTold.{first_writable, lows_said, counts_said, counts_silent}
use Rattle.pulse_counts_write.proofs.counts_tell_run.Goals as goal
use Rattle.pulse_counts_write.proofs.counts_tell_run.Goals.{then-shift-ne0, else-shift-ne0}

-- a first symbol, then what follows it
count_told : {o p q : Out} {r : List ℕ} {v : ℕ} (level : ℕ) (b : Block) → r ≡ count_row level → v ≡ count_said 0 b
    → Wrote o (record { model = tab 8 r; value = v }) p → Told p b (low_counts 10 0 (count_said 0 b)) 160 q → Told o b (count level) 176 q
unfolding count
count_told {p = p} {q = q} level b e f h t = told_ask e f h (subst (λ (n : ℕ). Told p b (low_counts 10 0 n) 160 q) (sym f) t)

-- without low bits nothing follows
lows_untold : {o : Out} (b : Block) → b.lows ≤ 0 → b.count ≤ 16 → Core o → Told o b (low_counts 10 0 (count_said 0 b)) 160 o
lows_untold b l h k = midway_end (midway_start k) (lows_said b 10 0 l h)

pub ec_enc_icdf_run-w-requires-clause-icdf : goal.ec_enc_icdf_run-w-requires-clause-icdf
ec_enc_icdf_run-w-requires-clause-icdf c =
    let i = c.loop-i.i in
    let e = count_in c.args.rows.now c.args.level c.requires.pulse_rows (omega arith) in
    let h = first_writable (block_at c.args.sums c.args.lows i) c.args.level (c.requires.at_most.0 i) (omega arith) in
    rw (e, c.count_said-first.ensures, c.from-sum.ensures, c.from-shift.ensures) (row_good (48 + c.args.level) (omega arith), h)

pub loop-i-preserved : goal.loop-i-preserved
loop-i-preserved c =
    let l = c.loop-i in
    let a = c.args in
    let b = block_at c.args.sums c.args.lows c.loop-i.i in
    let e = count_in a.rows.now a.level c.requires.pulse_rows (omega arith) in
    let v = rw (c.from-sum.ensures, c.from-shift.ensures) at c.count_said-first.ensures in
    let w = c.ec_enc_icdf_run-w.ensures in
    let s = counts_said a.sums a.lows a.level a.n l.i c.loop-i-test.true in
    elim c.if-shift-ne0.branch [
      | then-shift-ne0 t ↦
          rw (t.buf-is, t.w-is)
          (midway_next l.invariant
          (count_told a.level b e v w (rw (c.from-sum.ensures, c.from-shift.ensures) at t.later_tell-w.ensures))
          s
          (omega arith))
      | else-shift-ne0 t ↦
          rw (t.buf-is, t.w-is)
          (midway_next l.invariant
          (count_told a.level b e v w (lows_untold b (omega (arith, t.if-shift-ne0.false)) (c.requires.at_most.0 l.i) w.core))
          s
          (omega arith))
    ]

pub returns : goal.returns
returns c =
    let l = c.loop-i in
    let a = c.args in
    told_within (omega arith) (midway_end l.invariant (counts_silent a.sums a.lows a.level a.n l.i (omega arith)))
