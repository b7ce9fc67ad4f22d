-- 17 asks for one more low bit and a fresh count, of which the tenth is never 17.
use Rattle.std.proofs.Common.{◌≡◌, ◌+◌, ◌-◌, ◌≤◌, ◌<◌, ℕ, length, ap, arith}
use Rattle.sheet.proofs.SheetRule.{row_good}
use Rattle.symbol_reader.proofs.AlongLaws.{along_ask, midway_next, midway_end}
use Rattle.silk.specs.PulseSyntax.{count}
use Rattle.silk.proofs.PulseSteps.{lows_end, lows_next}
use Rattle.silk.proofs.PulseRowLaws.{count_in, later_in, later}
use Rattle.pulse_counts_read.proofs.count_run.Goals as goal

-- a count of 17 is not the tenth
not_tenth : (j v : ℕ) → j ≤ 10 → (j ≡ 10 → v < 17) → v ≡ 17 → j < 10
not_tenth j v h f e = grind arith

pub symbol_run-v-requires-clause-icdf : goal.symbol_run-v-requires-clause-icdf
symbol_run-v-requires-clause-icdf c =
    let e = count_in c.args.rows.now c.args.level c.requires.pulse_rows (omega arith) in
    rw e (row_good (48 + c.args.level) (omega arith))

pub symbol_run-v-requires-in-loop-v-clause-icdf : goal.symbol_run-v-requires-in-loop-v-clause-icdf
symbol_run-v-requires-in-loop-v-clause-icdf c =
    let j = c.loop-v.j + 1 in
    let e = later_in c.args.rows.now j c.later_at-at.result c.requires.pulse_rows c.later_at-at.ensures in
    rw e (later j).good

pub loop-v-preserved : goal.loop-v-preserved
loop-v-preserved c =
    let l = c.loop-v in
    let i = l.invariant in
    let t = c.loop-v-test.true in
    let p : l.j < 10 = not_tenth l.j l.v i.to i.tenth t in
    let e = later_in c.args.rows.now (l.j + 1) c.later_at-at.result c.requires.pulse_rows c.later_at-at.ensures in
    let b = c.symbol_run-v-in-loop-v.ensures in
    let g = later (l.j + 1) in
    record {
      midway = midway_next i.midway b (λ h. lows_next _ l.r.state _ 10 l.j l.v _ e h p t) (omega arith);
      to = omega arith;
      most17 = omega (arith, b.took.inside, ap length e, g.most);
      tenth = λ q. omega (arith, b.took.inside, ap length e, g.tenth q);
    }

pub returns-clause-along : goal.returns-clause-along
unfolding count
returns-clause-along c =
    let l = c.loop-v in
    let e = count_in c.args.rows.now c.args.level c.requires.pulse_rows (omega arith) in
    along_ask {n = 160} e c.symbol_run-v.ensures
    (midway_end l.invariant.midway (lows_end _ l.r.state (10 - l.j) l.j l.v c.loop-v-test.false) (omega arith))
