-- This shift is the first that passes, or the next may be.
use Rattle.std.proofs.Common.{◌≡◌, ◌≤◌, ◌<◌, ◌∙◌, ℕ, sym, arith, rules}
use mathlib.Core.Bool.{Bool}
use mathlib.Core.List.{List}
use borrow.Author.Tests.{le-leb, lt-leb}
use lib.Dec.{leb}
use lib.IntN.{ℤ}
use Rattle.silk.specs.PulseSyntax.{total}
use Rattle.silk.specs.PulseWriting.{shifted_by}
use Rattle.silk.specs.Inner.Pulses.{Shift}
use Rattle.pulse_shifts.proofs.Search.{first_here, first_next, first_none}
use Rattle.pulse_shifts.proofs.shift_of.Goals as goal

abbrev small : List ℤ → ℕ → Bool
small p j = leb (total (shifted_by j p)) 16

pub returns-then-count-le16 : goal.returns-then-count-le16
returns-then-count-le16 c =
    let p = c.args.part.now in
    let l = c.loop-j in
    let e = c.total_at-count.ensures in
    let m : total (shifted_by c.loop-j.j c.args.part.now) ≤ 16 = omega (arith, e) in (
      record {
        is = sym (first_here (small p) 11 l.j (omega arith) (le-leb _ _ m)) ∙ l.invariant;
        counted = λ h. e;
        most = omega arith;
        upto = omega arith;
      },
      omega arith,
    )

pub loop-j-preserved : goal.loop-j-preserved
loop-j-preserved c =
    let l = c.loop-j in
    let m : 16 < total (shifted_by c.loop-j.j c.args.part.now) = omega (arith, c.total_at-count.ensures) in
    first_next (small c.args.part.now) 11 l.j (omega arith) (lt-leb _ _ m) ∙ l.invariant

pub returns : goal.returns
returns c =
    let l = c.loop-j in
    let e : c.loop-j.j ≡ 11 = omega arith in
    let s : Shift c.args.part.now 0 11 = record {
      is = sym e ∙ sym (first_none (small c.args.part.now) 11 l.j (omega arith)) ∙ l.invariant;
      counted = λ h. absurd (omega arith);
      most = omega arith;
      upto = omega arith;
    } in
    search (rules, s)
