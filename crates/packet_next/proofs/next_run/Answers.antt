-- `next_run` meets its contract: a written length, or the last size. Assumes nothing.
use Rattle.std.proofs.Common.{sym, ◌∙◌, arith}
use mathlib.Core.Bool.{true≢false}
use Rattle.packet_next.proofs.NextLaws.{next_small, next_inside, next_place, next_written, next_rest, next_share}
use Rattle.packet_next.proofs.next_run.Goals as goal
use Rattle.packet_next.proofs.next_run.Goals.{else-f-via-then-f+else-k-f, else-f-via-else-f}

pub inside_run-requires : goal.inside_run-requires
inside_run-requires c = next_inside _ _ _ _ _ c.requires c.if-f.true c.if-k-f.true

pub returns-then-k-f : goal.returns-then-k-f
returns-then-k-f c =
    let r = c.inside_run.ensures in
    record {
      value = r.value_value.0 ∙ next_written _ _ _ _ _ c.requires c.if-f.true c.if-k-f.true;
      place = λ w h. next_place _ _ _ _ _ c.requires c.if-f.true _ r.value_value.1;
      small = r.value_bound.0;
      short = r.value_bound.1;
    }

pub returns-else-f : goal.returns-else-f
returns-else-f c =
    elim c.else-f.branch [
      | else-f-via-then-f+else-k-f w ↦ record {
        value = next_rest _ _ _ _ _ c.requires w.if-f.true (λ h. omega (arith, w.if-k-f.false));
        place = λ v h. absurd (omega (arith, w.if-k-f.false));
        small = next_small _ _ _ _ _ c.requires;
        short = omega arith;
      }
      | else-f-via-else-f w ↦ record {
        value = next_share _ _ _ _ _ c.requires w.if-f.false;
        place = λ v h. absurd (true≢false (sym v ∙ w.if-f.false));
        small = next_small _ _ _ _ _ c.requires;
        short = omega arith;
      }
    ]
