-- `widths_run` meets its contract. Assumes nothing.
use Rattle.std.proofs.Common.{sym, ◌∙◌, arith}
use Rattle.packet_shortest.proofs.CodeLaws.{alike_some, width_none, width_some, width_many}
use Rattle.packet_shortest.proofs.widths_run.Goals as goal

pub width_run-requires : goal.width_run-requires
width_run-requires c = (alike_some _ (sym c.requires ∙ c.if-same.false), c.if-sizes-gt-LONGEST_PACKET.false)

pub returns-then-same-clause-told : goal.returns-then-same-clause-told
returns-then-same-clause-told c = record {
  most = omega arith;
  exact = λ h. width_none _ (sym c.requires ∙ c.if-same.true);
  more = λ h. absurd (omega arith);
}

pub returns-then-sizes-gt-LONGEST_PACKET-clause-told : goal.returns-then-sizes-gt-LONGEST_PACKET-clause-told
returns-then-sizes-gt-LONGEST_PACKET-clause-told c = record {
  most = omega arith;
  exact = λ h. absurd (omega arith);
  more = λ h. width_many _ (sym c.requires ∙ c.if-same.false) c.if-sizes-gt-LONGEST_PACKET.true;
}

pub returns-else-sizes-gt-LONGEST_PACKET-clause-told : goal.returns-else-sizes-gt-LONGEST_PACKET-clause-told
returns-else-sizes-gt-LONGEST_PACKET-clause-told c = record {
  most = omega (arith, c.width_run.ensures.1);
  exact = λ h. width_some _ _ (sym c.requires ∙ c.if-same.false) c.width_run.ensures.0;
  more = λ h. absurd (omega (arith, c.width_run.ensures.1));
}
