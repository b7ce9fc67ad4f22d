-- `code_run` meets its contract. Assumes nothing.
use Rattle.std.proofs.Common.{sym, ap, ◌∙◌, arith, cond, Bool}
use Rattle.framing.proofs.WriteRules.{code_one, code_two, code_other}
use Rattle.packet_shortest.proofs.code_run.Goals as goal

pub returns-in-1 : goal.returns-in-1
returns-in-1 c = code_one _ c.in-1.is

pub returns-in-2 : goal.returns-in-2
returns-in-2 c = ap (λ (t : Bool). cond t 1 2) (sym c.if-same.true ∙ c.requires) ∙ code_two _ c.in-2.is

pub returns-in-2-2 : goal.returns-in-2-2
returns-in-2-2 c = ap (λ (t : Bool). cond t 1 2) (sym c.if-same.false ∙ c.requires) ∙ code_two _ c.in-2.is

pub returns-in_default : goal.returns-in_default
returns-in_default c = code_other _ (λ e. omega arith) (λ e. omega arith)
