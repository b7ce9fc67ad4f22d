-- The answer's numbers are small. Assumes nothing.
use Rattle.std.proofs.Common.{◌≡◌, ap, length}
use Rattle.spectrum.specs.Calls.{Called, stabilise_call}
use Rattle.stabiliser_text.proofs.Answers.{small}
use Rattle.stabiliser_text.proofs.put_stabilised.Goals as goal

pub put_answer_run-requires-clause-small : goal.put_answer_run-requires-clause-small
put_answer_run-requires-clause-small c =
    let r = c.silk_NLSF_stabilize-a in
    let v = c.fill_run.new.values in
    let k : length r.new.vector ≡ length v = r.auto.vector in
    let a : r.result ≡ (stabilise_call v c.fill_run-2.new.values).answer = ap (λ (x : Called). x.answer) r.ensures in
    rw (k, a) (small v _)
