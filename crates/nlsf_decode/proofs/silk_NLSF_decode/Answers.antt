-- What is checked decides between the decoded vector and a refusal. Assumes nothing.
use Rattle.std.proofs.Common.{ℕ, sym, ap, ◌∙◌}
use Rattle.refusals.proofs.RefusalLaws.{number_refuses}
use Rattle.spectrum.proofs.CallLaws.{decode_answers, decode_refuses}
use Rattle.spectrum.specs.Calls.{called}
use Rattle.nlsf_decode.proofs.silk_NLSF_decode.Goals as goal

pub returns-in-Ok : goal.returns-in-Ok
returns-in-Ok c =
    decode_answers c.args.vector.now c.args.indices c.args.khz c.decode.new.vector c.decode.result (sym c.in-Ok.ensures) c.decode.ensures

pub returns-in-Err : goal.returns-in-Err
returns-in-Err c =
    let e = c.from.ensures ∙ c.in-Err.ensures in
    ap (λ (n : ℕ). called c.args.vector.now n 0) e
    ∙ decode_refuses c.args.vector.now c.args.indices c.args.khz (λ h. number_refuses c.in-Err.refusal (c.in-Err.ensures ∙ h))
