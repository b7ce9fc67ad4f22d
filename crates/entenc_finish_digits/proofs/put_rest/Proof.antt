-- `put_rest` meets its contract: a held byte, a run alone, or nothing. Assumes nothing.
use Rattle.std.proofs.Common.{◌∙◌, arith, to_z-of_z, w32, SFits, rules}
use Rattle.entcode.specs.Flat.{out}
use Rattle.entenc_finish_digits.proofs.Digits.{rest_some, rest_none, held_there, held_gone}
use Rattle.entenc_finish_digits.proofs.put_rest.Statement.{statement}
use Rattle.entenc_finish_digits.proofs.put_rest.Tie as tie

-- the held byte fits its type
rem_fits : (c : tie.Start) → SFits w32 c.args.w.rem
rem_fits c = search rules

returns : tie.Need-returns-then-h-ge0
returns c =
    let b = c.before.before.before.before.before.before.before in
    let w = b.args.w in
    let t = held_there w.rem w.ext (rw (to_z-of_z (rem_fits b)) at c.if-h-ge0.true) in
    c.carry_out_run.ensures ∙ rest_some (out b.args.buf.now w) b.requires.1.0 t

returns_2 : tie.Need-returns-then-w-gt0
returns_2 c =
    let b = c.before.before.before.before.before.before.before.before.before in
    c.carry_out_run-then-w-gt0.ensures
    ∙ rest_some (out b.args.buf.now b.args.w) b.requires.1.0 (omega (arith, c.if-w-gt0.true))

returns_3 : tie.Need-returns-else-w-gt0
returns_3 c =
    let b = c.before.before.before.before.before in
    let w = b.args.w in
    let t = held_gone w.rem (rw (to_z-of_z (rem_fits b)) at c.if-h-ge0.false) in
    rest_none (out b.args.buf.now w) b.requires.0.fair t (omega (arith, c.if-w-gt0.false))

pub put_rest_spec : {M : Type 1} → statement M
put_rest_spec =
    tie.close
    (tie.spec
    (λ c κs. search rules) (λ c κs. search rules) (λ c. search rules) returns (λ c. search rules) returns_2
    returns_3)
