-- `put_byte` meets its contract: a byte where there is room, or the error. Assumes nothing.
use borrow.Author.Rules.{rules}
use native.Mathlib.Omega.{arith}
use Rattle.entcode.specs.Flat.{out}
use Rattle.entenc_bytes.proofs.Placing.{put_here, put_full}
use Rattle.entenc_bytes.proofs.put_byte.Statement.{statement}
use Rattle.entenc_bytes.proofs.put_byte.Tie as tie

returns : tie.Need-returns-then-w
returns c =
    let b = c.before.before.before.before.before in
    put_here (out b.args.buf.now b.args.w) b.args.b b.requires (omega arith)

returns_2 : tie.Need-returns-else-w
returns_2 c =
    let b = c.before.before.before.before in
    put_full (out b.args.buf.now b.args.w) b.args.b b.requires (omega arith)

pub put_byte_spec : {M : Type 1} → statement M
put_byte_spec =
    tie.close
    (tie.spec
    (λ c. search rules) (λ c. search rules) (λ c. search rules) (λ c. search rules) (λ c. search rules) returns
    returns_2)
