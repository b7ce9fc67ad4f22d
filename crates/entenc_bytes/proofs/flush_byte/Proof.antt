-- `flush_byte` meets its contract. Assumes nothing.
use borrow.Author.Rules.{rules}
use Prim.Native.Nat.{◌-◌, ◌/◌}
use mathlib.Core.Path.{ap, ◌∙◌}
use Rattle.entcode.specs.Flat.{Out, out}
use Rattle.entcode.proofs.WriterFacts.{at_window}
use Rattle.entenc_bytes.proofs.Window.{shed_is}
use Rattle.entenc_bytes.proofs.flush_byte.Statement.{statement}
use Rattle.entenc_bytes.proofs.flush_byte.Tie as tie

returns : tie.Need-returns
returns c =
    let b = c.before.before.before.before.before.before.before.before in
    let w = b.args.w in
    ap (λ (q : Out). at_window q (w.window / 256) (w.wbits - 8) q.state.total) c.put_back-q.ensures
    ∙ shed_is (out b.args.buf.now w)

pub flush_byte_spec : {M : Type 1} → statement M
flush_byte_spec =
    tie.close
    (tie.spec
    (λ c. search rules) (λ c. search rules) (λ c κs. search rules) (λ c. search rules) returns)
