-- What is still to be put, after what was put, is what was to be put.
use Rattle.std.proofs.Common.{◌≡◌, ◌-◌}
use lib.ListN.{replicate}
use Rattle.entcode.specs.Flat.{out}
use Rattle.entcode.specs.Inner.Writing.{Roomy, put_all}
use Rattle.entenc_bytes.proofs.put_many.Given as goal

abbrev pub invariant-loop : goal.invariant-loop
invariant-loop l = record {
  rest : put_all (out l.buf l.w) (replicate (l.count - l.counter) l.b) ≡ put_all (out l.fn.buf l.fn.from) (replicate l.count l.b);
  roomy : Roomy (out l.buf l.w);
}
