-- What the digits left to put make of the state is what all of them make.
use Rattle.std.proofs.Common.{◌≡◌, ◌+◌, ◌-◌, ◌^◌, ◌≤◌}
use Rattle.entcode.specs.Flat.{held_of, out}
use Rattle.entcode.specs.Inner.Writing.{Roomy, digits_out}
use Rattle.entenc_finish_digits.proofs.put_digits_run.Given as goal

abbrev pub invariant-loop : goal.invariant-loop
invariant-loop l = record {
  rest : digits_out (out l.buf l.w) l.v (l.count - l.counter) ≡ digits_out (out l.fn.buf l.fn.from) l.fn.end l.count;
  roomy : Roomy (out l.buf l.w);
  held : held_of l.w.rem ≤ 256;
  run : l.w.ext + l.count ≤ 2 ^ 31 + l.counter;
}
