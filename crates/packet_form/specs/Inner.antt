-- What is told of a form: no public contract speaks of it. Assumes nothing.
use Rattle.std.specs.Prelude.{◌≤◌}
use Rattle.framing.specs.declared.Form.{Form}

-- no number of a form is large: a fact of packets of 16,384 bytes at most, and no ghost field of `Form`, which `form_of` of
-- framing/specs/Form makes of any list
pub record Bounded (f : Form) : Type 0 where
  pub count : f.count ≤ 63
  pub own : f.own ≤ 2
  pub lens : f.lens ≤ 20000
  pub pad : f.pad ≤ 5000000
