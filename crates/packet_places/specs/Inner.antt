-- What is told of the places of a packet's frames: no public contract speaks of it. Assumes nothing.
use Rattle.std.specs.Prelude.{ℕ, ◌≤◌, ◌≡◌, true, List, length}
use Rattle.framing.specs.declared.Form.{Form}
use Rattle.framing.specs.Form.{form_of, head_of}
use Rattle.framing.specs.Rules.{keeps}
use Rattle.framing.specs.Reading.{starts, twelve}
use Rattle.packet_form.specs.Inner.{Bounded}
use Rattle.packet_span.specs.Inner.{last_by}
use Rattle.packet_places.specs.declared.Places.{Places}

-- a packet that keeps the rules: its form, where the first frame starts, the last frame's size
pub record Spanned (s : List ℕ) (f : Form) (h n : ℕ) : Type 0 where
  pub short : length s ≤ 16384
  pub rules : keeps s ≡ true
  pub form : f ≡ form_of s
  pub bounds : Bounded f
  pub head : h ≡ head_of s
  pub last : n ≡ last_by f s

-- parts of these sizes stand in their places, one behind the other, the first at h
pub record Stands (ns : List ℕ) (h : ℕ) (p : Places) : Type 0 where
  pub size : p.size ≡ twelve ns
  pub start : p.start ≡ twelve (starts h ns)
