-- What is told of the next frame's size: no public contract speaks of it. Assumes nothing.
use Rattle.std.specs.Prelude.{ℕ, suc, ◌+◌, ◌≤◌, ◌<◌, ◌≡◌, true, List, get_or}
use Rattle.framing.specs.declared.Form.{Form}
use Rattle.framing.specs.Lengths.{widths}
use Rattle.framing.specs.Form.{form_of, behind, sizes}
use Rattle.framing.specs.Rules.{keeps}
use Rattle.packet_form.specs.declared.Coded.{Coded}
use Rattle.packet_span.specs.Inner.{last_by}

-- where the length of frame k stands, if it is written
abbrev pub length_at : List ℕ → Form → ℕ → ℕ
length_at s f k = f.own + f.lens + widths k (behind f s)

-- frame k is next, and its length, if it is written, stands at a place
pub record Next (s : List ℕ) (f : Form) (n at k : ℕ) : Type 0 where
  pub rules : keeps s ≡ true
  pub form : f ≡ form_of s
  pub last : n ≡ last_by f s
  pub some : k < f.count
  pub few : f.count ≤ 63
  pub place : f.varied ≡ true → at ≡ length_at s f k

pub record Sized (s : List ℕ) (f : Form) (at k : ℕ) (c : Coded) : Type 0 where
  pub value : c.value ≡ get_or (sizes f s) k 0
  pub place : f.varied ≡ true → suc k < f.count → at + c.width ≡ length_at s f (suc k)
  pub small : c.value ≤ 1275
  pub short : c.width ≤ 2
