-- What the readers over a packet view answer: the packet as it was lent, and the answer of the call by value on the
-- packet and the place reached. Assumes nothing.
use Rattle.std.specs.Prelude.{ℕ, List}
use Rattle.std.specs.Borrow.{Bor}
use Rattle.entcode.specs.declared.Decoded.{Decoded}
use Rattle.entcode.specs.Models.{Model}
use Rattle.entcode.specs.Reading.{dec_open, dec_sym, dec_tell}
use Rattle.packet_view.specs.declared.PacketView.{PacketView}
use Rattle.packet_view.specs.declared.PacketRead.{PacketRead}

-- the packet handed on with an answer
abbrev pub handed : Bor (List ℕ) → Decoded → PacketRead
handed packet a = record { packet = packet; read = a }

abbrev pub view_open : Bor (List ℕ) → PacketRead
view_open packet = handed packet (dec_open packet.now)

abbrev pub view_tell : PacketView → PacketRead
view_tell v = handed v.packet (dec_tell v.packet.now v.reader)

abbrev pub view_sym : PacketView → Model → PacketRead
view_sym v m = handed v.packet (dec_sym v.packet.now v.reader m)

-- the packet at the place that an answer reached
abbrev pub view_at : PacketRead → PacketView
view_at a = record { packet = a.packet; reader = a.read.state }
