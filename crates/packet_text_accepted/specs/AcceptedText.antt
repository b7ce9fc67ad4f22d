-- What the packet lister (document 02, item 1) prints of a packet that is accepted: configuration, arrangement, start and
-- size of each frame. Assumes nothing.
use Rattle.std.specs.Prelude.{ℕ, List, [], ◌∷◌, ◌++◌, pos}
use Rattle.listing.specs.Ascii.{ascii}
use Rattle.listing.specs.Lines.{line}
use Rattle.framing.specs.declared.Packet.{Packet}
use Rattle.packet_text_frames.specs.FrameLines.{frame_lines}

unfoldable pub accepted_text : Packet → List ℕ
accepted_text a =
    line (ascii "config") (pos a.config ∷ []) ++
    line (ascii "arrangement") (pos a.arrangement ∷ []) ++
    frame_lines a a.count ++
    line (ascii "end") []
