-- What the packet lister (document 02, item 1) prints of the frames of a packet: start and size of each. Assumes nothing.
use Rattle.std.specs.Prelude.{ℕ, zero, suc, List, [], ◌∷◌, ◌++◌, pos, get_or}
use Rattle.listing.specs.Ascii.{ascii}
use Rattle.listing.specs.Lines.{line}
use Rattle.framing.specs.declared.Packet.{Packet}

abbrev pub frame_line : ℕ → ℕ → List ℕ
frame_line start size = line (ascii "frame") (pos start ∷ pos size ∷ [])

-- the first n frames
unfoldable pub frame_lines : Packet → ℕ → List ℕ
frame_lines a zero = []
frame_lines a (suc n) = frame_lines a n ++ frame_line (get_or a.start n 0) (get_or a.size n 0)
