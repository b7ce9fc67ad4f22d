-- What the packet lister (document 02, item 1) prints of its input, the bytes of one whole packet: what it holds, or the
-- refusal. Assumes nothing.
use Rattle.std.specs.Prelude.{ℕ, cond, List, eqb}
use Rattle.listing.specs.Lines.{refused_text}
use Rattle.framing.specs.Reading.{packet_read}
use Rattle.packet_text_accepted.specs.AcceptedText.{accepted_text}

-- the packet, or the refusal, 1, 10 or 11
unfoldable pub packet_text : List ℕ → List ℕ
packet_text s = cond (eqb (packet_read s).refusal 0) (accepted_text (packet_read s)) (refused_text (packet_read s).refusal)
