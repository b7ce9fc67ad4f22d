-- Packets, and refusals in their order: each input with what it prints. Assumes nothing.
use Prim.Native.Nat.{ℕ}
use Prim.Native.String.{String}
use mathlib.Core.Path.{◌≡◌, refl}
use mathlib.Core.List.{List, [], ◌∷◌, ◌++◌, map}
use lib.ListN.{replicate}
use Rattle.refusals.specs.First.{first_of}
use Rattle.numerals.specs.Decimal.{digits_in, natural, decimal}
use Rattle.listing.specs.Ascii.{ascii}
use Rattle.listing.specs.Lines.{spaced, line, refused_text}
use Rattle.framing.specs.Toc.{durations}
use Rattle.framing.specs.Lengths.{lengths, widths, total}
use Rattle.framing.specs.Padding.{pad_lengths, pad_bytes}
use Rattle.framing.specs.Form.{form_of, firsts, head, sizes}
use Rattle.framing.specs.Rules.{rule1, rule2, rule3, rule4, rule5, rule6, rule7, keeps}
use Rattle.framing.specs.Reading.{read_rule, starts, accepted, packet_read}
use Rattle.packet_text_frames.specs.FrameLines.{frame_lines}
use Rattle.packet_text_accepted.specs.AcceptedText.{accepted_text}
use Rattle.packet_text.specs.PacketText.{packet_text}

pub record Case : Type 0 where
  pub input : List ℕ
  pub prints : List ℕ

abbrev pub case : List ℕ → String → Case
case s t = record { input = s; prints = ascii t }

-- frames of one byte
abbrev pub twelve : Case
twelve =
    record {
      input = 3 ∷ 12 ∷ replicate 12 7;
      prints = ascii "config 0\narrangement 3\nframe 2 1\nframe 3 1\nframe 4 1\nframe 5 1\nframe 6 1\nframe 7 1\n" ++
          ascii "frame 8 1\nframe 9 1\nframe 10 1\nframe 11 1\nframe 12 1\nframe 13 1\nend\n";
    }

unfoldable pub cases : List Case
cases =
    case (8 ∷ 5 ∷ 6 ∷ []) "config 1\narrangement 0\nframe 1 2\nend\n" ∷
    -- no frame bytes
    case (8 ∷ []) "config 1\narrangement 0\nframe 1 0\nend\n" ∷
    -- two frames and padding of two bytes
    case (11 ∷ 194 ∷ 1 ∷ 1 ∷ 5 ∷ 6 ∷ 9 ∷ []) "config 1\narrangement 3\nframe 4 1\nframe 5 1\nend\n" ∷
    twelve ∷
    -- refused
    case (replicate 16385 0) "refused 1\n" ∷
    case [] "refused 10\n" ∷
    case (97 ∷ 0 ∷ []) "refused 10\n" ∷
    case (96 ∷ []) "refused 11\n" ∷
    []

pub cases_hold : map (λ (c : Case). packet_text c.input) cases ≡ map (λ (c : Case). c.prints) cases
unfolding cases packet_text accepted_text frame_lines packet_read accepted starts read_rule first_of keeps rule1 rule2 rule3 rule4 rule5
    rule6 rule7 sizes head firsts form_of pad_lengths pad_bytes lengths widths total durations refused_text line spaced decimal natural
    digits_in ascii
cases_hold = refl
