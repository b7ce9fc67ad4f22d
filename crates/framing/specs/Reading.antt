-- What reading a packet answers: the configuration, the arrangement, the bytes that padding takes, and start and size
-- of each frame. Refusals: 1 above 16,384 bytes; 10 where a rule of section 3 is broken; 11 for a configuration above
-- 11 or two channels. Assumes nothing.
use Rattle.std.specs.Prelude.{ℕ, ◌+◌, ◌-◌, Bool, ◌&&◌, cond, List, [], ◌∷◌, ◌++◌, eqb, leb, length, replicate}
use Rattle.refusals.specs.First.{first_of}
use Rattle.framing.specs.declared.Packet.{Packet}
use Rattle.framing.specs.Toc.{config_of, stereo_of, code_of}
use Rattle.framing.specs.Form.{sizes_of, head_of, padding_of}
use Rattle.framing.specs.Rules.{keeps}

abbrev pub unless : Bool → ℕ → ℕ
unless t n = cond t 0 n

-- SILK alone, in mono
abbrev pub speech : List ℕ → Bool
speech s = leb (config_of s) 11 && eqb (stereo_of s) 0

unfoldable pub read_rule : List ℕ → ℕ
read_rule s = first_of (unless (leb (length s) 16384) 1) (first_of (unless (keeps s) 10) (unless (speech s) 11))

-- where each of some parts starts, one behind the other, the first at a
unfoldable pub starts : ℕ → List ℕ → List ℕ
starts a [] = []
starts a (n ∷ ns) = a ∷ starts (a + n) ns

-- twelve places
abbrev pub twelve : List ℕ → List ℕ
twelve l = l ++ replicate (12 - length l) 0

abbrev pub refused : ℕ → Packet
refused n =
    record { refusal = n; config = 0; arrangement = 0; count = 0; padding = 0; start = replicate 12 0; size = replicate 12 0 }

unfoldable pub accepted : List ℕ → Packet
accepted s =
    record {
      refusal = 0;
      config = config_of s;
      arrangement = code_of s;
      count = length (sizes_of s);
      padding = padding_of s;
      start = twelve (starts (head_of s) (sizes_of s));
      size = twelve (sizes_of s);
    }

unfoldable pub packet_read : List ℕ → Packet
packet_read s = cond (eqb (read_rule s) 0) (accepted s) (refused (read_rule s))
