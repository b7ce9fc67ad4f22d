-- The pieces of a packet, as they are put one behind the other: no public contract speaks of them. Assumes nothing.
use Rattle.std.specs.Prelude.{ℕ, ◌-◌, Bool, cond, List, [], ◌∷◌, ◌++◌, length, replicate}
use Rattle.framing.specs.Padding.{pad_code, pad_tail}
use Rattle.framing.specs.Writing.{count_byte}
use Rattle.packet_shortest.specs.Inner.{codes_of}

-- the first byte, and in arrangement 3 the count byte and the padding's length bytes
abbrev pub front_of : ℕ → Bool → ℕ → ℕ → List ℕ
front_of toc three b k = toc ∷ cond three (b ∷ pad_code k) []

-- the written lengths of all but the last, if they are written
abbrev pub middle_of : Bool → List ℕ → List ℕ
middle_of varied ns = cond varied (codes_of ns (length ns - 1)) []

-- all of it: then the frames, and the padding's bytes
abbrev pub whole_of : ℕ → Bool → ℕ → Bool → List ℕ → List ℕ → List ℕ
whole_of toc three k varied ns frames =
    front_of toc three (count_byte (length ns) varied k) k ++ (middle_of varied ns ++ (frames ++ replicate (pad_tail k) 0))
