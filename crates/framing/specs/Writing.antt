-- How a packet is laid out of its frames (RFC 6716, section 3; document 02, item 1), and what writing one leaves and
-- answers: the shortest form, or exactly the length asked for. Refusals: 1 for a buffer above 16,384 bytes; 6 where
-- the frames' bytes are not as many as the sizes say; 8 for no room or a length below the shortest; 10 for no frame,
-- a frame above 1,275 bytes, more than 120 ms; 11 for a configuration above 11. Assumes nothing.
use Rattle.std.specs.Prelude.{ℕ, ◌+◌, ◌-◌, ◌*◌, ◌%◌, Bool, true, false, ◌&&◌, not, cond, List, [], ◌∷◌, ◌++◌, eqb, leb, ltb, length, drop, replicate}
use Rattle.lists.specs.Every.{every}
use Rattle.refusals.specs.First.{first_of}
use Rattle.framing.specs.declared.PacketWritten.{PacketWritten}
use Rattle.framing.specs.Toc.{by_code, in_time}
use Rattle.framing.specs.Lengths.{length_codes, total}
use Rattle.framing.specs.Padding.{pad_code, pad_tail}
use Rattle.framing.specs.Rules.{fits_frame}
use Rattle.framing.specs.Reading.{unless}

-- ---- a packet laid out

-- all but the last
unfoldable pub but_last : List ℕ → List ℕ
but_last [] = []
but_last (a ∷ []) = []
but_last (a ∷ (b ∷ r)) = a ∷ but_last (b ∷ r)

abbrev pub bit : Bool → ℕ
bit true = 1
bit false = 0

-- v p MMMMMM
abbrev pub count_byte : ℕ → Bool → ℕ → ℕ
count_byte m v k = m + 64 * bit (ltb 0 k) + 128 * bit v

-- first byte t, lengths written or not, padding of k bytes with its length bytes, sizes of the frames, the frames,
-- what stands behind them
unfoldable pub laid : ℕ → Bool → ℕ → List ℕ → List ℕ → List ℕ → List ℕ
laid t v k ns frames tail =
    t ∷ (by_code (t % 4) [] [] [] (count_byte (length ns) v k ∷ pad_code k) ++ (cond v (length_codes (but_last ns)) [] ++ (frames ++ tail)))

-- ---- which layout is written

-- all of one size
unfoldable pub alike : List ℕ → Bool
alike [] = true
alike (a ∷ r) = every (λ b. eqb b a) r

-- arrangement 0 for one frame, 1 for two of one size, 2 for two others, else 3
unfoldable pub shortest_code : List ℕ → ℕ
shortest_code [] = 3
shortest_code (a ∷ []) = 0
shortest_code (a ∷ (b ∷ [])) = cond (eqb b a) 1 2
shortest_code (a ∷ (b ∷ (c ∷ r))) = 3

-- bytes of the packet behind its first one or two, without padding
unfoldable pub bare : List ℕ → ℕ
bare ns = cond (alike ns) 0 (length (length_codes (but_last ns))) + total ns

unfoldable pub shortest : List ℕ → ℕ
shortest ns = cond (ltb (shortest_code ns) 3) 1 2 + bare ns

-- the length asked for; 0 asks for the shortest
abbrev pub length_for : List ℕ → ℕ → ℕ
length_for ns l = cond (eqb l 0) (shortest ns) l

-- a packet of m bytes: the shortest, or arrangement 3 with the bytes that are left as padding
unfoldable pub packet_of : ℕ → List ℕ → List ℕ → ℕ → List ℕ
packet_of c ns frames m =
    let k = m - (2 + bare ns) in
    laid (8 * c + cond (eqb m (shortest ns)) (shortest_code ns) 3) (not (alike ns)) k ns frames (replicate (pad_tail k) 0)

-- ---- the call

-- 10 and 11: of the configuration and the sizes
unfoldable pub frames_rule : ℕ → List ℕ → ℕ
frames_rule c ns =
    first_of (unless (leb 1 (length ns) && (every fits_frame ns && in_time (length ns) c)) 10) (unless (leb c 11) 11)

-- the buffer's length, configuration, number of bytes of the frames, sizes, length asked for
unfoldable pub write_rule : ℕ → ℕ → ℕ → List ℕ → ℕ → ℕ
write_rule len c n ns l =
    first_of (unless (leb len 16384) 1)
    (first_of (unless (eqb n (total ns)) 6)
    (first_of (unless (leb (shortest ns) (length_for ns l) && leb (length_for ns l) len) 8) (frames_rule c ns)))

-- the buffer and the answer
pub record Wrote : Type 0 where
  pub buf : List ℕ
  pub answer : PacketWritten

unfoldable pub packet_write : List ℕ → ℕ → List ℕ → List ℕ → ℕ → Wrote
packet_write buf c frames ns l =
    let n = write_rule (length buf) c (length frames) ns l in
    let m = length_for ns l in
    cond (eqb n 0)
    (record { buf = packet_of c ns frames m ++ drop m buf; answer = record { refusal = 0; length = m } })
    (record { buf = buf; answer = record { refusal = n; length = 0 } })
