-- The rules of RFC 6716, section 3.4, on a packet of N bytes: it is malformed if it breaks one. P is the padding with
-- its length bytes, M the number of frames. Assumes nothing.
use Rattle.std.specs.Prelude.{ℕ, ◌+◌, ◌-◌, ◌%◌, Bool, true, false, ◌&&◌, not, List, eqb, leb, length, drop}
use Rattle.lists.specs.Every.{every}
use Rattle.framing.specs.Toc.{config_of, code_of, in_time}
use Rattle.framing.specs.Lengths.{length_of, width_of, total}
use Rattle.framing.specs.Form.{form_of, firsts, head_of, sizes_of, padding_of}

abbrev pub implies : Bool → Bool → Bool
implies true b = b
implies false b = true

abbrev pub is_code : ℕ → List ℕ → Bool
is_code c s = eqb (code_of s) c

abbrev pub varied_of : List ℕ → Bool
varied_of s = (form_of s).varied

abbrev pub count_of : List ℕ → ℕ
count_of s = (form_of s).count

abbrev pub fits_frame : ℕ → Bool
fits_frame n = leb n 1275

-- R1: packets are at least one byte
unfoldable pub rule1 : List ℕ → Bool
rule1 s = leb 1 (length s)

-- R2: no frame is longer than 1,275 bytes
unfoldable pub rule2 : List ℕ → Bool
rule2 s = every fits_frame (sizes_of s)

-- R3: in arrangement 1, N is odd
unfoldable pub rule3 : List ℕ → Bool
rule3 s = implies (is_code 1 s) (eqb (length s % 2) 1)

-- R4: in arrangement 2, the first frame's length is whole, and at most what remains
unfoldable pub rule4 : List ℕ → Bool
rule4 s = implies (is_code 2 s) (leb (1 + width_of (drop 1 s) + length_of (drop 1 s)) (length s))

-- R5: in arrangement 3, at least one frame, and at most 120 ms
unfoldable pub rule5 : List ℕ → Bool
rule5 s = implies (is_code 3 s) (leb 1 (count_of s) && in_time (count_of s) (config_of s))

-- R6: in arrangement 3 with equal frames, P is at most N - 2, and N - 2 - P a multiple of M
unfoldable pub rule6 : List ℕ → Bool
rule6 s =
    implies (is_code 3 s && not (varied_of s)) (leb (2 + padding_of s) (length s) && eqb ((length s - (2 + padding_of s)) % count_of s) 0)

-- R7: in arrangement 3 with lengths, N is enough for all bytes in front of the frames, the first M - 1 frames, and
-- the padding's end
unfoldable pub rule7 : List ℕ → Bool
rule7 s = implies (is_code 3 s && varied_of s) (leb (head_of s + total (firsts (form_of s) s) + (form_of s).pad) (length s))

unfoldable pub keeps : List ℕ → Bool
keeps s = rule1 s && (rule2 s && (rule3 s && (rule4 s && (rule5 s && (rule6 s && rule7 s)))))
