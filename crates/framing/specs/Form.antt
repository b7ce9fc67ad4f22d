-- The four arrangements of frames in a packet (RFC 6716, sections 3.2.2 to 3.2.5): one frame; two of one size; two,
-- the first with its length; any number, with a byte that says how many, whether the lengths are written and whether
-- there is padding. Assumes nothing.
use Rattle.std.specs.Prelude.{ℕ, ◌+◌, ◌-◌, ◌/◌, ◌%◌, Bool, true, false, cond, List, [], ◌∷◌, ◌++◌, eqb, length, get_or, take, drop, replicate}
use Rattle.framing.specs.declared.Form.{Form}
use Rattle.framing.specs.Toc.{code_of, by_code}
use Rattle.framing.specs.Lengths.{lengths, widths, total}
use Rattle.framing.specs.Padding.{pad_lengths, pad_bytes}

abbrev pub plain : ℕ → Bool → Form
plain n v = record { count = n; varied = v; own = 1; lens = 0; pad = 0 }

-- arrangement 3: the bits v p MMMMMM of the count byte b, and what stands behind it
abbrev pub counted : ℕ → List ℕ → Form
counted b r =
    record {
      count = b % 64;
      varied = eqb (b / 128 % 2) 1;
      own = 2;
      lens = cond (eqb (b / 64 % 2) 1) (pad_lengths r) 0;
      pad = cond (eqb (b / 64 % 2) 1) (pad_bytes r) 0;
    }

unfoldable pub form_of : List ℕ → Form
form_of s = by_code (code_of s) (plain 1 false) (plain 2 false) (plain 2 true) (counted (get_or s 1 0) (drop 2 s))

-- ---- where the frames stand, by the form

-- what stands behind the first bytes and the padding's length bytes: the written lengths, if there are any
abbrev pub behind : Form → List ℕ → List ℕ
behind f s = drop (f.own + f.lens) s

unfoldable pub firsts : Form → List ℕ → List ℕ
firsts f s = cond f.varied (lengths (f.count - 1) (behind f s)) []

-- where the first frame starts
unfoldable pub head : Form → List ℕ → ℕ
head f s = f.own + f.lens + cond f.varied (widths (f.count - 1) (behind f s)) 0

-- bytes that are left for the frames
abbrev pub room : Form → List ℕ → ℕ
room f s = length s - (head f s + f.pad)

-- written lengths, and what is left for the last; or equal shares
unfoldable pub sizes : Form → List ℕ → List ℕ
sizes f s = cond f.varied (firsts f s ++ ((room f s - total (firsts f s)) ∷ [])) (replicate f.count (room f s / f.count))

-- the padding with its length bytes
abbrev pub padding : Form → ℕ
padding f = f.lens + f.pad

-- parts of a list, one behind the other
unfoldable pub cut : List ℕ → List ℕ → List (List ℕ)
cut [] r = []
cut (n ∷ ns) r = take n r ∷ cut ns (drop n r)

-- ---- of a packet

abbrev pub sizes_of : List ℕ → List ℕ
sizes_of s = sizes (form_of s) s

abbrev pub head_of : List ℕ → ℕ
head_of s = head (form_of s) s

abbrev pub padding_of : List ℕ → ℕ
padding_of s = padding (form_of s)

-- its frames, as bytes
abbrev pub frames_of : List ℕ → List (List ℕ)
frames_of s = cut (sizes_of s) (drop (head_of s) s)
