-- What the theorems of `proofs/Theorems` say of whole packets (document 02, item 1): a written length reads back, in
-- two bytes from 252 on; what was written reads back frame by frame at the length asked for; the parts that reading
-- names lie in order, apart and inside the packet; the shortest packet is the shortest; what was read can be written
-- again. Assumes nothing.
use Rattle.std.specs.Prelude.{ℕ, ◌+◌, ◌≤◌, ◌<◌, ◌≡◌, List, [], ◌++◌, length, get_or, take, drop}
use Rattle.lists.specs.AtMost.{AtMost}
use Rattle.framing.specs.Lengths.{length_of, width_of, length_code, total}
use Rattle.framing.specs.Form.{sizes_of, head_of, cut, frames_of}
use Rattle.framing.specs.Reading.{packet_read}
use Rattle.framing.specs.Writing.{length_for, Wrote, packet_write}

-- a packet that reading accepts
abbrev pub Accepted : List ℕ → Type 0
Accepted s = (packet_read s).refusal ≡ 0

-- a call that writing accepts, and the packet that it left in the buffer
abbrev pub Taken : Wrote → Type 0
Taken w = w.answer.refusal ≡ 0

abbrev pub left : Wrote → List ℕ
left w = take w.answer.length w.buf

-- ---- lengths

-- a length that a frame can have, with any bytes behind it
pub record LengthCoded (n : ℕ) (r : List ℕ) : Type 0 where
  pub value : length_of (length_code n ++ r) ≡ n
  pub width : width_of (length_code n ++ r) ≡ length (length_code n)
  pub bytes : AtMost 255 (length_code n)
  pub one : n < 252 → length (length_code n) ≡ 1
  pub two : 252 ≤ n → length (length_code n) ≡ 2

abbrev pub LengthsReadBack : Type 0
LengthsReadBack = (n : ℕ) (r : List ℕ) → n ≤ 1275 → LengthCoded n r

-- ---- what was written reads back

pub record ReadsBack (buf : List ℕ) (c : ℕ) (bytes ns : List ℕ) (l : ℕ) (w : Wrote) : Type 0 where
  pub size : w.answer.length ≡ length_for ns l
  pub whole : length (left w) ≡ length_for ns l
  pub rest : drop (length_for ns l) w.buf ≡ drop (length_for ns l) buf
  pub accepted : Accepted (left w)
  pub config : (packet_read (left w)).config ≡ c
  pub count : (packet_read (left w)).count ≡ length ns
  pub frames : frames_of (left w) ≡ cut ns bytes

abbrev pub WrittenReadsBack : Type 0
WrittenReadsBack =
    (buf : List ℕ) (c : ℕ) (bytes ns : List ℕ) (l : ℕ) → Taken (packet_write buf c bytes ns l)
    → ReadsBack buf c bytes ns l (packet_write buf c bytes ns l)

-- ---- the parts of an accepted packet

abbrev pub start_at : List ℕ → ℕ → ℕ
start_at s i = get_or (packet_read s).start i 0

abbrev pub size_at : List ℕ → ℕ → ℕ
size_at s i = get_or (packet_read s).size i 0

pub record Placed (s : List ℕ) : Type 0 where
  pub some : 1 ≤ (packet_read s).count
  pub few : (packet_read s).count ≤ 12
  pub many : length (frames_of s) ≡ (packet_read s).count
  pub inside : (i : ℕ) → i < (packet_read s).count → start_at s i + size_at s i ≤ length s
  pub order : (i j : ℕ) → i < j → j < (packet_read s).count → start_at s i + size_at s i ≤ start_at s j
  pub short : (i : ℕ) → i < (packet_read s).count → size_at s i ≤ 1275
  pub part : (i : ℕ) → i < (packet_read s).count → get_or (frames_of s) i [] ≡ take (size_at s i) (drop (start_at s i) s)

abbrev pub PartsPlaced : Type 0
PartsPlaced = (s : List ℕ) → Accepted s → Placed s

-- ---- the shortest is shortest

-- no accepted packet of the same frames is shorter than what is written where no length is asked for
abbrev pub NoneShorter : Type 0
NoneShorter =
    (buf : List ℕ) (c : ℕ) (bytes ns s : List ℕ) → Taken (packet_write buf c bytes ns 0) → AtMost 255 s → Accepted s
    → frames_of s ≡ cut ns bytes
    → (packet_write buf c bytes ns 0).answer.length ≤ length s

-- ---- what was read can be written again

-- the frames of a packet, one behind the other
abbrev pub bytes_of : List ℕ → List ℕ
bytes_of s = take (total (sizes_of s)) (drop (head_of s) s)

-- an accepted packet written again at its own length
abbrev pub again : List ℕ → List ℕ → Wrote
again buf s = packet_write buf (packet_read s).config (bytes_of s) (sizes_of s) (length s)

pub record Same (s : List ℕ) (w : Wrote) : Type 0 where
  pub taken : Taken w
  pub size : length (left w) ≡ length s
  pub accepted : Accepted (left w)
  pub config : (packet_read (left w)).config ≡ (packet_read s).config
  pub frames : frames_of (left w) ≡ frames_of s

abbrev pub ReadWritesAgain : Type 0
ReadWritesAgain =
    (buf s : List ℕ) → AtMost 255 s → Accepted s → length s ≤ length buf → length buf ≤ 16384 → Same s (again buf s)
