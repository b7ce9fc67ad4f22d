-- The reader (RFC 6716, section 4.1) over a packet b, a list of bytes. Assumes nothing.
use Rattle.std.specs.Prelude.{ℕ, zero, suc, ◌+◌, ◌-◌, ◌*◌, ◌/◌, ◌%◌, ◌^◌, min, ◌<◌, cond, List, leb, ltb, length, get_or}
use Rattle.icdf.specs.Search.{search}
use Rattle.entcode.specs.declared.Dec.{Dec}
use Rattle.entcode.specs.Models.{Model, bit, raw, num, tab, lo, hi, all, raw_n, joined}
use Rattle.entcode.specs.Cuts.{upper, lower}

-- ---- a reader with some fields changed: no other place spells a reader out

-- range and value
abbrev pub at_range : Dec → ℕ → ℕ → Dec
at_range d r v =
    record {
      storage = d.storage;
      endoffs = d.endoffs;
      window = d.window;
      wbits = d.wbits;
      total = d.total;
      offs = d.offs;
      rng = r;
      val = v;
      ext = d.ext;
      rem = d.rem;
      error = d.error;
    }

-- the byte held, the place behind it, the bits taken in all
abbrev pub at_byte : Dec → ℕ → ℕ → ℕ → Dec
at_byte d y i n =
    record {
      storage = d.storage;
      endoffs = d.endoffs;
      window = d.window;
      wbits = d.wbits;
      total = n;
      offs = i;
      rng = d.rng;
      val = d.val;
      ext = d.ext;
      rem = y;
      error = d.error;
    }

-- the window, its bits, the place from the end, the bits taken in all
abbrev pub at_window : Dec → ℕ → ℕ → ℕ → ℕ → Dec
at_window d x u i n =
    record {
      storage = d.storage;
      endoffs = i;
      window = x;
      wbits = u;
      total = n;
      offs = d.offs;
      rng = d.rng;
      val = d.val;
      ext = d.ext;
      rem = d.rem;
      error = d.error;
    }

-- the scratch of the last bounded number, and the error
abbrev pub at_end : Dec → ℕ → ℕ → Dec
at_end d x e =
    record {
      storage = d.storage;
      endoffs = d.endoffs;
      window = d.window;
      wbits = d.wbits;
      total = d.total;
      offs = d.offs;
      rng = d.rng;
      val = d.val;
      ext = x;
      rem = d.rem;
      error = e;
    }

-- ---- bytes: 0 past the packet, at the front and at the back

abbrev pub byte_at : List ℕ → ℕ → ℕ
byte_at b i = get_or b i 0

-- the byte that stands last among the first n
abbrev pub last_of : List ℕ → ℕ → ℕ
last_of b zero = 0
last_of b (suc i) = byte_at b i

-- the place after one more byte
abbrev pub after : List ℕ → ℕ → ℕ
after b i = min (suc i) (length b)

-- ---- renormalising (section 4.1.2.1): while the range is at most 2^23, the kept bit and the next byte's seven high

-- bits

abbrev pub sym_of : ℕ → ℕ → ℕ
sym_of held y = (256 * held + y) / 2 % 256

abbrev pub shift_r : List ℕ → Dec → Dec
shift_r b d =
    at_byte (at_range d (256 * d.rng) ((256 * d.val + (255 - sym_of d.rem (byte_at b d.offs))) % 2 ^ 31))
    (byte_at b d.offs) (after b d.offs) (d.total + 8)

abbrev pub norm_r : List ℕ → Dec → Dec
norm_r b d = cond (leb d.rng (2 ^ 23)) (shift_r b d) d

-- three turns settle any range above 0 (`settled_turn`, `settled_done` in ReaderLaws: they are the RFC's loop)
unfoldable pub settled : List ℕ → Dec → Dec
settled b d = norm_r b (norm_r b (norm_r b d))

-- ---- opening (section 4.1.1): range 128, value 127 less the first byte's seven high bits, 9 bits in all

abbrev pub fresh : List ℕ → Dec
fresh b =
    record {
      storage = length b;
      endoffs = 0;
      window = 0;
      wbits = 0;
      total = 9;
      offs = after b 0;
      rng = 128;
      val = 127 - byte_at b 0 / 2;
      ext = 0;
      rem = byte_at b 0;
      error = 0;
    }

unfoldable pub opened : List ℕ → Dec
unfolding settled
opened b = settled b (fresh b)

-- ---- a coded part (section 4.1.2)

-- the part from t down to s is kept: it holds the value
abbrev pub cut_r : Dec → ℕ → ℕ → Dec
cut_r d t s = at_range d (t - s) (d.val - s)

-- a cut leaves at least 256 of the range, so two turns settle it
unfoldable pub cut_down : List ℕ → Dec → ℕ → ℕ → Dec
cut_down b d t s = norm_r b (norm_r b (cut_r d t s))

-- the number that the value stands for, out of ft: ft - min(floor(value / step) + 1, ft)
abbrev pub sought : ℕ → ℕ → ℕ → ℕ
sought rng val ft = ft - min (val / (rng / ft) + 1) ft

-- the coded part that holds the value: a bit is 1 iff value < floor(range / 2^lp)
abbrev pub pick : Model → ℕ → ℕ → ℕ
pick (bit lp) rng val = cond (ltb val (rng / 2 ^ lp)) 1 0
pick (raw n) rng val = 0
pick (num ft) rng val = sought rng val (all (num ft))
pick (tab scale t) rng val = search (rng / 2 ^ scale) val t

abbrev pub picked : Model → Dec → ℕ
picked m d = pick m d.rng d.val

abbrev pub after_code : List ℕ → Model → Dec → Dec
after_code b m d = cut_down b d (upper d.rng (lo m (picked m d)) (all m)) (lower d.rng (hi m (picked m d)) (all m))

-- ---- raw bits (section 4.1.4), from the packet's end, through a window of 32 bits that reads ahead

-- a byte more in the window
abbrev pub fetch : List ℕ → Dec → Dec
fetch b d = at_window d (d.window + last_of b (length b - d.endoffs) * 2 ^ d.wbits) (d.wbits + 8) (after b d.endoffs) d.total

abbrev pub fetches : List ℕ → ℕ → Dec → Dec
fetches b zero d = d
fetches b (suc c) d = fetches b c (fetch b d)

-- fewer than n bits there: filled while a byte fits
abbrev pub fill : List ℕ → ℕ → Dec → Dec
fill b n d = cond (ltb d.wbits n) (fetches b ((32 - d.wbits) / 8) d) d

abbrev pub raw_val : List ℕ → ℕ → Dec → ℕ
raw_val b n d = (fill b n d).window % 2 ^ n

abbrev pub drop_bits : ℕ → Dec → Dec
drop_bits n d = at_window d (d.window / 2 ^ n) (d.wbits - n) d.endoffs (d.total + n)

abbrev pub raw_next : List ℕ → ℕ → Dec → Dec
raw_next b n d = drop_bits n (fill b n d)

-- ---- one read: its value, and the reader after it

abbrev pub whole : List ℕ → Model → Dec → ℕ
whole b m d = joined m (picked m d) (raw_val b (raw_n m) (after_code b m d))

-- a bounded number that exceeds ft - 1 counts as that, and sets the error to 1 (section 4.1.5)
abbrev pub clamped : Model → ℕ → ℕ
clamped (bit lp) y = y
clamped (raw n) y = y
clamped (num ft) y = min y (ft - 1)
clamped (tab scale t) y = y

abbrev pub marked : Model → ℕ → ℕ → ℕ
marked (bit lp) y e = e
marked (raw n) y e = e
marked (num ft) y e = cond (ltb (ft - 1) y) 1 e
marked (tab scale t) y e = e

-- the scratch, which a bounded number alone changes: the step of its cut
abbrev pub scratch : Model → Dec → ℕ
scratch (bit lp) d = d.ext
scratch (raw n) d = d.ext
scratch (num ft) d = d.rng / all (num ft)
scratch (tab scale t) d = d.ext

unfoldable pub read_val : List ℕ → Model → Dec → ℕ
read_val b m d = clamped m (whole b m d)

unfoldable pub read_next : List ℕ → Model → Dec → Dec
read_next b m d = at_end (raw_next b (raw_n m) (after_code b m d)) (scratch m d) (marked m (whole b m d) d.error)

-- ---- what a read asks of a packet and a reader: all of document 01's rules but the total's

abbrev pub Bytes : List ℕ → Type 0
Bytes b = (i : ℕ) → byte_at b i < 256
