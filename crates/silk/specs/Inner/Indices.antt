-- What inner contracts on side indices say: a frame's numbers, the rows that are lent down, and fields that may be written.
-- No public contract says it. Assumes nothing.
use Rattle.std.specs.Prelude.{ℕ, ◌≤◌, ◌+◌, ◌*◌, ◌<◌, ◌-◌, ◌^◌, ◌≡◌, cond, eqb, length, get_or, ℤ, pos, nat_abs}
use mathlib.Core.List.{List, flatten}
use Rattle.icdf.specs.Rule.{Icdf, Writable}
use Rattle.sheet.specs.Rows.{index_rows}
use Rattle.entcode.specs.declared.Dec.{Dec}
use Rattle.entcode.specs.Flat.{Out}
use Rattle.entcode.specs.Inner.Reading.{Core}
use Rattle.entcode.specs.Inner.Writing.{Core as WriterCore}
use Rattle.silk.specs.declared.Indices.{Indices}
use Rattle.silk.specs.declared.Setting.{Setting}
use Rattle.silk.specs.IndexSyntax.{gains, book_of, residuals, lag, contour, filters, period, scale, kind_of}

-- ---- the numbers of a frame

-- 8, 12 or 16 kHz
pub data Rate : ℕ → Type 0 where
  eight : Rate 8
  twelve : Rate 12
  sixteen : Rate 16

-- 2 or 4 subframes
pub data Subframes : ℕ → Type 0 where
  two : Subframes 2
  four : Subframes 4

-- where the rows of a lag's low part and of a contour stand, and how long the latter is
unfoldable pub lag_low_start : ℕ → ℕ
lag_low_start khz = cond (eqb khz 8) 533 (cond (eqb khz 12) 542 548)

unfoldable pub contour_start : ℕ → ℕ → ℕ
contour_start khz subframes = cond (eqb khz 8) (cond (eqb subframes 2) 408 411) (cond (eqb subframes 2) 422 434)

unfoldable pub contour_size : ℕ → ℕ → ℕ
contour_size khz subframes = cond (eqb khz 8) (cond (eqb subframes 2) 3 11) (cond (eqb subframes 2) 12 34)

-- ---- what a reader or a writer of indices is lent

-- a slice that holds the rows
pub record IndexRows (l : List ℕ) : Type 0 where
  pub is : l ≡ flatten index_rows
  pub size : length l ≡ 556

-- a part of it that is the row r, of n entries; each of its symbols has a probability
pub record Row (r : List ℕ) (n : ℕ) (t : List ℕ) : Type 0 where
  pub is : t ≡ r
  pub good : Icdf 8 t
  pub size : length t ≡ n
  pub writable : (v : ℕ) → v < n → Writable 8 t v

-- a reader for the next read, at most n bits on, beside the rows
pub record Reading (b : List ℕ) (d : Dec) (l : List ℕ) (n : ℕ) : Type 0 where
  pub core : Core b d
  pub few : d.total ≤ n
  pub rows : IndexRows l

-- a writer for the next write, at most n bits on, beside the rows
pub record Writing (o : Out) (l : List ℕ) (n : ℕ) : Type 0 where
  pub core : WriterCore o
  pub few : o.state.total ≤ n
  pub rows : IndexRows l

-- ---- numbers and lists

-- 0 to n
pub record Upto (n : ℕ) (z : ℤ) : Type 0 where
  pub least : z ≡ pos (nat_abs z)
  pub most : nat_abs z ≤ n

-- ---- the parts

-- type and offset as one number: 0 and 1 in an inactive frame, 2 to 5 in an active one
pub record Kind (active k : ℕ) : Type 0 where
  pub least : active * 2 ≤ k
  pub most : k < 2 + active * 4

-- the first gain: 0 to 63 by itself, 0 to 40 against the frame before
abbrev pub first_most : ℕ → ℕ
first_most mode = cond (eqb mode 2) 40 63

-- ---- the fields of a part that may be written

pub record WritesGains (mode subframes : ℕ) (x : Indices) : Type 0 where
  pub first : Upto (first_most mode) (get_or x.gains 0 (pos 0))
  pub others : (k : ℕ) → 1 ≤ k → k < subframes → Upto 40 (get_or x.gains k (pos 0))

pub record WritesSpectrum (khz : ℕ) (x : Indices) : Type 0 where
  pub index : Upto 31 (get_or x.nlsf 0 (pos 0))
  pub residuals : (k : ℕ) → 1 ≤ k → k ≤ (book_of khz).order → nat_abs (get_or x.nlsf k (pos 0)) ≤ 10

-- a lag is written absolutely
pub record WritesPitch (s : Setting) (x : Indices) : Type 0 where
  pub lag : Upto (16 * s.khz - 1) x.lag
  pub contour : Upto (contour_size s.khz s.subframes - 1) x.contour
  pub period : Upto 2 x.period
  pub filters : (k : ℕ) → k < s.subframes → Upto (8 * 2 ^ nat_abs x.period - 1) (get_or x.ltp k (pos 0))
  pub scale : Upto 2 x.scale
  pub unscaled : (s.mode ≡ 0 → ⊥) → x.scale ≡ pos 0

pub record WritesKind (active : ℕ) (x : Indices) : Type 0 where
  pub kind : Kind active (kind_of x)
  pub signal : Upto 2 x.signal
  pub offset : Upto 1 x.offset

pub record Writes (s : Setting) (x : Indices) : Type 0 where
  pub kind : WritesKind s.active x
  pub gains : WritesGains s.mode s.subframes x
  pub spectrum : WritesSpectrum s.khz x
  pub interp : Upto 4 x.interp
  pub fixed : s.subframes ≡ 2 → x.interp ≡ pos 4
  pub pitch : x.signal ≡ pos 2 → WritesPitch s x
  pub seed : Upto 3 x.seed
