-- What inner reads ask of a packet and a reader, and what they promise; no public contract says it. Assumes nothing.
use Rattle.std.specs.Prelude.{ℕ, ◌+◌, ◌≤◌, ◌^◌, ◌<◌, zero, suc, ◌*◌, ◌≡◌, List, length, get_or}
use Rattle.entcode.specs.declared.Dec.{Dec}
use Rattle.entcode.specs.declared.Decoded.{Decoded}
use Rattle.entcode.specs.Models.{Model, bit, raw, num, tab, raw_bits}
use Rattle.entcode.specs.Reader.{read_val, read_next}
use Rattle.entcode.specs.Reading.{gives}

-- a part of the range R of at least 256
pub record CutOk (R t s : ℕ) : Type 0 where
  pub some : s + 256 ≤ t
  pub inside : t ≤ R

-- ---- what a read asks of a packet and a reader: all of document 01's rules but the total's

pub record Core (b : List ℕ) (d : Dec) : Type 0 where
  pub short : length b ≤ 1275
  pub above : 2 ^ 23 < d.rng
  pub most : d.rng ≤ 2 ^ 31
  pub inside : d.val < d.rng
  pub kept : d.storage ≡ length b
  pub place : d.offs ≤ length b
  pub back : d.endoffs ≤ length b
  pub held : d.rem ≤ 255
  pub flag : d.error ≤ 1
  pub used : d.wbits ≤ 32
  pub slim : d.window < 2 ^ d.wbits

-- ---- the symbol k of a model, with the ends t and s of its part

-- the part holds the value, and leaves enough of the range
pub record Holding (d : Dec) (t s : ℕ) : Type 0 where
  pub cut : CutOk d.rng t s
  pub low : s ≤ d.val
  pub high : d.val < t

-- the upper end of symbol k of a table: the range itself for the first
abbrev pub top_of : ℕ → ℕ → List ℕ → ℕ → ℕ
top_of rng unit t zero = rng
top_of rng unit t (suc k) = unit * get_or t k 0

-- ---- what an inner read promises: the definition's value and state, a reader for the next read, and how far the

-- total grew

abbrev pub growth : Model → ℕ
growth (bit lp) = 16
growth (raw n) = n
growth (num ft) = 16 + raw_bits ft
growth (tab scale t) = 16

-- a value that a read may give
abbrev pub Inside : Model → ℕ → Type 0
Inside (bit lp) v = v ≤ 1
Inside (raw n) v = v < 2 ^ n
Inside (num ft) v = v < ft
Inside (tab scale t) v = v < length t

pub record Took (b : List ℕ) (m : Model) (d : Dec) (a : Decoded) : Type 0 where
  pub is : a ≡ gives (read_val b m d) (read_next b m d)
  pub inside : Inside m a.value
  pub core : Core b a.state
  pub least : d.total ≤ a.state.total
  pub most : a.state.total ≤ d.total + growth m
