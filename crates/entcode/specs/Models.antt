-- Models and symbols. A symbol is one coded part, the piece [fl, fh) of ft of RFC 6716 section 4.1.2, and one raw
-- part (section 4.1.4); a model says which, for every value. Reader and writer use the same models. Assumes nothing.
use Rattle.std.specs.Prelude.{ℕ, zero, suc, ◌+◌, ◌-◌, ◌*◌, ◌/◌, ◌%◌, ◌^◌, ◌≤◌, ◌<◌, List, get_or}
use Rattle.bitlen.specs.Length.{bit_length}
use Rattle.icdf.specs.Rule.{Icdf, Writable}

-- a bit of exponent lp (section 4.1.3.2); n raw bits (4.1.4); a number below ft (4.1.5); a symbol of an inverse table
-- (4.1.3.3)
pub data Model : Type 0 where
  bit : ℕ → Model
  raw : ℕ → Model
  num : ℕ → Model
  tab : ℕ → List ℕ → Model

pub record Sym : Type 0 where
  pub model : Model
  pub value : ℕ

-- how many bits of a number below ft are raw: those of ft - 1 past its first eight (section 4.1.5)
abbrev pub raw_bits : ℕ → ℕ
raw_bits ft = bit_length (ft - 1) - 8

-- ---- the coded part of a value, and its place: fl, fh and ft. Raw bits have the whole of 1, which changes nothing

abbrev pub coded : Model → ℕ → ℕ
coded (bit lp) v = v
coded (raw n) v = 0
coded (num ft) v = v / 2 ^ raw_bits ft
coded (tab scale t) v = v

abbrev pub lo : Model → ℕ → ℕ
lo (bit lp) zero = 0
lo (bit lp) (suc c) = 2 ^ lp - 1
lo (raw n) c = 0
lo (num ft) c = c
lo (tab scale t) zero = 0
lo (tab scale t) (suc k) = 2 ^ scale - get_or t k 0

abbrev pub hi : Model → ℕ → ℕ
hi (bit lp) zero = 2 ^ lp - 1
hi (bit lp) (suc c) = 2 ^ lp
hi (raw n) c = 1
hi (num ft) c = suc c
hi (tab scale t) k = 2 ^ scale - get_or t k 0

abbrev pub all : Model → ℕ
all (bit lp) = 2 ^ lp
all (raw n) = 1
all (num ft) = suc ((ft - 1) / 2 ^ raw_bits ft)
all (tab scale t) = 2 ^ scale

-- ---- the raw part: so many bits, and their number

abbrev pub raw_n : Model → ℕ
raw_n (bit lp) = 0
raw_n (raw n) = n
raw_n (num ft) = raw_bits ft
raw_n (tab scale t) = 0

abbrev pub raw_v : Model → ℕ → ℕ
raw_v (bit lp) v = 0
raw_v (raw n) v = v
raw_v (num ft) v = v % 2 ^ raw_bits ft
raw_v (tab scale t) v = 0

-- the value of a coded and a raw part
abbrev pub joined : Model → ℕ → ℕ → ℕ
joined (bit lp) c x = c
joined (raw n) c x = x
joined (num ft) c x = c * 2 ^ raw_bits ft + x
joined (tab scale t) c x = c

-- ---- what document 01 lets a caller ask for, and write

abbrev pub Readable : Model → Type 0
Readable (bit lp) = (1 ≤ lp) × (lp ≤ 15)
Readable (raw n) = (1 ≤ n) × (n ≤ 25)
Readable (num ft) = (2 ≤ ft) × (ft < 2 ^ 32)
Readable (tab scale t) = Icdf scale t

abbrev pub Fitting : Model → ℕ → Type 0
Fitting (bit lp) v = v ≤ 1
Fitting (raw n) v = v < 2 ^ n
Fitting (num ft) v = v < ft
Fitting (tab scale t) v = Writable scale t v

pub record Allowed (m : Model) (v : ℕ) : Type 0 where
  pub readable : Readable m
  pub fitting : Fitting m v
