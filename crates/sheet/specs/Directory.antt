-- The rows by what they are for (RFC 6716, section 4.2). A row is reached by `row_of` alone. Parameters are the
-- document's numbers: kHz 8, 12 or 16, 2 or 4 subframes, signal type 0 to 2 (2 is voiced). Assumes nothing.
use Rattle.std.specs.Prelude.{ℕ, ◌+◌, ◌-◌, ◌*◌, ◌/◌, List, [], get_or}
use Rattle.sheet.specs.Sheet.{Name, flags, type, gain, delta_gain, first_index, residual, extension, interpolation}
use Rattle.sheet.specs.Sheet.{lag, delta_lag, contour, period, filter, scale, even, rate, count, last_count, shell, low_bit, sign}
use Rattle.sheet.specs.Rows.{rows}

unfoldable pub row_of : ℕ → List ℕ
row_of k = get_or rows k []

-- which row of the directory has a name (`NamesFound`)
abbrev pub number_of : Name → ℕ
number_of (flags k) = k
number_of (type active) = 2 + active
number_of (gain signalType) = 4 + signalType
number_of delta_gain = 7
number_of (first_index k) = 8 + k
number_of (residual k) = 12 + k
number_of extension = 28
number_of interpolation = 29
number_of lag = 30
number_of delta_lag = 31
number_of (contour k) = 31 + k
number_of period = 36
number_of (filter k) = 37 + k
number_of scale = 40
number_of (even parts) = 38 + parts - parts / 8
number_of (rate k) = 46 + k
number_of (count level) = 48 + level
number_of last_count = 58
number_of (shell table pulses) = 58 + table * 16 + pulses
number_of low_bit = 123
number_of (sign k) = 124 + k

abbrev pub named : Name → List ℕ
named n = row_of (number_of n)

-- ---- the side indices

-- type and offset, active 0 or 1 (section 4.2.7.3)
abbrev pub type_row : ℕ → List ℕ
type_row active = named (type active)

-- the high part of an independent gain (section 4.2.7.4)
abbrev pub gain_row : ℕ → List ℕ
gain_row signalType = named (gain signalType)

-- a gain against the one before it (section 4.2.7.4)
abbrev pub delta_gain_row : List ℕ
delta_gain_row = named delta_gain

-- first spectrum index (section 4.2.7.5.1)
abbrev pub first_index_row : ℕ → ℕ → List ℕ
first_index_row kHz signalType = named (first_index (kHz / 16 * 2 + signalType / 2))

-- spectrum residuals, row 0 to 7 of the book (section 4.2.7.5.2)
abbrev pub residual_row : ℕ → ℕ → List ℕ
residual_row kHz k = named (residual (kHz / 16 * 8 + k))

-- how far a residual goes beyond its end (section 4.2.7.5.2)
abbrev pub extension_row : List ℕ
extension_row = named extension

-- spectrum interpolation (section 4.2.7.5.5)
abbrev pub interpolation_row : List ℕ
interpolation_row = named interpolation

-- the high part of a lag (section 4.2.7.6.1)
abbrev pub lag_row : List ℕ
lag_row = named lag

-- a lag against the one before it (section 4.2.7.6.1)
abbrev pub delta_lag_row : List ℕ
delta_lag_row = named delta_lag

-- lag contour (section 4.2.7.6.1)
abbrev pub contour_row : ℕ → ℕ → List ℕ
contour_row kHz subframes = named (contour (kHz / 12 * 2 + subframes / 2))

-- which filter row a frame uses (section 4.2.7.6.2)
abbrev pub period_row : List ℕ
period_row = named period

-- filters, by the period 0 to 2 (section 4.2.7.6.2)
abbrev pub filter_row : ℕ → List ℕ
filter_row k = named (filter k)

-- the scale of the filters (section 4.2.7.6.3)
abbrev pub scale_row : List ℕ
scale_row = named scale

-- an even table of 3, 4, 5, 6 or 8 parts; none has 7
abbrev pub even_row : ℕ → List ℕ
even_row parts = named (even parts)

-- the low part of an independent gain (section 4.2.7.4)
abbrev pub gain_low_row : List ℕ
gain_low_row = even_row 8

-- the low part of a lag (section 4.2.7.6.1)
abbrev pub lag_low_row : ℕ → List ℕ
lag_low_row kHz = even_row (kHz / 2)

-- the seed (section 4.2.7.7)
abbrev pub seed_row : List ℕ
seed_row = even_row 4

-- ---- the pulses

-- rate level (section 4.2.7.8.1)
abbrev pub rate_row : ℕ → List ℕ
rate_row signalType = named (rate (signalType / 2))

-- the count of a block, by rate level 0 to 9 (section 4.2.7.8.2)
abbrev pub count_row : ℕ → List ℕ
count_row level = named (count level)

-- the count after ten low bits (section 4.2.7.8.2)
abbrev pub last_count_row : List ℕ
last_count_row = named last_count

-- the split of 1 to 16 pulses: table 0 splits 2 places, 1 splits 4, 2 splits 8, 3 splits 16 (section 4.2.7.8.3)
abbrev pub shell_row : ℕ → ℕ → List ℕ
shell_row table pulses = named (shell table pulses)

-- a low bit (section 4.2.7.8.4)
abbrev pub low_bit_row : List ℕ
low_bit_row = named low_bit

-- a sign, row k of 42: 14 for each signal type, 7 for each offset type, and the lesser of 6 and the count (section
-- 4.2.7.8.5)
abbrev pub sign_row : ℕ → List ℕ
sign_row k = named (sign k)
