-- The probabilities, out of 256, of every row's symbols (RFC 6716, section 4.2), in the directory's order. Those of 23 rows
-- (flags, type, gain, deltaGain, extension, interpolation, lag, deltaLag, contour 1 to 3, period, scale, even 4, 6 and 8,
-- rate, lowBit) are as our summary of the document prints them, those of the others worked out from the entries.
-- docs/TABLES.md has each above its row. Assumes nothing.
use Rattle.std.specs.Prelude.{ℕ, zero, suc, ◌+◌, ◌-◌, List, [], ◌∷◌, ◌++◌}

-- ---- the header of an Opus frame

-- redundancy flags of 2 and of 3 frames (section 4.2.4); the first symbol is 1
unfoldable pub flag_chances : List (List ℕ)
flag_chances =
    (0 ∷ 53 ∷ 53 ∷ 150 ∷ []) ∷
    (0 ∷ 41 ∷ 20 ∷ 29 ∷ 41 ∷ 15 ∷ 28 ∷ 82 ∷ []) ∷
    []

-- ---- the side indices of a frame

-- type and offset: inactive, active (section 4.2.7.3); the first active symbol is 2
unfoldable pub type_chances : List (List ℕ)
type_chances =
    (26 ∷ 230 ∷ []) ∷
    (0 ∷ 0 ∷ 24 ∷ 74 ∷ 148 ∷ 10 ∷ []) ∷
    []

-- the high part of an independent gain, by signal type (section 4.2.7.4)
unfoldable pub gain_chances : List (List ℕ)
gain_chances =
    (32 ∷ 112 ∷ 68 ∷ 29 ∷ 12 ∷ 1 ∷ 1 ∷ 1 ∷ []) ∷
    (2 ∷ 17 ∷ 45 ∷ 60 ∷ 62 ∷ 47 ∷ 19 ∷ 4 ∷ []) ∷
    (1 ∷ 3 ∷ 26 ∷ 71 ∷ 94 ∷ 50 ∷ 9 ∷ 2 ∷ []) ∷
    []

-- a gain against the one before it (section 4.2.7.4)
unfoldable pub delta_gain_chances : List (List ℕ)
delta_gain_chances =
    (6 ∷ 5 ∷ 11 ∷ 31 ∷ 132 ∷ 21 ∷ 8 ∷ 4 ∷ 3 ∷ 2 ∷ 2 ∷ 2 ∷ 1 ∷ 1 ∷ 1 ∷ 1 ∷ 1 ∷ 1 ∷ 1 ∷ 1 ∷ 1 ∷ 1 ∷ 1 ∷ 1 ∷ 1 ∷
    1 ∷ 1 ∷ 1 ∷ 1 ∷ 1 ∷ 1 ∷ 1 ∷ 1 ∷ 1 ∷ 1 ∷ 1 ∷ 1 ∷ 1 ∷ 1 ∷ 1 ∷ 1 ∷ []) ∷
    []

-- first spectrum index, 8 and 12 kHz: not voiced, voiced (section 4.2.7.5.1)
unfoldable pub narrow_first_chances : List (List ℕ)
narrow_first_chances =
    (44 ∷ 34 ∷ 30 ∷ 19 ∷ 21 ∷ 12 ∷ 11 ∷ 3 ∷ 3 ∷ 2 ∷ 16 ∷ 2 ∷ 2 ∷ 1 ∷ 5 ∷ 2 ∷ 1 ∷ 3 ∷ 3 ∷ 1 ∷ 1 ∷ 2 ∷ 2 ∷ 2 ∷ 3 ∷
    1 ∷ 9 ∷ 9 ∷ 2 ∷ 7 ∷ 2 ∷ 1 ∷ []) ∷
    (1 ∷ 10 ∷ 1 ∷ 8 ∷ 3 ∷ 8 ∷ 8 ∷ 14 ∷ 13 ∷ 14 ∷ 1 ∷ 14 ∷ 12 ∷ 13 ∷ 11 ∷ 11 ∷ 12 ∷ 11 ∷ 10 ∷ 10 ∷ 11 ∷ 8 ∷ 9 ∷
    8 ∷ 7 ∷ 8 ∷ 1 ∷ 1 ∷ 6 ∷ 1 ∷ 6 ∷ 5 ∷ []) ∷
    []

-- first spectrum index, 16 kHz: not voiced, voiced (section 4.2.7.5.1)
unfoldable pub wide_first_chances : List (List ℕ)
wide_first_chances =
    (31 ∷ 21 ∷ 3 ∷ 17 ∷ 1 ∷ 8 ∷ 17 ∷ 4 ∷ 1 ∷ 18 ∷ 16 ∷ 4 ∷ 2 ∷ 3 ∷ 1 ∷ 10 ∷ 1 ∷ 3 ∷ 16 ∷ 11 ∷ 16 ∷ 2 ∷ 2 ∷ 3 ∷
    2 ∷ 11 ∷ 1 ∷ 4 ∷ 9 ∷ 8 ∷ 7 ∷ 3 ∷ []) ∷
    (1 ∷ 4 ∷ 16 ∷ 5 ∷ 18 ∷ 11 ∷ 5 ∷ 14 ∷ 15 ∷ 1 ∷ 3 ∷ 12 ∷ 13 ∷ 14 ∷ 14 ∷ 6 ∷ 14 ∷ 12 ∷ 2 ∷ 6 ∷ 1 ∷ 12 ∷ 12 ∷
    11 ∷ 10 ∷ 3 ∷ 10 ∷ 5 ∷ 1 ∷ 1 ∷ 1 ∷ 3 ∷ []) ∷
    []

-- spectrum residuals, 8 and 12 kHz, by the selectors (section 4.2.7.5.2)
unfoldable pub narrow_residual_chances : List (List ℕ)
narrow_residual_chances =
    (1 ∷ 1 ∷ 1 ∷ 15 ∷ 224 ∷ 11 ∷ 1 ∷ 1 ∷ 1 ∷ []) ∷
    (1 ∷ 1 ∷ 2 ∷ 34 ∷ 183 ∷ 32 ∷ 1 ∷ 1 ∷ 1 ∷ []) ∷
    (1 ∷ 1 ∷ 4 ∷ 42 ∷ 149 ∷ 55 ∷ 2 ∷ 1 ∷ 1 ∷ []) ∷
    (1 ∷ 1 ∷ 8 ∷ 52 ∷ 123 ∷ 61 ∷ 8 ∷ 1 ∷ 1 ∷ []) ∷
    (1 ∷ 3 ∷ 16 ∷ 53 ∷ 101 ∷ 74 ∷ 6 ∷ 1 ∷ 1 ∷ []) ∷
    (1 ∷ 3 ∷ 17 ∷ 55 ∷ 90 ∷ 73 ∷ 15 ∷ 1 ∷ 1 ∷ []) ∷
    (1 ∷ 7 ∷ 24 ∷ 53 ∷ 74 ∷ 67 ∷ 26 ∷ 3 ∷ 1 ∷ []) ∷
    (1 ∷ 1 ∷ 18 ∷ 63 ∷ 78 ∷ 58 ∷ 30 ∷ 6 ∷ 1 ∷ []) ∷
    []

-- spectrum residuals, 16 kHz, by the selectors (section 4.2.7.5.2)
unfoldable pub wide_residual_chances : List (List ℕ)
wide_residual_chances =
    (1 ∷ 1 ∷ 1 ∷ 9 ∷ 232 ∷ 9 ∷ 1 ∷ 1 ∷ 1 ∷ []) ∷
    (1 ∷ 1 ∷ 2 ∷ 28 ∷ 186 ∷ 35 ∷ 1 ∷ 1 ∷ 1 ∷ []) ∷
    (1 ∷ 1 ∷ 3 ∷ 42 ∷ 152 ∷ 53 ∷ 2 ∷ 1 ∷ 1 ∷ []) ∷
    (1 ∷ 1 ∷ 10 ∷ 49 ∷ 126 ∷ 65 ∷ 2 ∷ 1 ∷ 1 ∷ []) ∷
    (1 ∷ 4 ∷ 19 ∷ 48 ∷ 100 ∷ 77 ∷ 5 ∷ 1 ∷ 1 ∷ []) ∷
    (1 ∷ 1 ∷ 14 ∷ 54 ∷ 100 ∷ 72 ∷ 12 ∷ 1 ∷ 1 ∷ []) ∷
    (1 ∷ 1 ∷ 15 ∷ 61 ∷ 87 ∷ 61 ∷ 25 ∷ 4 ∷ 1 ∷ []) ∷
    (1 ∷ 7 ∷ 21 ∷ 50 ∷ 77 ∷ 81 ∷ 17 ∷ 1 ∷ 1 ∷ []) ∷
    []

-- how far a residual goes beyond its end (section 4.2.7.5.2)
unfoldable pub extension_chances : List (List ℕ)
extension_chances =
    (156 ∷ 60 ∷ 24 ∷ 9 ∷ 4 ∷ 2 ∷ 1 ∷ []) ∷
    []

-- spectrum interpolation (section 4.2.7.5.5)
unfoldable pub interpolation_chances : List (List ℕ)
interpolation_chances =
    (13 ∷ 22 ∷ 29 ∷ 11 ∷ 181 ∷ []) ∷
    []

-- the high part of a lag, and a lag against the one before it (section 4.2.7.6.1)
unfoldable pub lag_chances : List (List ℕ)
lag_chances =
    (3 ∷ 3 ∷ 6 ∷ 11 ∷ 21 ∷ 30 ∷ 32 ∷ 19 ∷ 11 ∷ 10 ∷ 12 ∷ 13 ∷ 13 ∷ 12 ∷ 11 ∷ 9 ∷ 8 ∷ 7 ∷ 6 ∷ 4 ∷ 2 ∷ 2 ∷ 2 ∷ 1 ∷
    1 ∷ 1 ∷ 1 ∷ 1 ∷ 1 ∷ 1 ∷ 1 ∷ 1 ∷ []) ∷
    (46 ∷ 2 ∷ 2 ∷ 3 ∷ 4 ∷ 6 ∷ 10 ∷ 15 ∷ 26 ∷ 38 ∷ 30 ∷ 22 ∷ 15 ∷ 10 ∷ 7 ∷ 6 ∷ 4 ∷ 4 ∷ 2 ∷ 2 ∷ 2 ∷ []) ∷
    []

-- lag contours: 8 kHz with 2 and 4 subframes, else with 2 and 4 (section 4.2.7.6.1)
unfoldable pub contour_chances : List (List ℕ)
contour_chances =
    (143 ∷ 50 ∷ 63 ∷ []) ∷
    (68 ∷ 12 ∷ 21 ∷ 17 ∷ 19 ∷ 22 ∷ 30 ∷ 24 ∷ 17 ∷ 16 ∷ 10 ∷ []) ∷
    (91 ∷ 46 ∷ 39 ∷ 19 ∷ 14 ∷ 12 ∷ 8 ∷ 7 ∷ 6 ∷ 5 ∷ 5 ∷ 4 ∷ []) ∷
    (33 ∷ 22 ∷ 18 ∷ 16 ∷ 15 ∷ 14 ∷ 14 ∷ 13 ∷ 13 ∷ 10 ∷ 9 ∷ 9 ∷ 8 ∷ 6 ∷ 6 ∷ 6 ∷ 5 ∷ 4 ∷ 4 ∷ 4 ∷ 3 ∷ 3 ∷ 3 ∷ 2 ∷
    2 ∷ 2 ∷ 2 ∷ 2 ∷ 2 ∷ 2 ∷ 1 ∷ 1 ∷ 1 ∷ 1 ∷ []) ∷
    []

-- which of the filter rows a frame uses (section 4.2.7.6.2)
unfoldable pub period_chances : List (List ℕ)
period_chances =
    (77 ∷ 80 ∷ 99 ∷ []) ∷
    []

-- filters, by the row that the frame uses (section 4.2.7.6.2)
unfoldable pub filter_chances : List (List ℕ)
filter_chances =
    (185 ∷ 15 ∷ 13 ∷ 13 ∷ 9 ∷ 9 ∷ 6 ∷ 6 ∷ []) ∷
    (57 ∷ 34 ∷ 21 ∷ 20 ∷ 15 ∷ 13 ∷ 12 ∷ 13 ∷ 10 ∷ 10 ∷ 9 ∷ 10 ∷ 9 ∷ 8 ∷ 7 ∷ 8 ∷ []) ∷
    (15 ∷ 16 ∷ 14 ∷ 12 ∷ 12 ∷ 12 ∷ 11 ∷ 11 ∷ 11 ∷ 10 ∷ 9 ∷ 9 ∷ 9 ∷ 9 ∷ 8 ∷ 8 ∷ 8 ∷ 8 ∷ 7 ∷ 7 ∷ 6 ∷ 6 ∷ 5 ∷ 4 ∷
    5 ∷ 4 ∷ 4 ∷ 4 ∷ 3 ∷ 4 ∷ 3 ∷ 2 ∷ []) ∷
    []

-- the scale of the filters (section 4.2.7.6.3)
unfoldable pub scale_chances : List (List ℕ)
scale_chances =
    (128 ∷ 64 ∷ 64 ∷ []) ∷
    []

-- even tables of 3, 4, 5, 6 and 8 parts: low gain bits (section 4.2.7.4), low parts of a lag (4.2.7.6.1), seed
-- (4.2.7.7)
unfoldable pub even_chances : List (List ℕ)
even_chances =
    (85 ∷ 86 ∷ 85 ∷ []) ∷
    (64 ∷ 64 ∷ 64 ∷ 64 ∷ []) ∷
    (51 ∷ 51 ∷ 52 ∷ 51 ∷ 51 ∷ []) ∷
    (43 ∷ 42 ∷ 43 ∷ 43 ∷ 42 ∷ 43 ∷ []) ∷
    (32 ∷ 32 ∷ 32 ∷ 32 ∷ 32 ∷ 32 ∷ 32 ∷ 32 ∷ []) ∷
    []

-- ---- the pulses of a frame

-- rate levels: not voiced, voiced (section 4.2.7.8.1)
unfoldable pub rate_chances : List (List ℕ)
rate_chances =
    (15 ∷ 51 ∷ 12 ∷ 46 ∷ 45 ∷ 13 ∷ 33 ∷ 27 ∷ 14 ∷ []) ∷
    (33 ∷ 30 ∷ 36 ∷ 17 ∷ 34 ∷ 49 ∷ 18 ∷ 21 ∷ 18 ∷ []) ∷
    []

-- the count of a block, by rate level; row 9 serves after a low bit (section 4.2.7.8.2)
unfoldable pub count_chances : List (List ℕ)
count_chances =
    (131 ∷ 74 ∷ 25 ∷ 8 ∷ 3 ∷ 3 ∷ 1 ∷ 1 ∷ 1 ∷ 1 ∷ 1 ∷ 1 ∷ 1 ∷ 1 ∷ 1 ∷ 1 ∷ 1 ∷ 1 ∷ []) ∷
    (58 ∷ 93 ∷ 60 ∷ 23 ∷ 7 ∷ 3 ∷ 1 ∷ 1 ∷ 1 ∷ 1 ∷ 1 ∷ 1 ∷ 1 ∷ 1 ∷ 1 ∷ 1 ∷ 1 ∷ 1 ∷ []) ∷
    (43 ∷ 51 ∷ 46 ∷ 33 ∷ 24 ∷ 16 ∷ 11 ∷ 8 ∷ 6 ∷ 3 ∷ 3 ∷ 3 ∷ 2 ∷ 1 ∷ 1 ∷ 2 ∷ 1 ∷ 2 ∷ []) ∷
    (17 ∷ 52 ∷ 71 ∷ 57 ∷ 31 ∷ 12 ∷ 5 ∷ 1 ∷ 1 ∷ 1 ∷ 1 ∷ 1 ∷ 1 ∷ 1 ∷ 1 ∷ 1 ∷ 1 ∷ 1 ∷ []) ∷
    (6 ∷ 21 ∷ 41 ∷ 53 ∷ 49 ∷ 35 ∷ 21 ∷ 11 ∷ 6 ∷ 3 ∷ 2 ∷ 2 ∷ 1 ∷ 1 ∷ 1 ∷ 1 ∷ 1 ∷ 1 ∷ []) ∷
    (7 ∷ 14 ∷ 22 ∷ 28 ∷ 29 ∷ 28 ∷ 25 ∷ 20 ∷ 17 ∷ 13 ∷ 11 ∷ 9 ∷ 7 ∷ 5 ∷ 4 ∷ 4 ∷ 3 ∷ 10 ∷ []) ∷
    (2 ∷ 5 ∷ 14 ∷ 29 ∷ 42 ∷ 46 ∷ 41 ∷ 31 ∷ 19 ∷ 11 ∷ 6 ∷ 3 ∷ 2 ∷ 1 ∷ 1 ∷ 1 ∷ 1 ∷ 1 ∷ []) ∷
    (1 ∷ 2 ∷ 4 ∷ 10 ∷ 19 ∷ 29 ∷ 35 ∷ 37 ∷ 34 ∷ 28 ∷ 20 ∷ 14 ∷ 8 ∷ 5 ∷ 4 ∷ 2 ∷ 2 ∷ 2 ∷ []) ∷
    (1 ∷ 2 ∷ 2 ∷ 5 ∷ 9 ∷ 14 ∷ 20 ∷ 24 ∷ 27 ∷ 28 ∷ 26 ∷ 23 ∷ 20 ∷ 15 ∷ 11 ∷ 8 ∷ 6 ∷ 15 ∷ []) ∷
    (1 ∷ 1 ∷ 1 ∷ 6 ∷ 27 ∷ 58 ∷ 56 ∷ 39 ∷ 25 ∷ 14 ∷ 10 ∷ 6 ∷ 3 ∷ 3 ∷ 2 ∷ 1 ∷ 1 ∷ 2 ∷ []) ∷
    []

-- the last count row without its first entry, for a count after ten low bits (section 4.2.7.8.2)
unfoldable pub last_count_chances : List (List ℕ)
last_count_chances =
    (2 ∷ 1 ∷ 6 ∷ 27 ∷ 58 ∷ 56 ∷ 39 ∷ 25 ∷ 14 ∷ 10 ∷ 6 ∷ 3 ∷ 3 ∷ 2 ∷ 1 ∷ 1 ∷ 2 ∷ []) ∷
    []

-- splits of 2 places, by their count from 1 to 16 (section 4.2.7.8.3)
unfoldable pub shell_chances0 : List (List ℕ)
shell_chances0 =
    (128 ∷ 128 ∷ []) ∷
    (42 ∷ 172 ∷ 42 ∷ []) ∷
    (21 ∷ 107 ∷ 107 ∷ 21 ∷ []) ∷
    (12 ∷ 60 ∷ 112 ∷ 61 ∷ 11 ∷ []) ∷
    (8 ∷ 34 ∷ 86 ∷ 86 ∷ 35 ∷ 7 ∷ []) ∷
    (8 ∷ 23 ∷ 55 ∷ 90 ∷ 55 ∷ 20 ∷ 5 ∷ []) ∷
    (5 ∷ 15 ∷ 38 ∷ 72 ∷ 72 ∷ 36 ∷ 15 ∷ 3 ∷ []) ∷
    (6 ∷ 12 ∷ 27 ∷ 52 ∷ 77 ∷ 47 ∷ 20 ∷ 10 ∷ 5 ∷ []) ∷
    (6 ∷ 19 ∷ 28 ∷ 35 ∷ 40 ∷ 40 ∷ 35 ∷ 28 ∷ 19 ∷ 6 ∷ []) ∷
    (4 ∷ 14 ∷ 22 ∷ 31 ∷ 37 ∷ 40 ∷ 37 ∷ 31 ∷ 22 ∷ 14 ∷ 4 ∷ []) ∷
    (3 ∷ 10 ∷ 18 ∷ 26 ∷ 33 ∷ 38 ∷ 38 ∷ 33 ∷ 26 ∷ 18 ∷ 10 ∷ 3 ∷ []) ∷
    (2 ∷ 8 ∷ 13 ∷ 21 ∷ 29 ∷ 36 ∷ 38 ∷ 36 ∷ 29 ∷ 21 ∷ 13 ∷ 8 ∷ 2 ∷ []) ∷
    (1 ∷ 5 ∷ 10 ∷ 17 ∷ 25 ∷ 32 ∷ 38 ∷ 38 ∷ 32 ∷ 25 ∷ 17 ∷ 10 ∷ 5 ∷ 1 ∷ []) ∷
    (1 ∷ 4 ∷ 7 ∷ 13 ∷ 21 ∷ 29 ∷ 35 ∷ 36 ∷ 35 ∷ 29 ∷ 21 ∷ 13 ∷ 7 ∷ 4 ∷ 1 ∷ []) ∷
    (1 ∷ 2 ∷ 5 ∷ 10 ∷ 17 ∷ 25 ∷ 32 ∷ 36 ∷ 36 ∷ 32 ∷ 25 ∷ 17 ∷ 10 ∷ 5 ∷ 2 ∷ 1 ∷ []) ∷
    (1 ∷ 2 ∷ 4 ∷ 7 ∷ 13 ∷ 21 ∷ 28 ∷ 34 ∷ 36 ∷ 34 ∷ 28 ∷ 21 ∷ 13 ∷ 7 ∷ 4 ∷ 2 ∷ 1 ∷ []) ∷
    []

-- splits of 4 places, by their count from 1 to 16 (section 4.2.7.8.3)
unfoldable pub shell_chances1 : List (List ℕ)
shell_chances1 =
    (127 ∷ 129 ∷ []) ∷
    (49 ∷ 157 ∷ 50 ∷ []) ∷
    (20 ∷ 107 ∷ 109 ∷ 20 ∷ []) ∷
    (11 ∷ 60 ∷ 113 ∷ 62 ∷ 10 ∷ []) ∷
    (7 ∷ 36 ∷ 84 ∷ 87 ∷ 36 ∷ 6 ∷ []) ∷
    (6 ∷ 24 ∷ 57 ∷ 82 ∷ 60 ∷ 23 ∷ 4 ∷ []) ∷
    (5 ∷ 18 ∷ 39 ∷ 64 ∷ 68 ∷ 42 ∷ 16 ∷ 4 ∷ []) ∷
    (6 ∷ 14 ∷ 29 ∷ 47 ∷ 61 ∷ 52 ∷ 30 ∷ 14 ∷ 3 ∷ []) ∷
    (1 ∷ 15 ∷ 23 ∷ 35 ∷ 51 ∷ 50 ∷ 40 ∷ 30 ∷ 10 ∷ 1 ∷ []) ∷
    (1 ∷ 1 ∷ 21 ∷ 32 ∷ 42 ∷ 52 ∷ 46 ∷ 41 ∷ 18 ∷ 1 ∷ 1 ∷ []) ∷
    (1 ∷ 6 ∷ 16 ∷ 27 ∷ 36 ∷ 42 ∷ 42 ∷ 36 ∷ 27 ∷ 16 ∷ 6 ∷ 1 ∷ []) ∷
    (1 ∷ 5 ∷ 12 ∷ 21 ∷ 31 ∷ 38 ∷ 40 ∷ 38 ∷ 31 ∷ 21 ∷ 12 ∷ 5 ∷ 1 ∷ []) ∷
    (1 ∷ 3 ∷ 9 ∷ 17 ∷ 26 ∷ 34 ∷ 38 ∷ 38 ∷ 34 ∷ 26 ∷ 17 ∷ 9 ∷ 3 ∷ 1 ∷ []) ∷
    (1 ∷ 3 ∷ 7 ∷ 14 ∷ 22 ∷ 29 ∷ 34 ∷ 36 ∷ 34 ∷ 29 ∷ 22 ∷ 14 ∷ 7 ∷ 3 ∷ 1 ∷ []) ∷
    (1 ∷ 2 ∷ 5 ∷ 11 ∷ 18 ∷ 25 ∷ 31 ∷ 35 ∷ 35 ∷ 31 ∷ 25 ∷ 18 ∷ 11 ∷ 5 ∷ 2 ∷ 1 ∷ []) ∷
    (1 ∷ 1 ∷ 4 ∷ 9 ∷ 15 ∷ 21 ∷ 28 ∷ 32 ∷ 34 ∷ 32 ∷ 28 ∷ 21 ∷ 15 ∷ 9 ∷ 4 ∷ 1 ∷ 1 ∷ []) ∷
    []

-- splits of 8 places, by their count from 1 to 16 (section 4.2.7.8.3)
unfoldable pub shell_chances2 : List (List ℕ)
shell_chances2 =
    (127 ∷ 129 ∷ []) ∷
    (53 ∷ 149 ∷ 54 ∷ []) ∷
    (22 ∷ 105 ∷ 106 ∷ 23 ∷ []) ∷
    (11 ∷ 61 ∷ 111 ∷ 63 ∷ 10 ∷ []) ∷
    (6 ∷ 35 ∷ 86 ∷ 88 ∷ 36 ∷ 5 ∷ []) ∷
    (4 ∷ 20 ∷ 59 ∷ 87 ∷ 62 ∷ 21 ∷ 3 ∷ []) ∷
    (3 ∷ 13 ∷ 40 ∷ 71 ∷ 73 ∷ 41 ∷ 13 ∷ 2 ∷ []) ∷
    (3 ∷ 9 ∷ 27 ∷ 53 ∷ 70 ∷ 56 ∷ 28 ∷ 9 ∷ 1 ∷ []) ∷
    (3 ∷ 8 ∷ 19 ∷ 37 ∷ 57 ∷ 61 ∷ 44 ∷ 20 ∷ 6 ∷ 1 ∷ []) ∷
    (3 ∷ 7 ∷ 15 ∷ 28 ∷ 44 ∷ 54 ∷ 49 ∷ 33 ∷ 17 ∷ 5 ∷ 1 ∷ []) ∷
    (1 ∷ 7 ∷ 13 ∷ 22 ∷ 34 ∷ 46 ∷ 48 ∷ 38 ∷ 28 ∷ 14 ∷ 4 ∷ 1 ∷ []) ∷
    (1 ∷ 1 ∷ 11 ∷ 22 ∷ 27 ∷ 35 ∷ 42 ∷ 47 ∷ 33 ∷ 25 ∷ 10 ∷ 1 ∷ 1 ∷ []) ∷
    (1 ∷ 1 ∷ 6 ∷ 14 ∷ 26 ∷ 37 ∷ 43 ∷ 43 ∷ 37 ∷ 26 ∷ 14 ∷ 6 ∷ 1 ∷ 1 ∷ []) ∷
    (1 ∷ 1 ∷ 4 ∷ 10 ∷ 20 ∷ 31 ∷ 40 ∷ 42 ∷ 40 ∷ 31 ∷ 20 ∷ 10 ∷ 4 ∷ 1 ∷ 1 ∷ []) ∷
    (1 ∷ 1 ∷ 3 ∷ 8 ∷ 16 ∷ 26 ∷ 35 ∷ 38 ∷ 38 ∷ 35 ∷ 26 ∷ 16 ∷ 8 ∷ 3 ∷ 1 ∷ 1 ∷ []) ∷
    (1 ∷ 1 ∷ 2 ∷ 6 ∷ 12 ∷ 21 ∷ 30 ∷ 36 ∷ 38 ∷ 36 ∷ 30 ∷ 21 ∷ 12 ∷ 6 ∷ 2 ∷ 1 ∷ 1 ∷ []) ∷
    []

-- splits of 16 places, by their count from 1 to 16 (section 4.2.7.8.3)
unfoldable pub shell_chances3 : List (List ℕ)
shell_chances3 =
    (126 ∷ 130 ∷ []) ∷
    (56 ∷ 142 ∷ 58 ∷ []) ∷
    (25 ∷ 101 ∷ 104 ∷ 26 ∷ []) ∷
    (12 ∷ 60 ∷ 108 ∷ 64 ∷ 12 ∷ []) ∷
    (7 ∷ 35 ∷ 84 ∷ 87 ∷ 37 ∷ 6 ∷ []) ∷
    (4 ∷ 20 ∷ 59 ∷ 86 ∷ 63 ∷ 21 ∷ 3 ∷ []) ∷
    (3 ∷ 12 ∷ 38 ∷ 72 ∷ 75 ∷ 42 ∷ 12 ∷ 2 ∷ []) ∷
    (2 ∷ 8 ∷ 25 ∷ 54 ∷ 73 ∷ 59 ∷ 27 ∷ 7 ∷ 1 ∷ []) ∷
    (2 ∷ 5 ∷ 17 ∷ 39 ∷ 63 ∷ 65 ∷ 42 ∷ 18 ∷ 4 ∷ 1 ∷ []) ∷
    (1 ∷ 4 ∷ 12 ∷ 28 ∷ 49 ∷ 63 ∷ 54 ∷ 30 ∷ 11 ∷ 3 ∷ 1 ∷ []) ∷
    (1 ∷ 4 ∷ 8 ∷ 20 ∷ 37 ∷ 55 ∷ 57 ∷ 41 ∷ 22 ∷ 8 ∷ 2 ∷ 1 ∷ []) ∷
    (1 ∷ 3 ∷ 7 ∷ 15 ∷ 28 ∷ 44 ∷ 53 ∷ 48 ∷ 33 ∷ 16 ∷ 6 ∷ 1 ∷ 1 ∷ []) ∷
    (1 ∷ 2 ∷ 6 ∷ 12 ∷ 21 ∷ 35 ∷ 47 ∷ 48 ∷ 40 ∷ 25 ∷ 12 ∷ 5 ∷ 1 ∷ 1 ∷ []) ∷
    (1 ∷ 1 ∷ 4 ∷ 10 ∷ 17 ∷ 27 ∷ 37 ∷ 47 ∷ 43 ∷ 33 ∷ 21 ∷ 9 ∷ 4 ∷ 1 ∷ 1 ∷ []) ∷
    (1 ∷ 1 ∷ 1 ∷ 8 ∷ 14 ∷ 22 ∷ 33 ∷ 40 ∷ 43 ∷ 38 ∷ 28 ∷ 16 ∷ 8 ∷ 1 ∷ 1 ∷ 1 ∷ []) ∷
    (1 ∷ 1 ∷ 1 ∷ 1 ∷ 13 ∷ 18 ∷ 27 ∷ 36 ∷ 41 ∷ 41 ∷ 34 ∷ 24 ∷ 14 ∷ 1 ∷ 1 ∷ 1 ∷ 1 ∷ []) ∷
    []

-- low bits (section 4.2.7.8.4)
unfoldable pub low_bit_chances : List (List ℕ)
low_bit_chances =
    (136 ∷ 120 ∷ []) ∷
    []

-- signs, by signal type, offset type and count (section 4.2.7.8.5)
unfoldable pub sign_chances : List (List ℕ)
sign_chances =
    (2 ∷ 254 ∷ []) ∷
    (207 ∷ 49 ∷ []) ∷
    (189 ∷ 67 ∷ []) ∷
    (179 ∷ 77 ∷ []) ∷
    (174 ∷ 82 ∷ []) ∷
    (163 ∷ 93 ∷ []) ∷
    (157 ∷ 99 ∷ []) ∷
    (58 ∷ 198 ∷ []) ∷
    (245 ∷ 11 ∷ []) ∷
    (238 ∷ 18 ∷ []) ∷
    (232 ∷ 24 ∷ []) ∷
    (225 ∷ 31 ∷ []) ∷
    (220 ∷ 36 ∷ []) ∷
    (211 ∷ 45 ∷ []) ∷
    (1 ∷ 255 ∷ []) ∷
    (210 ∷ 46 ∷ []) ∷
    (190 ∷ 66 ∷ []) ∷
    (178 ∷ 78 ∷ []) ∷
    (169 ∷ 87 ∷ []) ∷
    (162 ∷ 94 ∷ []) ∷
    (152 ∷ 104 ∷ []) ∷
    (48 ∷ 208 ∷ []) ∷
    (242 ∷ 14 ∷ []) ∷
    (235 ∷ 21 ∷ []) ∷
    (224 ∷ 32 ∷ []) ∷
    (214 ∷ 42 ∷ []) ∷
    (205 ∷ 51 ∷ []) ∷
    (190 ∷ 66 ∷ []) ∷
    (1 ∷ 255 ∷ []) ∷
    (162 ∷ 94 ∷ []) ∷
    (152 ∷ 104 ∷ []) ∷
    (147 ∷ 109 ∷ []) ∷
    (144 ∷ 112 ∷ []) ∷
    (141 ∷ 115 ∷ []) ∷
    (138 ∷ 118 ∷ []) ∷
    (8 ∷ 248 ∷ []) ∷
    (203 ∷ 53 ∷ []) ∷
    (187 ∷ 69 ∷ []) ∷
    (176 ∷ 80 ∷ []) ∷
    (168 ∷ 88 ∷ []) ∷
    (161 ∷ 95 ∷ []) ∷
    (154 ∷ 102 ∷ []) ∷
    []

-- ---- all rows

unfoldable pub chances : List (List ℕ)
unfolding flag_chances type_chances gain_chances delta_gain_chances narrow_first_chances wide_first_chances
    narrow_residual_chances wide_residual_chances extension_chances interpolation_chances lag_chances contour_chances
    period_chances filter_chances scale_chances even_chances rate_chances count_chances last_count_chances shell_chances0
    shell_chances1 shell_chances2 shell_chances3 low_bit_chances sign_chances
chances =
    flag_chances ++ type_chances ++ gain_chances ++ delta_gain_chances ++ narrow_first_chances ++ wide_first_chances
    ++ narrow_residual_chances ++ wide_residual_chances ++ extension_chances ++ interpolation_chances ++ lag_chances
    ++ contour_chances ++ period_chances ++ filter_chances ++ scale_chances ++ even_chances ++ rate_chances
    ++ count_chances ++ last_count_chances ++ shell_chances0 ++ shell_chances1 ++ shell_chances2 ++ shell_chances3
    ++ low_bit_chances ++ sign_chances

-- ---- an inverse row

-- what is left of `rest` behind each probability
unfoldable pub inverse_from : ℕ → List ℕ → List ℕ
inverse_from rest [] = []
inverse_from rest (p ∷ ps) = (rest - p) ∷ inverse_from (rest - p) ps

-- entry k is 256 less the first k + 1 probabilities; symbols of probability 0 before the first that can occur have no
-- entry
unfoldable pub inverse : List ℕ → List ℕ
unfolding inverse_from
inverse [] = []
inverse (zero ∷ ps) = inverse ps
inverse (suc p ∷ ps) = inverse_from 256 (suc p ∷ ps)

abbrev pub total : List ℕ → ℕ
total [] = 0
total (p ∷ ps) = p + total ps
