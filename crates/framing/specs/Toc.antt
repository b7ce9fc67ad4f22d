-- A packet's first byte (RFC 6716, section 3.1): five bits of configuration, the stereo bit, two bits that name the
-- arrangement of the frames. A byte past the end of a list counts as 0. Assumes nothing.
use Rattle.std.specs.Prelude.{ℕ, zero, suc, ◌*◌, ◌/◌, ◌%◌, Bool, List, [], ◌∷◌, leb, get_or}

abbrev pub config_of : List ℕ → ℕ
config_of s = get_or s 0 0 / 8

abbrev pub stereo_of : List ℕ → ℕ
stereo_of s = get_or s 0 0 / 4 % 2

abbrev pub code_of : List ℕ → ℕ
code_of s = get_or s 0 0 % 4

-- by the code of the arrangement: 0, 1, 2 and 3
abbrev pub by_code {ℓ} : {A : Type ℓ} → ℕ → A → A → A → A → A
by_code zero a b c d = a
by_code (suc zero) a b c d = b
by_code (suc (suc zero)) a b c d = c
by_code (suc (suc (suc n))) a b c d = d

-- how long one frame lasts, in tenths of a millisecond (table 2)
unfoldable pub durations : List ℕ
durations =
    100 ∷ 200 ∷ 400 ∷ 600 ∷  -- 0 to 3: SILK, narrow band
    100 ∷ 200 ∷ 400 ∷ 600 ∷  -- 4 to 7: SILK, medium band
    100 ∷ 200 ∷ 400 ∷ 600 ∷  -- 8 to 11: SILK, wide band
    100 ∷ 200 ∷  -- 12, 13: hybrid, super wide band
    100 ∷ 200 ∷  -- 14, 15: hybrid, full band
    25 ∷ 50 ∷ 100 ∷ 200 ∷  -- 16 to 19: CELT, narrow band
    25 ∷ 50 ∷ 100 ∷ 200 ∷  -- 20 to 23: CELT, wide band
    25 ∷ 50 ∷ 100 ∷ 200 ∷  -- 24 to 27: CELT, super wide band
    25 ∷ 50 ∷ 100 ∷ 200 ∷  -- 28 to 31: CELT, full band
    []

-- no duration above 31
abbrev pub duration : ℕ → ℕ
duration c = get_or durations c 0

-- n frames of configuration c last at most 120 ms (section 3.2.5)
abbrev pub in_time : ℕ → ℕ → Bool
in_time n c = leb (n * duration c) 1200
