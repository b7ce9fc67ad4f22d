-- The side-index record (document 01, "Side indices") by its fields, and with some of them changed. No other place spells
-- a record out. Assumes nothing.
use Rattle.std.specs.Prelude.{ℕ, ◌/◌, ◌%◌, List, ℤ, pos, set, length, ◌≡◌}
use Rattle.silk.specs.declared.Indices.{Indices}

-- a record by its fields, so that equal fields make equal records
abbrev pub made : List ℤ → List ℤ → List ℤ → ℤ → ℤ → ℤ → ℤ → ℤ → ℤ → ℤ → ℤ → Indices
made g f n l c s o i p k d =
    record {
      gains = g;
      ltp = f;
      nlsf = n;
      lag = l;
      contour = c;
      signal = s;
      offset = o;
      interp = i;
      period = p;
      scale = k;
      seed = d;
    }

-- ---- whole arrays

abbrev pub with_gains : Indices → List ℤ → Indices
with_gains x l = made l x.ltp x.nlsf x.lag x.contour x.signal x.offset x.interp x.period x.scale x.seed

abbrev pub with_nlsfs : Indices → List ℤ → Indices
with_nlsfs x l = made x.gains x.ltp l x.lag x.contour x.signal x.offset x.interp x.period x.scale x.seed

abbrev pub with_filters : Indices → List ℤ → Indices
with_filters x l = made x.gains l x.nlsf x.lag x.contour x.signal x.offset x.interp x.period x.scale x.seed

-- ---- one entry

-- the gain of subframe k
abbrev pub with_gain : Indices → ℕ → ℕ → Indices
with_gain x k v = with_gains x (set x.gains k (pos v))

-- spectrum index k: 0 is the first, k the residual of place k - 1
abbrev pub with_nlsf : Indices → ℕ → ℤ → Indices
with_nlsf x k z = with_nlsfs x (set x.nlsf k z)

-- the filter of subframe k
abbrev pub with_filter : Indices → ℕ → ℕ → Indices
with_filter x k v = with_filters x (set x.ltp k (pos v))

-- ---- one number, or the two of the type, which a reader gives as naturals

abbrev pub put_types : Indices → ℤ → ℤ → Indices
put_types x s o = made x.gains x.ltp x.nlsf x.lag x.contour s o x.interp x.period x.scale x.seed

-- signal and offset type, as one number
abbrev pub with_kind : Indices → ℕ → Indices
with_kind x k = put_types x (pos (k / 2)) (pos (k % 2))

abbrev pub with_lag : Indices → ℤ → Indices
with_lag x z = made x.gains x.ltp x.nlsf z x.contour x.signal x.offset x.interp x.period x.scale x.seed

abbrev pub put_contour : Indices → ℤ → Indices
put_contour x z = made x.gains x.ltp x.nlsf x.lag z x.signal x.offset x.interp x.period x.scale x.seed

abbrev pub with_contour : Indices → ℕ → Indices
with_contour x v = put_contour x (pos v)

abbrev pub put_interp : Indices → ℤ → Indices
put_interp x z = made x.gains x.ltp x.nlsf x.lag x.contour x.signal x.offset z x.period x.scale x.seed

abbrev pub put_period : Indices → ℤ → Indices
put_period x z = made x.gains x.ltp x.nlsf x.lag x.contour x.signal x.offset x.interp z x.scale x.seed

abbrev pub with_period : Indices → ℕ → Indices
with_period x v = put_period x (pos v)

abbrev pub put_scale : Indices → ℤ → Indices
put_scale x z = made x.gains x.ltp x.nlsf x.lag x.contour x.signal x.offset x.interp x.period z x.seed

abbrev pub put_seed : Indices → ℤ → Indices
put_seed x z = made x.gains x.ltp x.nlsf x.lag x.contour x.signal x.offset x.interp x.period x.scale z

abbrev pub with_seed : Indices → ℕ → Indices
with_seed x v = put_seed x (pos v)

-- the arrays' lengths, which a record of the code always has
pub record Shape (x : Indices) : Type 0 where
  pub gains : length x.gains ≡ 4
  pub ltp : length x.ltp ≡ 4
  pub nlsf : length x.nlsf ≡ 17
