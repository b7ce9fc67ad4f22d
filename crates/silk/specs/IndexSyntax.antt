-- The syntax of a frame's side indices (RFC 6716, section 4.2.7, from type to seed), as a tree of questions: each
-- with its row, the value that the writer of a record says there, and what follows. The tree starts from a record x,
-- whose fields that the frame does not read stay; kHz, subframes, mode and signal type are the document's numbers.
-- Assumes nothing.
use Rattle.std.specs.Prelude.{ℕ, zero, suc, ◌+◌, ◌-◌, ◌*◌, ◌/◌, ◌%◌, Bool, ◌&&◌, cond, List, [], eqb, ℤ, pos, negsuc, ◌+ℤ◌, ◌-ℤ◌, nat_abs, get_or}
use Rattle.std.specs.Int.Signed.{le_z}
use Rattle.ints.specs.Wrap.{wrap16}
use Rattle.sheet.specs.Directory.{type_row, gain_row, gain_low_row, delta_gain_row, first_index_row, residual_row, extension_row}
use Rattle.sheet.specs.Directory.{interpolation_row, lag_row, lag_low_row, delta_lag_row, contour_row, period_row, filter_row}
use Rattle.sheet.specs.Directory.{scale_row, seed_row}
use Rattle.sheet.specs.Books.{Book, narrow_book, wide_book}
use Rattle.entcode.specs.Models.{Model, tab}
use Rattle.tree.specs.Asks.{Asks, done, ask, then, of}
use Rattle.silk.specs.declared.Indices.{Indices}
use Rattle.silk.specs.declared.Setting.{Setting}
use Rattle.silk.specs.Record.{with_kind, with_gain, with_nlsf, put_interp, with_lag, with_contour, with_period}
use Rattle.silk.specs.Record.{with_filter, put_scale, with_seed}

-- a symbol of a row; all rows of a frame have scale 8
abbrev row : List ℕ → Model
row r = tab 8 r

-- what the writer says of a field that is a number, and of an entry of an array
abbrev pub said : ℤ → ℕ
said z = nat_abs z

abbrev pub said_at : List ℤ → ℕ → ℕ
said_at l k = said (get_or l k (pos 0))

-- a symbol of row r put into a field if n is k, else a fixed value
abbrev pub coded_or : ℕ → ℕ → List ℕ → (Indices → ℕ) → (ℤ → Indices) → ℕ → Asks Indices Indices
coded_or n k r w put fixed = cond (eqb n k) (ask (row r) w (λ v. done (put (pos v)))) (done (put (pos fixed)))

-- ---- type and offset as one number (section 4.2.7.3): an active frame's symbols begin at 2

abbrev pub kind_of : Indices → ℕ
kind_of x = said x.signal * 2 + said x.offset

unfoldable pub kind : ℕ → Asks Indices ℕ
kind active = ask (row (type_row active)) (λ y. kind_of y - active * 2) (λ v. done (v + active * 2))

-- ---- gains (section 4.2.7.4): the first by itself in two parts, or against the frame before in mode 2; each other
-- against the one before it

unfoldable pub first_gain : ℕ → ℕ → Indices → Asks Indices Indices
first_gain mode signal x =
    cond (eqb mode 2)
    (ask (row delta_gain_row) (λ y. said_at y.gains 0) (λ v. done (with_gain x 0 v)))
    (ask (row (gain_row signal)) (λ y. said_at y.gains 0 / 8) (λ h.
    ask (row gain_low_row) (λ y. said_at y.gains 0 % 8) (λ l.
    done (with_gain x 0 (h * 8 + l)))))

-- n more gains from subframe k on
unfoldable pub more_gains : ℕ → ℕ → Indices → Asks Indices Indices
more_gains zero k x = done x
more_gains (suc n) k x = ask (row delta_gain_row) (λ y. said_at y.gains k) (λ v. more_gains n (suc k) (with_gain x k v))

unfoldable pub gains : ℕ → ℕ → ℕ → Indices → Asks Indices Indices
gains mode subframes signal x = then (first_gain mode signal x) (more_gains (subframes - 1) 1)

-- ---- line spectrum (section 4.2.7.5): the first index, then a residual for each place

abbrev pub book_of : ℕ → Book
book_of khz = cond (eqb khz 16) wide_book narrow_book

-- the selectors of vector v: a byte for two places
abbrev pub selectors_of : ℕ → ℕ → List ℕ
selectors_of khz v = get_or (book_of khz).selectors v []

-- the residual row of place i: bits 1 to 3 of its byte for an even place, 5 to 7 for an odd one
abbrev pub residual_pick : List ℕ → ℕ → ℕ
residual_pick selectors i = get_or selectors (i / 2) 0 / cond (eqb (i % 2) 0) 2 32 % 8

-- the symbol of a residual z, -10 to 10, and what is left for the extension
abbrev pub residual_said : ℤ → ℕ
residual_said z = cond (le_z z (negsuc 3)) 0 (cond (le_z (pos 4) z) 8 (nat_abs (z +ℤ pos 4)))

abbrev pub extension_said : ℤ → ℕ
extension_said z = nat_abs z - 4

-- symbol 0 takes an extension away, symbol 8 adds one, then 4 is subtracted (section 4.2.7.5.2)
unfoldable pub residual : List ℕ → Asks ℤ ℤ
residual r =
    ask (row r) residual_said (λ v.
    cond (eqb v 0) (ask (row extension_row) extension_said (λ e. done (negsuc (3 + e))))
    (cond (eqb v 8) (ask (row extension_row) extension_said (λ e. done (pos (4 + e))))
    (done (pos v -ℤ pos 4))))

-- n more residuals from place i on
unfoldable pub residuals : ℕ → List ℕ → ℕ → ℕ → Indices → Asks Indices Indices
residuals khz selectors zero i x = done x
residuals khz selectors (suc n) i x =
    then (of (λ y. get_or y.nlsf (suc i) (pos 0)) (residual (residual_row khz (residual_pick selectors i))))
    (λ z. residuals khz selectors n (suc i) (with_nlsf x (suc i) z))

unfoldable pub spectrum : ℕ → ℕ → Indices → Asks Indices Indices
spectrum khz signal x =
    ask (row (first_index_row khz signal)) (λ y. said_at y.nlsf 0) (λ v.
    residuals khz (selectors_of khz v) (book_of khz).order 0 (with_nlsf x 0 (pos v)))

-- interpolation (section 4.2.7.5.5): 4 subframes only; fixed at 4 for 2
unfoldable pub interpolation : ℕ → Indices → Asks Indices Indices
interpolation subframes x = coded_or subframes 4 interpolation_row (λ y. said y.interp) (put_interp x) 4

-- ---- pitch, in a voiced frame (section 4.2.7.6)

-- the form of the lag that a writer chooses: 0, an absolute lag follows
abbrev pub lag_form : Indices → ℕ
lag_form y = 0

unfoldable pub absolute_lag : ℕ → Indices → Asks Indices Indices
absolute_lag khz x =
    ask (row lag_row) (λ y. said y.lag / (khz / 2)) (λ h.
    ask (row (lag_low_row khz)) (λ y. said y.lag % (khz / 2)) (λ l.
    done (with_lag x (pos (h * (khz / 2) + l)))))

-- relative to the frame before: 1 to 20 mean -8 to 11, the sum kept in 16 bits (section 4.2.7.6.1)
abbrev pub lag_after : ℤ → ℕ → ℤ
lag_after before v = wrap16 (before +ℤ (pos v -ℤ pos 9))

unfoldable pub lag : Bool → ℕ → ℤ → Indices → Asks Indices Indices
lag relative khz before x =
    cond relative
    (ask (row delta_lag_row) lag_form (λ v. cond (eqb v 0) (absolute_lag khz x) (done (with_lag x (lag_after before v)))))
    (absolute_lag khz x)

unfoldable pub contour : ℕ → ℕ → Indices → Asks Indices Indices
contour khz subframes x = ask (row (contour_row khz subframes)) (λ y. said y.contour) (λ v. done (with_contour x v))

-- filters of period p (section 4.2.7.6.2): n more from subframe k on
unfoldable pub filters : ℕ → ℕ → ℕ → Indices → Asks Indices Indices
filters p zero k x = done x
filters p (suc n) k x = ask (row (filter_row p)) (λ y. said_at y.ltp k) (λ v. filters p n (suc k) (with_filter x k v))

unfoldable pub period : ℕ → Indices → Asks Indices Indices
period subframes x = ask (row period_row) (λ y. said y.period) (λ p. filters p subframes 0 (with_period x p))

-- scale (section 4.2.7.6.3): mode 0 only, else 0
unfoldable pub scale : ℕ → Indices → Asks Indices Indices
scale mode x = coded_or mode 0 scale_row (λ y. said y.scale) (put_scale x) 0

-- the lag is relative in mode 2 after a voiced frame
abbrev pub relative_in : ℕ → ℕ → Bool
relative_in mode prevtype = eqb mode 2 && eqb prevtype 2

abbrev pub relative_lag : Setting → Bool
relative_lag s = relative_in s.mode s.prevtype

unfoldable pub pitch : Setting → Indices → Asks Indices Indices
pitch s x =
    then (lag (relative_lag s) s.khz s.prevlag x) (λ a.
    then (contour s.khz s.subframes a) (λ c.
    then (period s.subframes c) (scale s.mode)))

unfoldable pub voicing : ℕ → Setting → Indices → Asks Indices Indices
voicing signal s x = cond (eqb signal 2) (pitch s x) (done x)

-- seed (section 4.2.7.7)
unfoldable pub seed : Indices → Asks Indices Indices
seed x = ask (row seed_row) (λ y. said y.seed) (λ v. done (with_seed x v))

-- ---- all of it, in order

unfoldable pub indices : Setting → Indices → Asks Indices Indices
indices s x =
    then (kind s.active) (λ k.
    then (gains s.mode s.subframes (k / 2) (with_kind x k)) (λ g.
    then (spectrum s.khz (k / 2) g) (λ q.
    then (interpolation s.subframes q) (λ i.
    then (voicing (k / 2) s i) seed))))
