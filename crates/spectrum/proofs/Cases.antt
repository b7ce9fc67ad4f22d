-- Cases of the two calls beside document 01's, as lists, and one theorem that their definitions satisfy them all: a
-- tie, the centre's rounding, saturation, sorting, the number of moves, the upward pass and the upper limit;
-- moves past 16 bits, where the crate's stores part from the calls; refusals; spectra that the reference library
-- decodes so. Assumes nothing.
use Prim.Native.Nat.{ℕ, zero, suc}
use mathlib.Core.Path.{◌≡◌, refl}
use mathlib.Core.List.{List, [], ◌∷◌}
use lib.IntN.{ℤ, pos, negsuc}
use lib.ListN.{length}
use Rattle.ints.specs.Wrap.{wrap16}
use Rattle.sheet.specs.Books.{narrow_book, wide_book}
use Rattle.spectrum.specs.Calls.{Called, called, answered, lengths_ok, stabilise_refusal, stabilise_call, book_of, numbers_ok, decode_refusal, decoded, decode_call}
use Rattle.spectrum.specs.Distances.{diffs, least, first_least, keeps, place, lower, upper, centre, new_low, new_high, move}
use Rattle.spectrum.specs.Fallback.{insert, sorted, climb, raised, lowered, fallback}
use Rattle.spectrum.specs.Gaps.{good_gaps}
use Rattle.spectrum.specs.Places.{placed, placed_all, places}
use Rattle.spectrum.specs.Residuals.{nudged, scaled, predicted, residuals, predictor_in}
use Rattle.spectrum.specs.Stabilising.{run, stabilise}
use Rattle.spectrum.specs.Stores.{low16, high16, move16, run16, stabilise16}
use Rattle.spectrum.specs.Values.{max_z, min_z, held, total}

abbrev minus : ℕ → ℤ
minus zero = pos 0
minus (suc n) = negsuc n

pub data Case : Type 0 where
  -- gaps and vector; the vector left, and the number of moves
  stabilises : List ℤ → List ℤ → List ℤ → ℕ → Case
  -- the same with the crate's stores
  crate_stabilises : List ℤ → List ℤ → List ℤ → ℕ → Case
  -- gaps and vector; the refusal
  refuses : List ℤ → List ℤ → ℕ → Case
  -- kHz and indices; the vector left, and the number of moves
  decodes : ℕ → List ℤ → List ℤ → ℕ → Case

-- a lent vector of the order
abbrev lent : ℕ → List ℤ
lent zero = []
lent (suc n) = pos 0 ∷ lent n

abbrev pub computed : Case → Called
computed (stabilises g v w n) = stabilise_call v g
computed (crate_stabilises g v w n) = answered 0 v (stabilise16 g v)
computed (refuses g v n) = stabilise_call v g
computed (decodes khz x w n) = decode_call (lent (length w)) (record { index = x }) khz

abbrev pub stated : Case → Called
stated (stabilises g v w n) = called w 0 n
stated (crate_stabilises g v w n) = called w 0 n
stated (refuses g v n) = called v n 0
stated (decodes khz x w n) = called w 0 n

unfoldable pub move_cases : List Case
move_cases =
    -- of equal differences the first is mended
    stabilises (pos 0 ∷ pos 0 ∷ pos 1 ∷ []) (minus 1 ∷ minus 2 ∷ []) (pos 0 ∷ pos 0 ∷ []) 2 ∷
    -- the centre is halved upward
    stabilises (pos 0 ∷ pos 0 ∷ pos 1 ∷ []) (pos 1 ∷ pos 0 ∷ []) (pos 1 ∷ pos 1 ∷ []) 1 ∷
    -- the fallback's sum saturates
    stabilises (pos 0 ∷ pos 2481 ∷ pos 29518 ∷ pos 767 ∷ pos 1 ∷ []) (pos 38 ∷ pos 18 ∷ pos 2 ∷ pos 9 ∷ [])
    (pos 1 ∷ pos 2482 ∷ pos 32000 ∷ pos 32767 ∷ []) 20 ∷
    -- the fallback sorts
    stabilises (pos 0 ∷ pos 2 ∷ pos 5 ∷ pos 5 ∷ pos 1 ∷ []) (pos 32767 ∷ pos 0 ∷ pos 1 ∷ pos 0 ∷ [])
    (pos 8076 ∷ pos 8195 ∷ pos 8200 ∷ pos 8320 ∷ []) 20 ∷
    -- 20 moves, then the fallback
    stabilises (pos 0 ∷ pos 1 ∷ pos 2 ∷ []) (pos 32766 ∷ pos 32765 ∷ []) (pos 32765 ∷ pos 32766 ∷ []) 20 ∷
    -- the fallback goes upward first
    stabilises (pos 0 ∷ pos 1 ∷ pos 0 ∷ pos 6 ∷ pos 1 ∷ []) (pos 23 ∷ pos 37 ∷ pos 2 ∷ pos 1 ∷ [])
    (pos 17 ∷ pos 18 ∷ pos 18 ∷ pos 24 ∷ []) 20 ∷
    -- the centre is held below its upper limit
    stabilises (pos 0 ∷ pos 0 ∷ pos 2 ∷ []) (pos 32767 ∷ pos 32766 ∷ []) (pos 32766 ∷ pos 32766 ∷ []) 1 ∷
    -- moves past 16 bits: the smallest vector on which the crate parts from the calls, and document 01's P12
    stabilises (pos 0 ∷ pos 1 ∷ pos 1 ∷ []) (pos 32767 ∷ pos 32767 ∷ []) (pos 32766 ∷ pos 32767 ∷ []) 20 ∷
    crate_stabilises (pos 0 ∷ pos 1 ∷ pos 1 ∷ []) (pos 32767 ∷ pos 32767 ∷ []) (pos 0 ∷ pos 1 ∷ []) 2 ∷
    crate_stabilises (pos 0 ∷ pos 3 ∷ pos 1 ∷ []) (pos 32767 ∷ pos 32767 ∷ []) (pos 0 ∷ pos 3 ∷ []) 2 ∷
    -- the crate's stores and its fallback
    crate_stabilises (pos 0 ∷ pos 1 ∷ pos 32765 ∷ pos 1 ∷ []) (pos 2 ∷ pos 1 ∷ pos 32766 ∷ []) (pos 0 ∷ pos 2 ∷ pos 32767 ∷ []) 20 ∷
    crate_stabilises (pos 0 ∷ pos 1 ∷ pos 1 ∷ pos 1 ∷ []) (pos 32766 ∷ pos 32765 ∷ pos 32765 ∷ [])
    (pos 10930 ∷ pos 10931 ∷ pos 10932 ∷ []) 20 ∷
    -- a store that saturates would count 2
    stabilises (pos 0 ∷ pos 0 ∷ pos 3 ∷ pos 1 ∷ []) (pos 32767 ∷ pos 32767 ∷ pos 32767 ∷ [])
    (pos 32764 ∷ pos 32764 ∷ pos 32767 ∷ []) 3 ∷
    []

unfoldable pub gap_cases : List Case
gap_cases =
    -- a gap total of 32,768 is accepted, 32,769 refused; the lengths come before the gaps
    stabilises (pos 0 ∷ pos 32767 ∷ pos 1 ∷ []) (pos 0 ∷ pos 32767 ∷ []) (pos 0 ∷ pos 32767 ∷ []) 0 ∷
    refuses (pos 1 ∷ pos 32767 ∷ pos 1 ∷ []) (pos 0 ∷ pos 32767 ∷ []) 7 ∷
    refuses (pos 1 ∷ pos 1 ∷ []) (pos 5 ∷ []) 6 ∷
    refuses (pos 0 ∷ pos 0 ∷ []) (pos 5 ∷ pos 5 ∷ []) 6 ∷
    []

unfoldable pub decode_cases : List Case
decode_cases =
    -- indices past the order are not looked at
    decodes 8 (pos 0 ∷ minus 4 ∷ minus 4 ∷ minus 4 ∷ minus 4 ∷ minus 4 ∷ minus 4 ∷ minus 4 ∷ minus 4 ∷ minus 4 ∷
    minus 4 ∷ pos 99 ∷ pos 99 ∷ pos 99 ∷ pos 99 ∷ pos 99 ∷ pos 99 ∷ [])
    (pos 250 ∷ pos 253 ∷ pos 259 ∷ pos 262 ∷ pos 1782 ∷ pos 5219 ∷ pos 9016 ∷ pos 12968 ∷ pos 18081 ∷ pos 24034 ∷ []) 4 ∷
    decodes 12 (pos 21 ∷ pos 2 ∷ pos 1 ∷ pos 0 ∷ minus 2 ∷ pos 2 ∷ pos 1 ∷ minus 3 ∷ pos 2 ∷ pos 3 ∷ pos 1 ∷ pos 0 ∷
    pos 0 ∷ pos 0 ∷ pos 0 ∷ pos 0 ∷ pos 0 ∷ [])
    (pos 4289 ∷ pos 4292 ∷ pos 8796 ∷ pos 11712 ∷ pos 16381 ∷ pos 16658 ∷ pos 17577 ∷ pos 26487 ∷ pos 29540 ∷ pos 29543 ∷ []) 2 ∷
    decodes 16 (pos 1 ∷ minus 1 ∷ pos 0 ∷ pos 3 ∷ minus 3 ∷ pos 2 ∷ pos 4 ∷ minus 4 ∷ pos 4 ∷ minus 2 ∷ minus 4 ∷
    minus 4 ∷ pos 1 ∷ pos 0 ∷ pos 0 ∷ minus 4 ∷ pos 0 ∷ [])
    (pos 1634 ∷ pos 4240 ∷ pos 6630 ∷ pos 6633 ∷ pos 10527 ∷ pos 10530 ∷ pos 10535 ∷ pos 12271 ∷ pos 12285 ∷ pos 12295 ∷
    pos 16368 ∷ pos 21277 ∷ pos 21957 ∷ pos 23394 ∷ pos 24706 ∷ pos 30208 ∷ []) 18 ∷
    decodes 16 (pos 13 ∷ minus 10 ∷ minus 10 ∷ pos 10 ∷ minus 10 ∷ pos 10 ∷ pos 10 ∷ pos 10 ∷ minus 10 ∷ minus 10 ∷
    pos 10 ∷ minus 10 ∷ minus 10 ∷ pos 10 ∷ pos 10 ∷ pos 10 ∷ minus 10 ∷ [])
    (pos 100 ∷ pos 125 ∷ pos 8266 ∷ pos 8269 ∷ pos 11230 ∷ pos 12269 ∷ pos 12283 ∷ pos 13331 ∷ pos 14527 ∷ pos 15711 ∷
    pos 15722 ∷ pos 21158 ∷ pos 28669 ∷ pos 29483 ∷ pos 29490 ∷ pos 30297 ∷ []) 20 ∷
    -- every distance that is promised of either book is met (`DecodeApart`)
    decodes 12 (pos 23 ∷ minus 10 ∷ minus 4 ∷ pos 0 ∷ pos 0 ∷ minus 7 ∷ pos 10 ∷ minus 10 ∷ pos 10 ∷ minus 10 ∷ pos 10 ∷
    pos 0 ∷ pos 0 ∷ pos 0 ∷ pos 0 ∷ pos 0 ∷ pos 0 ∷ [])
    (pos 250 ∷ pos 393 ∷ pos 6589 ∷ pos 11393 ∷ pos 12590 ∷ pos 19958 ∷ pos 19962 ∷ pos 25356 ∷ pos 25359 ∷
    pos 32307 ∷ []) 4 ∷
    decodes 16 (pos 27 ∷ minus 10 ∷ minus 10 ∷ pos 10 ∷ pos 0 ∷ minus 10 ∷ pos 6 ∷ minus 10 ∷ pos 10 ∷ minus 2 ∷ pos 0 ∷
    pos 10 ∷ minus 10 ∷ pos 10 ∷ pos 10 ∷ minus 10 ∷ pos 10 ∷ [])
    (pos 100 ∷ pos 103 ∷ pos 5417 ∷ pos 5469 ∷ pos 5472 ∷ pos 11354 ∷ pos 11359 ∷ pos 18354 ∷ pos 18368 ∷
    pos 21144 ∷ pos 23865 ∷ pos 23868 ∷ pos 29212 ∷ pos 29221 ∷ pos 29285 ∷ pos 32421 ∷ []) 20 ∷
    []

-- one by one, so that a false one is refused with its own numbers
unfoldable pub AllHold : List Case → Type 0
AllHold [] = Unit {0}
AllHold (c ∷ cs) = (computed c ≡ stated c) × AllHold cs

pub cases_hold : AllHold move_cases × (AllHold gap_cases × AllHold decode_cases)
unfolding AllHold move_cases gap_cases decode_cases stabilise_call decode_call answered stabilise_refusal lengths_ok good_gaps
    decode_refusal numbers_ok book_of narrow_book wide_book decoded places placed_all placed residuals predicted predictor_in scaled
    nudged stabilise run fallback lowered raised climb sorted insert move new_high new_low centre upper lower place keeps
    first_least least diffs total held min_z max_z stabilise16 run16 move16 high16 low16 wrap16
cases_hold = (
  (refl, (refl, (refl, (refl, (refl, (refl, (refl, (refl, (refl, (refl, (refl, (refl, (refl, tt))))))))))))),
  ((refl, (refl, (refl, (refl, tt)))), (refl, (refl, (refl, (refl, (refl, (refl, tt))))))),
)
