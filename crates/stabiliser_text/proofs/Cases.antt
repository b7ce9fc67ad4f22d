-- Document 01's example of the stabiliser program, P12, and refusals: each input with what it prints. Assumes nothing.
use Prim.Native.Nat.{ℕ}
use Prim.Native.String.{String}
use mathlib.Core.Path.{◌≡◌, refl}
use mathlib.Core.List.{List, [], ◌∷◌, map}
use Rattle.ints.specs.Wrap.{wrap16}
use Rattle.numerals.specs.Decimal.{digits_in, natural, decimal}
use Rattle.listing.specs.Ascii.{ascii}
use Rattle.listing.specs.Lines.{spaced, line, counted, refused_text}
use Rattle.sections.specs.Values.{value_at, values_at}
use Rattle.spectrum.specs.Calls.{answered, lengths_ok, stabilise_refusal, stabilise_call}
use Rattle.spectrum.specs.Distances.{diffs, least, first_least, keeps, place, lower, upper, centre, new_low, new_high, move}
use Rattle.spectrum.specs.Fallback.{insert, sorted, climb, raised, lowered, fallback}
use Rattle.spectrum.specs.Gaps.{good_gaps}
use Rattle.spectrum.specs.Stabilising.{run, stabilise}
use Rattle.spectrum.specs.Values.{max_z, min_z, held, total}
use Rattle.stabiliser_text_answer.specs.StabiliserAnswer.{answer_text}
use Rattle.stabiliser_text.specs.StabiliserText.{stabiliser_text}

pub record Case : Type 0 where
  pub input : List ℕ
  pub prints : String

abbrev pub case : List ℕ → String → Case
case s t = record { input = s; prints = t }

unfoldable pub cases : List Case
cases =
    case (2 ∷ 0 ∷ 100 ∷ 0 ∷ 50 ∷ 3 ∷ 0 ∷ 10 ∷ 0 ∷ 5 ∷ 0 ∷ 20 ∷ []) "rounds 1\nvector 2 73 78\n" ∷
    -- P12 as document 02, item 6, has it
    case (2 ∷ 127 ∷ 255 ∷ 127 ∷ 255 ∷ 3 ∷ 0 ∷ 0 ∷ 0 ∷ 3 ∷ 0 ∷ 1 ∷ []) "rounds 20\nvector 2 32764 32767\n" ∷
    case [] "refused 9\n" ∷
    case (2 ∷ 0 ∷ 100 ∷ 0 ∷ 50 ∷ 3 ∷ 0 ∷ 10 ∷ 0 ∷ 5 ∷ 0 ∷ []) "refused 9\n" ∷
    case (2 ∷ 0 ∷ 100 ∷ 0 ∷ 50 ∷ 3 ∷ 0 ∷ 10 ∷ 0 ∷ 5 ∷ 0 ∷ 20 ∷ 0 ∷ []) "refused 9\n" ∷
    case (0 ∷ 0 ∷ []) "refused 6\n" ∷
    case (2 ∷ 0 ∷ 100 ∷ 0 ∷ 50 ∷ 3 ∷ 0 ∷ 10 ∷ 255 ∷ 255 ∷ 0 ∷ 20 ∷ []) "refused 7\n" ∷
    []

pub cases_hold : map (λ (c : Case). stabiliser_text c.input) cases ≡ map (λ (c : Case). ascii c.prints) cases
unfolding cases stabiliser_text answer_text stabilise_call answered stabilise_refusal lengths_ok good_gaps stabilise run move
    new_high new_low centre upper lower place keeps first_least least diffs total held min_z max_z fallback lowered raised climb
    sorted insert values_at value_at wrap16 refused_text counted line spaced decimal natural digits_in ascii
cases_hold = refl
