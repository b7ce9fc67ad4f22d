-- Document 01's worked cases hold, by computation (`specs/Statement`). Assumes nothing.
use mathlib.Core.Path.{◌≡◌, refl}
use mathlib.Core.List.{List, [], ◌∷◌, ◌++◌}
use lib.Count.{count_leading_zeros}
use Rattle.ints.specs.Wrap.{wrap16}
use Rattle.bitlen.specs.Length.{bit_length, length_in}
use Rattle.icdf.specs.Search.{search}
use Rattle.icdf.specs.Test.{icdf_ok, symbol_ok, symbol_rule}
use Rattle.refusals.specs.First.{first_of}
use Rattle.sheet.specs.Rows.{rows}
use Rattle.sheet.specs.Directory.{row_of}
use Rattle.sheet.specs.Books.{narrow_book}
use Rattle.entcode.specs.Cuts.{account}
use Rattle.entcode.specs.Reader.{opened, cut_down, read_val, read_next}
use Rattle.entcode.specs.Sound.{sound_r, gate_r, sound_w, gate_w}
use Rattle.entcode.specs.Reading as reading
use Rattle.entcode.specs.Reading.{dec_sym, dec_tell, dec_open}
use Rattle.entcode.specs.Writing as writing
use Rattle.entcode.specs.Writing.{written, enc_sym, finished, enc_done, enc_tell, enc_open}
use Rattle.spectrum.specs.Calls as spectra
use Rattle.spectrum.specs.Calls.{lengths_ok, stabilise_refusal, stabilise_call}
use Rattle.spectrum.specs.Distances.{diffs, least, first_least, keeps, place, lower, upper, centre, new_low, new_high, move}
use Rattle.spectrum.specs.Fallback.{insert, sorted, climb, raised, lowered, fallback}
use Rattle.spectrum.specs.Gaps.{good_gaps}
use Rattle.spectrum.specs.Stabilising.{run, stabilise}
use Rattle.spectrum.specs.Values.{max_z, min_z, held, total}
use Rattle.tree.specs.Asks as tree
use Rattle.tree.specs.Asks.{then, of, symbols}
use Rattle.tree.specs.Telling.{all_said}
use Rattle.silk.specs.IndexSyntax as side
use Rattle.silk.specs.FrameCalls.{setting_ok, next_lag, decode_indices, pulse_numbers_ok}
use Rattle.silk.specs.PulseSyntax as pulse
use Rattle.silk.specs.PulseWriting.{block_says, shift_ok, first_from, write_rule, write_numbers, encode_pulses}
use Rattle.worked_cases.specs.Statement.{Worked, reader_cases, writer_cases, spectrum_cases, lag_cases, run_cases, AllHold, CasesHold}

readers_hold : AllHold reader_cases
unfolding reader_cases dec_sym dec_tell dec_open reading.answered first_of gate_r sound_r opened cut_down read_val read_next
    account bit_length length_in
readers_hold = (refl, (refl, (refl, (refl, tt))))

writers_hold : AllHold writer_cases
unfolding writer_cases enc_sym enc_done enc_tell enc_open writing.answered first_of gate_w sound_w written finished account
    bit_length length_in count_leading_zeros
writers_hold = (refl, (refl, (refl, (refl, tt))))

spectra_hold : AllHold spectrum_cases
unfolding spectrum_cases stabilise_call spectra.answered stabilise_refusal lengths_ok good_gaps stabilise run move
    new_high new_low centre upper lower place keeps first_least least diffs total held min_z fallback lowered raised climb sorted
    insert max_z
spectra_hold = (refl, (refl, (refl, (refl, (refl, tt)))))

lag_hold : AllHold lag_cases
unfolding lag_cases decode_indices next_lag setting_ok dec_open first_of gate_r sound_r opened cut_down read_val read_next
    search wrap16 rows row_of narrow_book then of tree.run side.kind side.first_gain
    side.more_gains side.gains side.residual side.residuals side.spectrum side.interpolation side.lag side.contour
    side.filters side.period side.scale side.pitch side.voicing side.seed side.indices
lag_hold = (refl, tt)

run_hold : AllHold run_cases
unfolding run_cases dec_sym dec_tell dec_open reading.answered first_of gate_r sound_r opened cut_down read_val read_next
    account bit_length length_in count_leading_zeros enc_sym enc_open writing.answered gate_w sound_w written stabilise_call
    spectra.answered stabilise_refusal lengths_ok good_gaps stabilise run keeps least diffs total min_z symbol_ok icdf_ok
    symbol_rule rows row_of then of symbols all_said pulse_numbers_ok pulse.each
    pulse.low_counts pulse.count pulse.total pulse.split pulse.shell pulse.low_bits pulse.sign pulse.rows16 block_says
    shift_ok first_from write_rule write_numbers encode_pulses
run_hold = (refl, (refl, (refl, (refl, (refl, (refl, (refl, (refl, (refl, tt)))))))))

all_both : (vs ws : List Worked) → AllHold vs → AllHold ws → AllHold (vs ++ ws)
all_both [] ws a b = b
all_both (v ∷ vs) ws a b = (a.0, all_both vs ws a.1 b)

pub cases_hold : CasesHold
cases_hold =
    all_both reader_cases _ readers_hold (all_both writer_cases _ writers_hold
    (all_both spectrum_cases _ spectra_hold (all_both lag_cases run_cases lag_hold run_hold)))
