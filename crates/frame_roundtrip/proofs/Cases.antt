-- A frame whose calls are all accepted and finished, computed from the definitions: the premises of `frame_back` are met. Assumes nothing.
use mathlib.Core.Path.{refl}
use mathlib.Core.List.{List, [], ◌∷◌, ◌++◌}
use lib.Count.{count_leading_zeros}
use lib.IntN.{ℤ, pos, negsuc}
use lib.ListN.{replicate}
use Rattle.bitlen.specs.Length.{length_in, bit_length}
use Rattle.icdf.specs.Test.{icdf_ok, symbol_ok, icdf_rule, symbol_rule}
use Rattle.refusals.specs.First.{first_of}
use Rattle.sheet.specs.Rows.{rows}
use Rattle.sheet.specs.Directory.{row_of}
use Rattle.sheet.specs.Books.{narrow_book}
use Rattle.entcode.specs.Models.{bit}
use Rattle.entcode.specs.Cuts.{account}
use Rattle.entcode.specs.Sound.{sound_w, gate_w}
use Rattle.entcode.specs.Flat.{Out}
use Rattle.entcode.specs.Writing.{answered, written, finished, enc_sym, enc_done, enc_open}
use Rattle.roundtrip.specs.Statement.{after}
use Rattle.tree.specs.Asks.{then, of, symbols, meant}
use Rattle.tree.specs.Telling.{written_all, all_said}
use Rattle.silk.specs.declared.Indices.{Indices}
use Rattle.silk.specs.declared.Setting.{Setting}
use Rattle.silk.specs.Record.{made}
use Rattle.silk.specs.IndexSyntax.{kind, first_gain, more_gains, gains, residual, residuals, spectrum, interpolation, absolute_lag, lag, contour, filters, period, scale, pitch, voicing, seed, indices}
use Rattle.silk.specs.FrameCalls.{setting_ok, next_lag, pulse_numbers_ok}
use Rattle.silk.specs.IndexWriting.{same_indices, sayable, encode_indices}
use Rattle.silk.specs.PulseSyntax.{each, low_counts, count, counts, total, split, shell, low_bits, block_lows, sign, block_signs, shifted, excitation, rows16}
use Rattle.silk.specs.PulseWriting.{block_says, shift_ok, first_from, blocks_by, write_rule, write_numbers, encode_pulses}
use Rattle.frame_roundtrip.specs.Statement.{Finishes, typed_pulses, FrameAccepts}

-- 8 kHz, 2 subframes, active, independent, after an unvoiced frame
abbrev pub setting : Setting
setting = record { khz = 8; subframes = 2; active = 1; mode = 0; prevtype = 0; prevlag = pos 0 }

-- voiced, with residuals at both ends of their range
abbrev pub voiced_record : Indices
voiced_record =
    made (pos 37 ∷ pos 6 ∷ pos 0 ∷ pos 0 ∷ []) (pos 3 ∷ pos 7 ∷ pos 0 ∷ pos 0 ∷ [])
    (pos 9 ∷ pos 0 ∷ negsuc 4 ∷ pos 1 ∷ pos 10 ∷ pos 0 ∷ negsuc 9 ∷ pos 2 ∷ pos 4 ∷ negsuc 0 ∷ pos 3 ∷ replicate 6 (pos 0))
    (pos 100) (pos 2) (pos 2) (pos 1) (pos 4) (pos 1) (pos 1) (pos 3)

-- the first block needs two low bits
abbrev pub some_pulses : List ℤ
some_pulses = (pos 40 ∷ negsuc 2 ∷ pos 0 ∷ pos 1 ∷ negsuc 0 ∷ pos 2 ∷ []) ++ replicate 74 (pos 0)

-- behind one bit, in a buffer of 60 bytes
abbrev pub begun : Out
begun = after (enc_sym (after (enc_open (replicate 60 7))) (record { model = bit 1; value = 1 }))

pub frame_accepted : FrameAccepts begun setting voiced_record some_pulses 3 × Finishes (after (typed_pulses begun setting voiced_record some_pulses 3))
unfolding count_leading_zeros length_in bit_length icdf_ok symbol_ok icdf_rule symbol_rule first_of rows row_of narrow_book account
    sound_w gate_w answered written enc_sym enc_open then of symbols meant written_all all_said kind first_gain more_gains
    gains residual residuals spectrum interpolation absolute_lag lag contour filters period scale pitch voicing seed
    indices setting_ok next_lag same_indices sayable encode_indices pulse_numbers_ok each low_counts count counts total split
    shell low_bits block_lows sign block_signs shifted excitation rows16 block_says shift_ok first_from blocks_by write_rule
    write_numbers encode_pulses finished enc_done
frame_accepted = (
  record { shape = record { gains = refl; ltp = refl; nlsf = refl }; indices = refl; pulses = refl },
  record { accepted = refl; error = refl },
)
