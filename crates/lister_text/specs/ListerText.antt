-- What the frame lister prints (document 01). Its input has two sections: count 7 and kHz, subframes, active, mode,
-- previous type, previous lag (two bytes, high first); then the packet's count (two bytes, high first) and its bytes.
-- Assumes nothing.
use Rattle.std.specs.Prelude.{ℕ, ◌*◌, cond, List, ◌++◌, eqb, ℤ, pos, nat_abs, drop, replicate}
use Rattle.listing.specs.Lines.{refused_text}
use Rattle.sections.specs.Values.{byte_at, value_at}
use Rattle.entcode.specs.declared.Dec.{Dec}
use Rattle.entcode.specs.Reading.{dec_open}
use Rattle.silk.specs.declared.Indices.{Indices}
use Rattle.silk.specs.declared.IndicesRead.{IndicesRead}
use Rattle.silk.specs.declared.Setting.{Setting}
use Rattle.silk.specs.FrameCalls.{blocks_of, decode_indices, decode_pulses}
use Rattle.frame_text.specs.FrameText.{indices_text, pulses_text}
use Rattle.lister_text_input.specs.ListerInput.{whole}

-- ---- the input

abbrev pub setting_at : List ℕ → Setting
setting_at s =
    record {
      khz = byte_at s 1;
      subframes = byte_at s 2;
      active = byte_at s 3;
      mode = byte_at s 4;
      prevtype = byte_at s 5;
      prevlag = value_at s 6;
    }

abbrev pub packet_of : List ℕ → List ℕ
packet_of s = drop 10 s

-- ---- the frame, which starts the packet

-- fields that the frame does not read are not listed
abbrev pub blank : Indices
blank =
    record {
      gains = replicate 4 (pos 0);
      ltp = replicate 4 (pos 0);
      nlsf = replicate 17 (pos 0);
      lag = pos 0;
      contour = pos 0;
      signal = pos 0;
      offset = pos 0;
      interp = pos 0;
      period = pos 0;
      scale = pos 0;
      seed = pos 0;
    }

abbrev pub indices_of : List ℕ → Setting → IndicesRead
indices_of b s = decode_indices b (dec_open b).state blank s

-- the pulses behind them; p is what the lent slice held
abbrev pub excitation_text : List ℕ → Dec → List ℤ → ℕ → ℕ → ℕ → ℕ → List ℕ
excitation_text b d p khz subframes signal offset =
    pulses_text (blocks_of khz subframes) (decode_pulses b d p khz subframes signal offset).pulses

abbrev pub accepted_text : List ℕ → ℕ → ℕ → IndicesRead → List ℕ
accepted_text b khz subframes a =
    let zeros = replicate (16 * blocks_of khz subframes) (pos 0) in
    indices_text khz subframes a.indices ++
    excitation_text b a.state zeros khz subframes (nat_abs a.indices.signal) (nat_abs a.indices.offset)

-- the frame, or the refusal, 1 or 4
unfoldable pub read_text : List ℕ → Setting → IndicesRead → List ℕ
read_text b s a = cond (eqb a.refusal 0) (accepted_text b s.khz s.subframes a) (refused_text a.refusal)

abbrev pub frame_text : List ℕ → Setting → List ℕ
frame_text b s = read_text b s (indices_of b s)

-- ---- all of it: 9 where the input is not whole

unfoldable pub lister_text : List ℕ → List ℕ
lister_text s = cond (whole s) (frame_text (packet_of s) (setting_at s)) (refused_text 9)
