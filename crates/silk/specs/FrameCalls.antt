-- What the public calls that read a frame answer, accepted or refused: document 01's table over the frame's syntax.
-- Assumes nothing.
use Rattle.std.specs.Prelude.{ℕ, ◌+◌, ◌*◌, ◌/◌, Bool, ◌&&◌, ◌||◌, cond, eqb, leb, ℤ, nat_abs, length}
use mathlib.Core.List.{List, flatten}
use Rattle.refusals.specs.First.{first_of}
use Rattle.entcode.specs.declared.Dec.{Dec}
use Rattle.entcode.specs.declared.Decoded.{Decoded}
use Rattle.entcode.specs.Sound.{gate_r}
use Rattle.entcode.specs.Reading.{gives, refuses}
use Rattle.tree.specs.Asks.{Got, run}
use Rattle.silk.specs.declared.Indices.{Indices}
use Rattle.silk.specs.declared.IndicesRead.{IndicesRead}
use Rattle.silk.specs.declared.Setting.{Setting}
use Rattle.silk.specs.IndexSyntax.{indices}
use Rattle.silk.specs.PulseSyntax.{Excitation, excitation}

-- ---- the numbers of a frame

abbrev pub khz_ok : ℕ → Bool
khz_ok khz = eqb khz 8 || (eqb khz 12 || eqb khz 16)

abbrev pub subframes_ok : ℕ → Bool
subframes_ok subframes = eqb subframes 2 || eqb subframes 4

unfoldable pub setting_ok : Setting → Bool
setting_ok s =
    khz_ok s.khz && (subframes_ok s.subframes && (leb s.active 1 && (leb s.mode 2 && leb s.prevtype 2)))

-- blocks of 16 in a frame of 5 x kHz x subframes places: 5, 8, 10, 15, 20
abbrev pub blocks_of : ℕ → ℕ → ℕ
blocks_of khz subframes = (5 * khz * subframes + 15) / 16

-- ---- side indices

-- the previous type is this frame's, the previous lag that of a voiced frame alone
unfoldable pub next_lag : ℤ → Indices → ℤ
next_lag before x = cond (eqb (nat_abs x.signal) 2) x.lag before

abbrev pub indices_got : ℤ → Got Indices → IndicesRead
indices_got before g =
    record {
      refusal = 0;
      state = g.state;
      indices = g.value;
      prevtype = nat_abs g.value.signal;
      prevlag = next_lag before g.value;
    }

-- record, previous type and lag as they came
abbrev pub indices_kept : ℕ → Dec → Indices → Setting → IndicesRead
indices_kept n d x s = record { refusal = n; state = d; indices = x; prevtype = s.prevtype; prevlag = s.prevlag }

abbrev pub indices_rule : List ℕ → Dec → Setting → ℕ
indices_rule b d s = first_of (gate_r b d) (cond (setting_ok s) 0 4)

unfoldable pub decode_indices : List ℕ → Dec → Indices → Setting → IndicesRead
decode_indices b d x s =
    cond (eqb (indices_rule b d s) 0)
    (indices_got s.prevlag (run b d (indices s x)))
    (indices_kept (indices_rule b d s) d x s)

-- ---- pulses

unfoldable pub pulse_numbers_ok : ℕ → ℕ → ℕ → ℕ → Bool
pulse_numbers_ok khz subframes signal offset = khz_ok khz && (subframes_ok subframes && (leb signal 2 && leb offset 1))

-- 4 for a number, then 6 for a slice that is not exactly 16 x blocks long
unfoldable pub pulse_rule : ℕ → ℕ → ℕ → ℕ → ℕ → ℕ
pulse_rule n khz subframes signal offset =
    cond (pulse_numbers_ok khz subframes signal offset) (cond (eqb n (16 * blocks_of khz subframes)) 0 6) 4

-- the pulses after a call, and its answer
pub record Pulsed : Type 0 where
  pub pulses : List ℤ
  pub answer : Decoded

abbrev pub pulsed : List ℤ → Decoded → Pulsed
pulsed p a = record { pulses = p; answer = a }

abbrev pub pulses_got : Got Excitation → Pulsed
pulses_got g = pulsed (flatten g.value.pulses) (gives 0 g.state)

abbrev pub pulses_rule : List ℕ → Dec → List ℤ → ℕ → ℕ → ℕ → ℕ → ℕ
pulses_rule b d p khz subframes signal offset = first_of (gate_r b d) (pulse_rule (length p) khz subframes signal offset)

unfoldable pub decode_pulses : List ℕ → Dec → List ℤ → ℕ → ℕ → ℕ → ℕ → Pulsed
decode_pulses b d p khz subframes signal offset =
    cond (eqb (pulses_rule b d p khz subframes signal offset) 0)
    (pulses_got (run b d (excitation signal offset (blocks_of khz subframes))))
    (pulsed p (refuses (pulses_rule b d p khz subframes signal offset) d))
