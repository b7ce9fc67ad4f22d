-- The worked cases of document 01, P1 to P13 and every case of its line "Run", as one list over the definitions of the
-- public calls; and the vector behind P12's first move, over the definition of a move, which no call shows.
-- `proofs/Cases` proves that all hold. Assumes nothing.
use Rattle.std.specs.Prelude.{ℕ, ◌≡◌, List, [], ◌∷◌, ◌++◌, ℤ, pos, negsuc, replicate}
use Rattle.entcode.specs.declared.Dec.{Dec}
use Rattle.entcode.specs.Models.{Model, bit, raw, num, Sym}
use Rattle.entcode.specs.Flat.{Out, out}
use Rattle.entcode.specs.Reading.{dec_sym, dec_tell, dec_open}
use Rattle.entcode.specs.Writing.{Sent, enc_sym, enc_done, enc_tell, enc_open}
use Rattle.spectrum.specs.Calls.{Called, called, stabilise_call}
use Rattle.spectrum.specs.Distances.{place, move}
use Rattle.silk.specs.declared.Indices.{Indices}
use Rattle.silk.specs.declared.Setting.{Setting}
use Rattle.silk.specs.Record.{made}
use Rattle.silk.specs.FrameCalls.{decode_indices}
use Rattle.silk.specs.PulseWriting.{encode_pulses}

-- what a call shows: its refusal and its value, and the account that the account call answers after it
pub record Shown : Type 0 where
  pub refusal : ℕ
  pub value : ℕ
  pub account : ℕ

-- what is done
pub data Case : Type 0 where
  -- bytes opened as a packet, and as a buffer
  opens : List ℕ → Case
  -- a packet opened and read with the models in turn
  reads : List ℕ → List Model → Case
  -- a packet opened and its side indices read into a record
  side_indices : List ℕ → Indices → Setting → Case
  -- symbols written from opening a buffer, and finished
  finishes : List ℕ → List Sym → Case
  -- symbols written from opening a buffer, for the byte that is held then
  holds_back : List ℕ → List Sym → Case
  -- symbols written from opening a buffer, for what each is refused with
  writes : List ℕ → List Sym → Case
  -- pulses written from opening a buffer: 8 kHz, 2 subframes, signal and offset type 0, rate level 0
  pulses : List ℕ → List ℤ → Case
  -- the account asked for then
  tells : List ℕ → List Sym → Case
  -- a vector stabilised by gaps
  stabilises : List ℤ → List ℤ → Case
  -- its first move
  moves : List ℤ → List ℤ → Case

-- what comes of it
pub data Outcome : Type 0 where
  -- what opening and each read show
  shows : List Shown → Outcome
  -- the refusals of calls
  refusals : List ℕ → Outcome
  -- refusal and record of side indices, and the previous type and lag for the next frame
  record_read : ℕ → Indices → ℕ → ℤ → Outcome
  -- the refusal, the bytes and the error of finishing
  bytes : ℕ → List ℕ → ℤ → Outcome
  -- the held byte, and the refusal of a next bit 0 of exponent 1
  holds : ℤ → ℕ → Outcome
  tell : ℕ → Outcome
  vector : Called → Outcome
  moved : List ℤ → Outcome

-- ---- a case, computed from the definitions of the calls

abbrev read_in : List ℕ → Dec → List Model → List Shown
read_in b d [] = []
read_in b d (m ∷ ms) =
    record { refusal = (dec_sym b d m).refusal; value = (dec_sym b d m).value; account = (dec_tell b (dec_sym b d m).state).value } ∷
    read_in b (dec_sym b d m).state ms

abbrev opened_reads : List ℕ → List Model → List Shown
opened_reads b ms =
    record { refusal = (dec_open b).refusal; value = (dec_open b).value; account = (dec_tell b (dec_open b).state).value } ∷
    read_in b (dec_open b).state ms

-- what a call leaves
abbrev after : Sent → Out
after s = out s.buf s.answer.state

abbrev write_in : Out → List Sym → Out
write_in o [] = o
write_in o (s ∷ ss) = write_in (after (enc_sym o s)) ss

abbrev refused_in : Out → List Sym → List ℕ
refused_in o [] = []
refused_in o (s ∷ ss) = (enc_sym o s).answer.refusal ∷ refused_in (after (enc_sym o s)) ss

abbrev bit_of : ℕ → ℕ → Sym
bit_of v lp = record { model = bit lp; value = v }

abbrev raw_of : ℕ → ℕ → Sym
raw_of v n = record { model = raw n; value = v }

abbrev pub computed : Case → Outcome
computed (opens b) = refusals ((dec_open b).refusal ∷ (enc_open b).answer.refusal ∷ [])
computed (reads b ms) = shows (opened_reads b ms)
computed (side_indices b x s) =
    let a = decode_indices b (dec_open b).state x s in record_read a.refusal a.indices a.prevtype a.prevlag
computed (finishes b ss) =
    let a = enc_done (write_in (after (enc_open b)) ss) in bytes a.answer.refusal a.buf a.answer.state.error
computed (writes b ss) = refusals (refused_in (after (enc_open b)) ss)
computed (pulses b p) = refusals ((encode_pulses (after (enc_open b)) p 8 2 0 0 0).answer.refusal ∷ [])
computed (holds_back b ss) =
    let o = write_in (after (enc_open b)) ss in holds o.state.rem (enc_sym o (bit_of 0 1)).answer.refusal
computed (tells b ss) = tell (enc_tell (write_in (after (enc_open b)) ss)).answer.value
computed (stabilises g v) = vector (stabilise_call v g)
computed (moves g v) = moved (move g v (place g v))

-- ---- the list

pub record Worked : Type 0 where
  pub case : Case
  pub outcome : Outcome

abbrev gives : Case → Outcome → Worked
gives c o = record { case = c; outcome = o }

abbrev shown : ℕ → ℕ → Shown
shown v n = record { refusal = 0; value = v; account = n }

-- a packet just opened
abbrev opening : Shown
opening = shown 0 1

unfoldable pub reader_cases : List Worked
reader_cases =
    -- P1, P2: an empty packet shows 1; a bit of exponent 1 is 0, and shows 2
    gives (reads [] (bit 1 ∷ [])) (shows (opening ∷ shown 0 2 ∷ [])) ∷
    -- P3: packet FF, exponent 8: 1, account 9
    gives (reads (255 ∷ []) (bit 8 ∷ [])) (shows (opening ∷ shown 1 9 ∷ [])) ∷
    -- P4: packet FF, exponent 9: 0
    gives (reads (255 ∷ []) (bit 9 ∷ [])) (shows (opening ∷ shown 0 2 ∷ [])) ∷
    -- P5: packet A5: raw 4 bits give 5, raw 4 more give 10
    gives (reads (165 ∷ []) (raw 4 ∷ raw 4 ∷ [])) (shows (opening ∷ shown 5 5 ∷ shown 10 9 ∷ [])) ∷
    []

unfoldable pub writer_cases : List Worked
writer_cases =
    -- P6: a buffer of 2, bit 1 of exponent 1: 80 00; P7: a buffer of 1, at once: 00; P8: a buffer of 0, bit 0: error -1
    gives (finishes (7 ∷ 7 ∷ []) (bit_of 1 1 ∷ [])) (bytes 0 (128 ∷ 0 ∷ []) (pos 0)) ∷
    gives (finishes (7 ∷ []) []) (bytes 0 (0 ∷ []) (pos 0)) ∷
    gives (finishes [] (bit_of 0 1 ∷ [])) (bytes 0 [] (negsuc 0)) ∷
    -- a fresh writer's account is 1 too
    gives (tells (7 ∷ 7 ∷ []) []) (tell 1) ∷
    []

abbrev gaps : List ℤ
gaps = pos 10 ∷ pos 5 ∷ pos 20 ∷ []

abbrev small_gaps : List ℤ
small_gaps = pos 0 ∷ pos 3 ∷ pos 1 ∷ []

unfoldable pub spectrum_cases : List Worked
spectrum_cases =
    -- P9 to P11: gaps 10 5 20
    gives (stabilises gaps (pos 10 ∷ pos 15 ∷ [])) (vector (called (pos 10 ∷ pos 15 ∷ []) 0 0)) ∷
    gives (stabilises gaps (pos 100 ∷ pos 50 ∷ [])) (vector (called (pos 73 ∷ pos 78 ∷ []) 0 1)) ∷
    gives (stabilises gaps (pos 0 ∷ pos 0 ∷ [])) (vector (called (pos 10 ∷ pos 15 ∷ []) 0 2)) ∷
    -- P12 as document 02, item 6, has it: gaps 0 3 1: the first move makes 32,765 and 32,768, 20 moves and the fallback
    -- give (32764, 32767); document 01's own numbers, of the crate's stores, stand in `spectrum/proofs/Cases`
    gives (moves small_gaps (pos 32767 ∷ pos 32767 ∷ [])) (moved (pos 32765 ∷ pos 32768 ∷ [])) ∷
    gives (stabilises small_gaps (pos 32767 ∷ pos 32767 ∷ [])) (vector (called (pos 32764 ∷ pos 32767 ∷ []) 0 20)) ∷
    []

-- 8 kHz, 2 subframes, active, conditional, behind a voiced frame of the lag 32,767
abbrev behind_voiced : Setting
behind_voiced = record { khz = 8; subframes = 2; active = 1; mode = 2; prevtype = 2; prevlag = pos 32767 }

-- a record of sevens, which stay where the frame reads nothing
abbrev sevens : Indices
sevens =
    made (replicate 4 (pos 7)) (replicate 4 (pos 7)) (replicate 17 (pos 7)) (pos 7) (pos 7) (pos 7) (pos 7) (pos 7) (pos 7) (pos 7) (pos 7)

-- what the packet D7 A5 says behind that frame: voiced, the delta's symbol 20
abbrev lag_wrapped : Indices
lag_wrapped =
    record {
      gains = pos 5 ∷ pos 11 ∷ replicate 2 (pos 7);
      ltp = pos 8 ∷ pos 17 ∷ replicate 2 (pos 7);
      nlsf =
          pos 8 ∷ pos 0 ∷ negsuc 0 ∷ pos 0 ∷ negsuc 1 ∷ negsuc 1 ∷ pos 1 ∷ negsuc 0 ∷ pos 2 ∷ negsuc 4 ∷ pos 1 ∷ replicate 6 (pos 7);
      lag = negsuc 32757;
      contour = pos 1;
      signal = pos 2;
      offset = pos 0;
      interp = pos 4;
      period = pos 2;
      scale = pos 0;
      seed = pos 2;
    }

unfoldable pub lag_cases : List Worked
lag_cases =
    -- P13: previous lag 32,767, delta 11: -32,758, in the record and handed on
    gives (side_indices (215 ∷ 165 ∷ []) sevens behind_voiced) (record_read 0 lag_wrapped 2 (negsuc 32757)) ∷
    []

-- one pulse in a frame of 80
abbrev one_pulse : ℕ → List ℤ
one_pulse n = pos n ∷ replicate 79 (pos 0)

-- the line "Run"
unfoldable pub run_cases : List Worked
run_cases =
    -- held byte 255, and the next write is accepted
    gives (holds_back (7 ∷ 7 ∷ 7 ∷ 7 ∷ []) (bit_of 0 15 ∷ record { model = num 256; value = 1 } ∷ bit_of 1 9 ∷ [])) (holds (pos 255) 0) ∷
    -- a pulse of 17,408 is refused with 8, one of 17,407 is not
    gives (pulses (7 ∷ []) (one_pulse 17407)) (refusals (0 ∷ [])) ∷
    gives (pulses (7 ∷ []) (one_pulse 17408)) (refusals (8 ∷ [])) ∷
    -- raw bits: 25 are read and written, 26 refused with 4
    gives (reads [] (raw 25 ∷ raw 26 ∷ [])) (shows (opening ∷ shown 0 26 ∷ record { refusal = 4; value = 0; account = 26 } ∷ [])) ∷
    gives (writes (7 ∷ []) (raw_of 0 25 ∷ raw_of 0 26 ∷ [])) (refusals (0 ∷ 4 ∷ [])) ∷
    -- gaps of 32,768 in all are accepted, of 32,769 refused with 7
    gives (stabilises (pos 16000 ∷ pos 16000 ∷ pos 768 ∷ []) (pos 16000 ∷ pos 32000 ∷ []))
    (vector (called (pos 16000 ∷ pos 32000 ∷ []) 0 0)) ∷
    gives (stabilises (pos 16000 ∷ pos 16000 ∷ pos 769 ∷ []) (pos 16000 ∷ pos 32000 ∷ []))
    (vector (called (pos 16000 ∷ pos 32000 ∷ []) 7 0)) ∷
    -- a packet and a buffer of 1,275 bytes are opened, of 1,276 refused with 1
    gives (opens (replicate 1275 7)) (refusals (0 ∷ 0 ∷ [])) ∷
    gives (opens (replicate 1276 7)) (refusals (1 ∷ 1 ∷ [])) ∷
    []

abbrev pub cases : List Worked
cases = reader_cases ++ (writer_cases ++ (spectrum_cases ++ (lag_cases ++ run_cases)))

-- ---- the theorem: each case computes to its outcome

abbrev pub AllHold : List Worked → Type 0
AllHold [] = Unit {0}
AllHold (w ∷ ws) = (computed w.case ≡ w.outcome) × AllHold ws

abbrev pub CasesHold : Type 0
CasesHold = AllHold cases
