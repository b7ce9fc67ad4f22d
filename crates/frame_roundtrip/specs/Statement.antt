-- What "a written frame reads back" means, said of the public calls as document 01 has them, refusals included: a
-- list of calls, each of which writes a symbol, a frame's side indices or a frame's pulses, in any order, and the
-- calls that read with the same numbers; at the end the theorems, each a type that `proofs/Theorems` proves. Assumes
-- nothing.
use Rattle.std.specs.Prelude.{ℕ, suc, ◌*◌, ◌≤◌, ◌≡◌, Bool, cond, List, [], ◌∷◌, ◌++◌, eqb, ℤ, pos, nat_abs, length, take, drop}
use Rattle.entcode.specs.declared.Dec.{Dec}
use Rattle.entcode.specs.Models.{Sym}
use Rattle.entcode.specs.Cuts.{account}
use Rattle.entcode.specs.Flat.{Out, out}
use Rattle.entcode.specs.Reader.{Bytes}
use Rattle.entcode.specs.Reading.{dec_open, dec_sym}
use Rattle.entcode.specs.Writing.{Sent, enc_open, enc_sym, enc_done}
use Rattle.roundtrip.specs.Statement.{after, Sends, Tells, Right, Reads}
use Rattle.silk.specs.declared.Indices.{Indices}
use Rattle.silk.specs.declared.IndicesRead.{IndicesRead}
use Rattle.silk.specs.declared.Setting.{Setting}
use Rattle.silk.specs.IndexSyntax.{book_of}
use Rattle.silk.specs.Record.{Shape}
use Rattle.silk.specs.FrameCalls.{Pulsed, decode_indices, decode_pulses}
use Rattle.silk.specs.IndexWriting.{IndicesSent, encode_indices}
use Rattle.silk.specs.PulseWriting.{encode_pulses}

-- ---- writing

-- one call: a symbol; a record in a setting; pulses, with kHz, subframes, signal type, offset type and rate level
pub data Step : Type 0 where
  symbol : Sym → Step
  side_indices : Indices → Setting → Step
  pulses : List ℤ → ℕ → ℕ → ℕ → ℕ → ℕ → Step

-- the buffer and the state after a call that writes side indices
abbrev pub after_indices : IndicesSent → Out
after_indices x = out x.buf x.answer.state

-- the buffer and the state after a call
abbrev pub behind : Out → Step → Out
behind o (symbol s) = after (enc_sym o s)
behind o (side_indices x s) = after_indices (encode_indices o x s)
behind o (pulses p khz subframes signal offset rate) = after (encode_pulses o p khz subframes signal offset rate)

-- a call is accepted; a record's arrays have their lengths, as those of the code always do
abbrev pub Accepts : Out → Step → Type 0
Accepts o (symbol s) = (enc_sym o s).answer.refusal ≡ 0
Accepts o (side_indices x s) = Shape x × ((encode_indices o x s).answer.refusal ≡ 0)
Accepts o (pulses p khz subframes signal offset rate) =
    (encode_pulses o p khz subframes signal offset rate).answer.refusal ≡ 0

-- the calls ts, one after the other, are all accepted, and lead from o to q
abbrev pub StepsSent : Out → List Step → Out → Type 0
StepsSent o [] q = o ≡ q
StepsSent o (t ∷ ts) q = Accepts o t × StepsSent (behind o t) ts q

-- the symbols ss were written into the buffer b from opening on, by calls that lead to o
pub record Begun (b : List ℕ) (ss : List Sym) (o : Out) : Type 0 where
  pub bytes : Bytes b
  pub short : length b ≤ 1275
  pub sends : Sends (after (enc_open b)) ss o

-- finishing from q is accepted, and without error
pub record Finishes (q : Out) : Type 0 where
  pub accepted : (enc_done q).answer.refusal ≡ 0
  pub error : (enc_done q).answer.state.error ≡ pos 0

-- the calls ts were made into the buffer b from opening on, and finished without error; q is the state before finishing
pub record StepsWritten (b : List ℕ) (ts : List Step) (q : Out) : Type 0 where
  pub bytes : Bytes b
  pub short : length b ≤ 1275
  pub sends : StepsSent (after (enc_open b)) ts q
  pub finishes : Finishes q

-- ---- what is read

-- the first n of l, and behind them what m has
abbrev pub front : ℕ → List ℤ → List ℤ → List ℤ
front n l m = take n l ++ drop n m

abbrev pub voiced_in : Indices → Bool
voiced_in x = eqb (nat_abs x.signal) 2

-- the record z with the fields that the frame codes as x has them: gains and filters of its subframes, spectrum
-- places of its order, the pitch of a voiced frame (document 01, "Side indices")
unfoldable pub overlaid : Setting → Indices → Indices → Indices
overlaid s x z =
    record {
      gains = front s.subframes x.gains z.gains;
      ltp = cond (voiced_in x) (front s.subframes x.ltp z.ltp) z.ltp;
      nlsf = front (suc (book_of s.khz).order) x.nlsf z.nlsf;
      lag = cond (voiced_in x) x.lag z.lag;
      contour = cond (voiced_in x) x.contour z.contour;
      signal = x.signal;
      offset = x.offset;
      interp = x.interp;
      period = cond (voiced_in x) x.period z.period;
      scale = cond (voiced_in x) x.scale z.scale;
      seed = x.seed;
    }

-- a reader's answer to side indices is right: accepted, the record x over z, what the writer hands to the next frame,
-- and no error
pub record RightIndices (a : IndicesRead) (s : Setting) (x z : Indices) (w : IndicesSent) : Type 0 where
  pub refusal : a.refusal ≡ 0
  pub indices : a.indices ≡ overlaid s x z
  pub prevtype : a.prevtype ≡ w.answer.prevtype
  pub prevlag : a.prevlag ≡ w.answer.prevlag
  pub error : a.state.error ≡ 0

-- a reader's answer to pulses is right: the same pulses
pub record RightPulses (a : Pulsed) (p : List ℤ) : Type 0 where
  pub pulses : a.pulses ≡ p
  pub answer : Right a.answer 0

-- ---- reading

-- the calls that read with the numbers of ts from the reader d over the packet b are all right, o being the writer
-- before ts; whatever record and whatever slice of the same length the reader's caller hands in; and both accounts
-- are the same before the first call and after each
abbrev pub StepsRead : List ℕ → Dec → Out → List Step → Type 0
StepsRead b d o [] = Tells b d o
StepsRead b d o (symbol s ∷ ts) =
    Tells b d o
    × (Right (dec_sym b d s.model) s.value
    × StepsRead b (dec_sym b d s.model).state (after (enc_sym o s)) ts)
StepsRead b d o (side_indices x s ∷ ts) =
    Tells b d o
    × ((z : Indices) → Shape z
    → RightIndices (decode_indices b d z s) s x z (encode_indices o x s)
    × StepsRead b (decode_indices b d z s).state (after_indices (encode_indices o x s)) ts)
StepsRead b d o (pulses p khz subframes signal offset rate ∷ ts) =
    Tells b d o
    × ((v : List ℤ) → length v ≡ length p
    → RightPulses (decode_pulses b d v khz subframes signal offset) p
    × StepsRead b (decode_pulses b d v khz subframes signal offset).answer.state
    (after (encode_pulses o p khz subframes signal offset rate)) ts)

-- ---- behind symbols

-- a fresh reader of the packet
abbrev pub fresh : List ℕ → Dec
fresh b = (dec_open b).state

-- the reader behind calls that read with the models of ss
abbrev pub read_on : List ℕ → Dec → List Sym → Dec
read_on b d [] = d
read_on b d (s ∷ ss) = read_on b (dec_sym b d s.model).state ss

-- ---- a whole frame: side indices, then pulses of the type that they say

-- the writer behind the side indices, and the call that writes the pulses
abbrev pub typed_pulses : Out → Setting → Indices → List ℤ → ℕ → Sent
typed_pulses o s x p rate =
    encode_pulses (after_indices (encode_indices o x s)) p s.khz s.subframes
    (nat_abs x.signal) (nat_abs x.offset) rate

-- both calls are accepted
pub record FrameAccepts (o : Out) (s : Setting) (x : Indices) (p : List ℤ) (rate : ℕ) : Type 0 where
  pub shape : Shape x
  pub indices : (encode_indices o x s).answer.refusal ≡ 0
  pub pulses : (typed_pulses o s x p rate).answer.refusal ≡ 0

-- the call that reads pulses of the type that the side indices said
abbrev pub pulses_after : List ℕ → Setting → IndicesRead → List ℤ → Pulsed
pulses_after b s a v =
    decode_pulses b a.state v s.khz s.subframes (nat_abs a.indices.signal) (nat_abs a.indices.offset)

-- from the reader d over the packet b both are read as the writer wrote them from o, into any record z and any slice
-- v of the right length
pub record FrameRight (b : List ℕ) (d : Dec) (o : Out) (s : Setting) (x : Indices) (p : List ℤ) (rate : ℕ) (z : Indices)
    (v : List ℤ) : Type 0 where
  pub indices : RightIndices (decode_indices b d z s) s x z (encode_indices o x s)
  pub between : Tells b (decode_indices b d z s).state (after_indices (encode_indices o x s))
  pub pulses : RightPulses (pulses_after b s (decode_indices b d z s) v) p
  pub account : Tells b (pulses_after b s (decode_indices b d z s) v).answer.state (after (typed_pulses o s x p rate))

-- ---- the theorems

-- calls whose account at the end is at most 8 bits a byte are finished: accepted, and without error
abbrev pub StepsFit : Type 0
StepsFit =
    (b : List ℕ) (ts : List Step) (q : Out) → Bytes b → length b ≤ 1275 → StepsSent (after (enc_open b)) ts q
    → account q.state.total q.state.rng ≤ 8 * length b → StepsWritten b ts q

-- a fresh reader of the finished buffer, called with the same numbers, reads what the calls wrote
abbrev pub StepsBack : Type 0
StepsBack =
    (b : List ℕ) (ts : List Step) (q : Out) → StepsWritten b ts q
    → StepsRead (enc_done q).buf (fresh (enc_done q).buf) (after (enc_open b)) ts

-- the same behind symbols
abbrev pub StepsBehind : Type 0
StepsBehind =
    (b : List ℕ) (ss : List Sym) (ts : List Step) (o q : Out) → Begun b ss o → StepsSent o ts q → Finishes q
    → Reads (enc_done q).buf (fresh (enc_done q).buf) (after (enc_open b)) ss
    × StepsRead (enc_done q).buf (read_on (enc_done q).buf (fresh (enc_done q).buf) ss) o ts

-- pulses behind symbols, then finishing
abbrev pub PulsesBack : Type 0
PulsesBack =
    (b : List ℕ) (ss : List Sym) (o : Out) (p : List ℤ) (khz subframes signal offset rate : ℕ) → Begun b ss o
    → (let w = encode_pulses o p khz subframes signal offset rate in
    let c = (enc_done (after w)).buf in
    w.answer.refusal ≡ 0 → Finishes (after w)
    → Reads c (fresh c) (after (enc_open b)) ss
    × ((v : List ℤ) → length v ≡ length p → let a = decode_pulses c (read_on c (fresh c) ss) v khz subframes signal offset in
    RightPulses a p × Tells c a.answer.state (after w)))

-- side indices behind symbols, then finishing
abbrev pub IndicesBack : Type 0
IndicesBack =
    (b : List ℕ) (ss : List Sym) (o : Out) (x : Indices) (s : Setting) → Begun b ss o
    → (let w = encode_indices o x s in
    let c = (enc_done (after_indices w)).buf in
    Shape x → w.answer.refusal ≡ 0 → Finishes (after_indices w)
    → Reads c (fresh c) (after (enc_open b)) ss
    × ((z : Indices) → Shape z → let a = decode_indices c (read_on c (fresh c) ss) z s in
    RightIndices a s x z w × Tells c a.state (after_indices w)))

-- a whole frame behind symbols: the reader takes the type of the pulses from the side indices that it read
abbrev pub FrameBack : Type 0
FrameBack =
    (b : List ℕ) (ss : List Sym) (o : Out) (s : Setting) (x : Indices) (p : List ℤ) (rate : ℕ) → Begun b ss o
    → FrameAccepts o s x p rate
    → (let q = after (typed_pulses o s x p rate) in
    let c = (enc_done q).buf in
    Finishes q
    → Reads c (fresh c) (after (enc_open b)) ss
    × ((z : Indices) → Shape z → (v : List ℤ) → length v ≡ length p → FrameRight c (read_on c (fresh c) ss) o s x p rate z v))
