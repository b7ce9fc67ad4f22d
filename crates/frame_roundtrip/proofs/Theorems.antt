-- What was written of frames reads back: the theorems, over the public calls (`specs/Statement`). A reader starts here.
--
-- The argument. Accepted calls wrote their symbols, each of which may be written (Sent), so that a finished list of calls is a
-- finished list of symbols, of which a reader follows the writer (the room roundtrip). Through a part of such a list, behind any symbols and with any
-- behind, the reader gives the part's symbols and follows the writer on (Behind). A reader that gives a call's symbols has read what they mean (Read):
-- the same pulses, and the record laid over the one that the reader's caller gave (Overlaid, by trees that ask alike: Alike).
-- Assumes nothing.
use Prim.Native.Nat.{ℕ, ◌*◌, ◌≤◌}
use mathlib.Core.Path.{◌≡◌, refl, sym, ap, subst, subst⁻¹, subst₂, ◌∙◌}
use mathlib.Core.List.{List, [], ◌∷◌, ◌++◌, map}
use native.Mathlib.Omega.{arith}
use lib.IntN.{ℤ, nat_abs}
use lib.ListN.{length}
use Rattle.entcode.specs.declared.Dec.{Dec}
use Rattle.entcode.specs.declared.Decoded.{Decoded}
use Rattle.entcode.specs.Models.{Sym}
use Rattle.entcode.specs.Cuts.{account}
use Rattle.entcode.specs.Sound.{gate_w}
use Rattle.entcode.specs.Reader.{opened, read_next}
use Rattle.entcode.specs.Reading.{gives, dec_sym}
use Rattle.entcode.specs.Writer.{Writer, open_w, write_all}
use Rattle.entcode.specs.Finish.{finish}
use Rattle.entcode.specs.Flat.{Out, flat}
use Rattle.entcode.specs.Writing.{enc_open, enc_sym, enc_done}
use Rattle.entcode.proofs.WritingLaws.{done_accepted}
use Rattle.roundtrip.specs.Statement.{after, Sends, Written, Tells, Right, Reads, wrote_all}
use Rattle.roundtrip.proofs.ReadBack.{Follows, follows_beside, Any}
use Rattle.roundtrip.proofs.Round.{open_firm}
use Rattle.roundtrip.proofs.Accepted.{opens, done_gate}
use Rattle.roundtrip.proofs.Calls.{accepts_all, reader_gate, tells, symbol_read}
use Rattle.roundtrip.proofs.Public.{known, buf_is, opened_is, opened_error}
use Rattle.roundtrip.proofs.Theorems.{accepts, fits, follows_back}
use Rattle.silk.specs.declared.Indices.{Indices}
use Rattle.silk.specs.declared.IndicesRead.{IndicesRead}
use Rattle.silk.specs.declared.Setting.{Setting}
use Rattle.silk.specs.Record.{Shape}
use Rattle.silk.specs.FrameCalls.{Pulsed, decode_indices, decode_pulses}
use Rattle.silk.specs.IndexWriting.{IndicesSent, encode_indices}
use Rattle.silk.specs.PulseWriting.{encode_pulses}
use Rattle.frame_roundtrip.specs.Statement.{Step, symbol, side_indices, pulses, after_indices, StepsSent, Begun, Finishes, StepsWritten, RightIndices, RightPulses, StepsRead, fresh, read_on, typed_pulses, StepsFit, StepsBack, StepsBehind, PulsesBack, IndicesBack, FrameBack}
use Rattle.frame_roundtrip.proofs.Behind.{read_all, Gave, gave}
use Rattle.frame_roundtrip.proofs.Sent.{says, says_all, indices_took, indices_sent, pulses_took, step_gate, step_allowed, step_wrote, next_sent, steps_went}
use Rattle.frame_roundtrip.proofs.Read.{indices_read, same_type, same_offset, same_lag, pulses_given}

-- ---- calls that were accepted and finished are their symbols, written by a call each

pub steps_written : (b : List ℕ) (ts : List Step) (q : Out) → StepsWritten b ts q → Written b (says_all ts) q
steps_written b ts q r =
    let w = wrote_all b (says_all ts) in
    let g = steps_went ts (open_w b) q (subst (λ (o : Out). StepsSent o ts q) (opens b r.short) r.sends) in
    let low : w.total ≤ 1000000 = subst (λ (o : Out). o.state.total ≤ 1000000) g.end (done_accepted q r.finishes.accepted).low in
    record {
      bytes = r.bytes;
      short = r.short;
      sends = subst₂ (λ (o u : Out). Sends o (says_all ts) u) (sym (opens b r.short)) (sym g.end)
          (accepts_all (says_all ts) (open_w b) g.allowed (open_firm b) r.short low);
      accepted = r.finishes.accepted;
      error = r.finishes.error;
    }

-- ---- calls whose account at the end is at most 8 bits a byte are finished: accepted, and without error

pub steps_fit : StepsFit
steps_fit b ts q y short h l =
    let w = wrote_all b (says_all ts) in
    let g = steps_went ts (open_w b) q (subst (λ (o : Out). StepsSent o ts q) (opens b short) h) in
    let a : account w.total w.front.rng ≤ 8 * length b
    = subst (λ (o : Out). account o.state.total o.state.rng ≤ 8 * length b) g.end l in
    let f = fits b (says_all ts) (flat w) short (accepts b (says_all ts) short g.allowed a) a in
    record {
      bytes = y;
      short = short;
      sends = h;
      finishes = subst⁻¹ Finishes g.end (record { accepted = f.0; error = f.1 });
    }

-- ---- over the packet b: a reader that follows the writer reads the calls, up to q

module _ (b : List ℕ) (q : Out) (fin : (enc_done q).answer.refusal ≡ 0) where
  gate_next : (ts : List Step) (o : Out) → StepsSent o ts q → gate_w o.buf o.state ≡ 0
  gate_next [] o h = subst⁻¹ (λ (x : Out). gate_w x.buf x.state ≡ 0) h (done_gate q fin)
  gate_next (t ∷ ts) o h = step_gate o t h.0

  steps_read : (ts : List Step) (d : Dec) (w : Writer) → StepsSent (flat w) ts q → d.error ≡ 0 → Follows Any b d w (says_all ts)
      → StepsRead b d (flat w) ts
  steps_read [] d w h e f = tells b d w f (gate_next [] (flat w) h)
  steps_read (symbol s ∷ ts) d w h e f =
      let g = gate_next (symbol s ∷ ts) (flat w) h in
      let a = step_allowed w (symbol s) h.0 in
      let u = follows_beside Any b d w (s ∷ says_all ts) f in
      let k : Gave b d w (s ∷ []) (says_all ts) = gave b (s ∷ []) (says_all ts) d w e f in
      let n = read_next b s.model d in (
        tells b d w u g,
        subst₂ (λ (c : Decoded) (o : Out). Right c s.value × StepsRead b c.state o ts)
            (sym (symbol_read b d s.model (reader_gate b d w u g) a.0.readable)) (sym (step_wrote w (symbol s) h.0)) (
              record { refusal = refl; value = k.gives.0; error = k.error },
              steps_read ts n (write_all w (s ∷ [])) (next_sent w (symbol s) ts q h) k.error k.rest,
            ),
      )
  steps_read (side_indices x s ∷ ts) d w h e f =
      let g = gate_next (side_indices x s ∷ ts) (flat w) h in
      let t = indices_took (flat w) x s h.0.1 in
      let l = says (side_indices x s) in
      let u = follows_beside Any b d w (l ++ says_all ts) f in
      let k = gave b l (says_all ts) d w e f in
      let n = read_all b d l in (
        tells b d w u g,
        λ z i.
            subst₂ (λ (c : IndicesRead) (m : IndicesSent). RightIndices c s x z m × StepsRead b c.state (after_indices m) ts)
            (sym (indices_read s x z b d n (reader_gate b d w u g) t.setting t.said h.0.0 i k.gives)) (sym (indices_sent w x s h.0.1)) (
              record {
                refusal = refl;
                indices = refl;
                prevtype = same_type s x z;
                prevlag = same_lag s x z;
                error = k.error;
              },
              steps_read ts n (write_all w l) (next_sent w (side_indices x s) ts q h) k.error k.rest,
            ),
      )
  steps_read (pulses p khz subframes signal offset rate ∷ ts) d w h e f =
      let j = pulses p khz subframes signal offset rate in
      let g = gate_next (j ∷ ts) (flat w) h in
      let t = pulses_took p khz subframes signal offset rate (flat w) h.0 in
      let u = follows_beside Any b d w (says j ++ says_all ts) f in
      let k = gave b (says j) (says_all ts) d w e f in
      let n = read_all b d (says j) in (
        tells b d w u g,
        λ v i.
            subst₂ (λ (c : Pulsed) (o : Out). RightPulses c p × StepsRead b c.answer.state o ts)
            (sym (pulses_given p khz subframes signal offset rate (flat w) t b d n v (reader_gate b d w u g) i k.gives)) (sym (step_wrote w j h.0)) (
              record { pulses = refl; answer = record { refusal = refl; value = refl; error = k.error } },
              steps_read ts n (write_all w (says j)) (next_sent w j ts q h) k.error k.rest,
            ),
      )

-- ---- it reads back

pub steps_back : StepsBack
steps_back b ts q r =
    let k = known b (says_all ts) q (steps_written b ts q r) in
    let c = (finish (wrote_all b (says_all ts))).buf in
    let short : length c ≤ 1275 = omega (arith, k.len, r.short) in
    let f = follows_back b (says_all ts) r.bytes r.short k.allowed k.error in
    subst₂ (λ (l : List ℕ) (o : Out). StepsRead l (fresh l) o ts) (sym (buf_is b (says_all ts) q k)) (sym (opens b r.short))
    (subst⁻¹ (λ (d : Dec). StepsRead c d (flat (open_w b)) ts) (opened_is c short)
    (steps_read c q r.finishes.accepted ts (opened c) (open_w b) (subst (λ (o : Out). StepsSent o ts q) (opens b r.short) r.sends)
    (opened_error c) f))

-- ---- the same behind symbols

sends_first : (ss : List Sym) (ts : List Step) (o m q : Out) → Sends o ss m → StepsSent m ts q → StepsSent o (map symbol ss ++ ts) q
sends_first [] ts o m q h k = subst⁻¹ (λ (x : Out). StepsSent x ts q) h k
sends_first (s ∷ ss) ts o m q h k = (h.0, sends_first ss ts (after (enc_sym o s)) m q h.1 k)

tells_first : (b : List ℕ) (ts : List Step) (d : Dec) (o : Out) → StepsRead b d o ts → Tells b d o
tells_first b [] d o r = r
tells_first b (symbol s ∷ ts) d o r = r.0
tells_first b (side_indices x s ∷ ts) d o r = r.0
tells_first b (pulses p khz subframes signal offset rate ∷ ts) d o r = r.0

reads_first : (b : List ℕ) (ss : List Sym) (ts : List Step) (d : Dec) (o m : Out) → Sends o ss m → StepsRead b d o (map symbol ss ++ ts)
    → Reads b d o ss × StepsRead b (read_on b d ss) m ts
reads_first b [] ts d o m h r = (tells_first b ts d o r, subst (λ (x : Out). StepsRead b d x ts) h r)
reads_first b (s ∷ ss) ts d o m h r =
    let p = reads_first b ss ts (dec_sym b d s.model).state (after (enc_sym o s)) m h.1 r.1.1 in
    ((r.0, (r.1.0, p.0)), p.1)

pub steps_behind : StepsBehind
steps_behind b ss ts o q r h f =
    let s = sends_first ss ts (after (enc_open b)) o q r.sends h in
    reads_first (enc_done q).buf ss ts (fresh (enc_done q).buf) (after (enc_open b)) o r.sends
    (steps_back b (map symbol ss ++ ts) q (record { bytes = r.bytes; short = r.short; sends = s; finishes = f }))

-- ---- one call behind symbols, then finishing

pub pulses_back : PulsesBack
pulses_back b ss o p khz subframes signal offset rate r z f =
    let k = steps_behind b ss (pulses p khz subframes signal offset rate ∷ []) o _ r (z, refl) f in
    (k.0, k.1.1)

pub indices_back : IndicesBack
indices_back b ss o x s r h z f =
    let k = steps_behind b ss (side_indices x s ∷ []) o _ r ((h, z), refl) f in
    (k.0, k.1.1)

-- ---- a whole frame behind symbols: the reader takes the type of the pulses from the side indices that it read

pub frame_back : FrameBack
frame_back b ss o s x p rate r h f =
    let l = pulses p s.khz s.subframes (nat_abs x.signal) (nat_abs x.offset) rate ∷ [] in
    let k = steps_behind b ss (side_indices x s ∷ l) o _ r ((h.shape, h.indices), (h.pulses, refl)) f in (
      k.0,
      λ z i v j.
          let c = (enc_done (after (typed_pulses o s x p rate))).buf in
          let a = decode_indices c (read_on c (fresh c) ss) z s in
          let e = k.1.1 z i in
          let t = ap (λ (y : Indices). nat_abs y.signal) e.0.indices ∙ same_type s x z in
          let u = ap (λ (y : Indices). nat_abs y.offset) e.0.indices ∙ same_offset s x z in
          let g = subst₂ (λ (m n : ℕ). RightPulses (decode_pulses c a.state v s.khz s.subframes m n) p
          × Tells c (decode_pulses c a.state v s.khz s.subframes m n).answer.state (after (typed_pulses o s x p rate))) (sym t) (sym u) (e.1.1 v j) in
          record { indices = e.0; between = e.1.0; pulses = g.0; account = g.1 },
    )
