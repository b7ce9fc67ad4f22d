-- What was written reads back: the theorems, over the public calls (`specs/Statement`). A reader starts here.
--
-- The argument, by the parts that the other files name. The coded bytes are a number to the base 256 (1, Digits); a digit that goes out with a carry
-- changes it as it should, because a carry always finds a held byte below 255 (2, Carry); raw bytes are the same number's low end (3, Back). Symbols
-- narrow an interval of such numbers (4, Interval), and a writer that has not dropped a byte stands at that interval (5, Progress; 6, Track). A packet
-- within the last interval lies within all before it (7, Within). Finishing fixes bits so that what follows cannot leave the interval (8, Choose), closes the
-- buffer (9, Close; 10, Finished), and leaves bytes (11, Bytes). The reader stands at the interval too, so it finds the writer's part (12, Stands), and
-- its window is the raw number (13, RawRead); so it reads one symbol (14, OneRead), and a list (15, ReadBack). Both halves over the definitions are in
-- 16, Round; 17 to 19, Accepted, Calls and Public, lead from there to the calls.
-- Assumes nothing.
use Prim.Native.Nat.{ℕ, ◌+◌, ◌*◌, ◌/◌, ◌%◌, ◌≤◌, ◌<◌}
use mathlib.Core.Path.{◌≡◌, sym, ap, ◌∙◌, subst, subst⁻¹, subst₂}
use mathlib.Core.List.{List}
use native.Mathlib.Omega.{arith}
use lib.IntN.{pos}
use lib.ListN.{length, get_or, take}
use Rattle.entcode.specs.declared.Dec.{Dec}
use Rattle.entcode.specs.declared.Decoded.{Decoded}
use Rattle.entcode.specs.Models.{Sym}
use Rattle.entcode.specs.Cuts.{account}
use Rattle.entcode.specs.Reader.{opened, Bytes}
use Rattle.entcode.specs.Reading.{dec_open}
use Rattle.entcode.specs.Writer.{Writer, open_w}
use Rattle.entcode.specs.Finish.{finish}
use Rattle.entcode.specs.Flat.{error_of, Out, flat}
use Rattle.entcode.specs.Writing.{Sent, enc_open, enc_done}
use Rattle.roundtrip.specs.Statement.{AllAllowed, after, Sends, Written, Reads, InStep, CodedReads, wrote_all, Accepts, Fits, FinishedBytes, FinishedLength, FinishedTotal, FinishedOpens, MiddleZero, ReadsBack, FitsReads, AnswersBack, StaysInStep, FrontDecides}
use Rattle.roundtrip.proofs.Interval.{run_i, open_i, raw_number}
use Rattle.roundtrip.proofs.Track.{View}
use Rattle.roundtrip.proofs.Finished.{total_bytes}
use Rattle.roundtrip.proofs.Bytes.{bytes_writes}
use Rattle.roundtrip.proofs.ReadBack.{Follows, Any, view_finished, view_follows, view_follows_coded}
use Rattle.roundtrip.proofs.Round.{no_error, written_view, open_firm}
use Rattle.roundtrip.proofs.Accepted.{opens, done_accepted, done_gate}
use Rattle.roundtrip.proofs.Calls.{went, accepts_all, opens_reader, reads_of, coded_of, in_step_of, answers_of}
use Rattle.roundtrip.proofs.Public.{sent, total_low, done_fits, known, buf_is, offs_is, opened_is, opened_error}

-- ---- allowed symbols whose account is at most 8 bits a byte are written: no call is refused

pub accepts : Accepts
accepts b ss short ok l =
    let w = wrote_all b ss in
    subst⁻¹ (λ (o : Out). Sends o ss (flat w)) (opens b short)
    (accepts_all ss (open_w b) ok (open_firm b) short (total_low (length b) w.total w.front.rng short l))

-- ---- what was written with such an account is finished: accepted, and without error

pub fits : Fits
fits b ss q short h l =
    let g = went ss (open_w b) q (sent b ss q short h) in
    let w = wrote_all b ss in
    let a : account w.total w.front.rng ≤ 8 * length b
    = subst (λ (x : Out). account x.state.total x.state.rng ≤ 8 * length b) g.end l in
    let z : (enc_done (flat w)).answer.refusal ≡ 0 = done_fits b ss short g.allowed a in
    subst⁻¹ (λ (x : Out). ((enc_done x).answer.refusal ≡ 0) × ((enc_done x).answer.state.error ≡ pos 0)) g.end
    (z, ap (λ (x : Sent). x.answer.state.error) (done_accepted w z) ∙ ap error_of (no_error b ss g.allowed a))

-- ---- the finished buffer holds bytes, has the old length, took no more bits than it has, but for 40, and opens

pub finished_bytes : FinishedBytes
finished_bytes b ss q r = let k = known b ss q r in subst⁻¹ Bytes (buf_is b ss q k) k.bytes

pub finished_length : FinishedLength
finished_length b ss q r = let k = known b ss q r in ap length (buf_is b ss q k) ∙ k.len

pub finished_total : FinishedTotal
finished_total b ss q r =
    let k = known b ss q r in
    let e : q.state.total ≡ (wrote_all b ss).total = ap (λ (x : Out). x.state.total) k.before in
    omega (arith, total_bytes (wrote_all b ss) k.view.fine k.finished, k.view.len)

pub finished_opens : FinishedOpens
finished_opens b ss q r =
    ap (λ (a : Decoded). a.refusal) (opens_reader (enc_done q).buf (omega (arith, finished_length b ss q r, r.short)))

-- ---- over the definitions, for calls that write or read many symbols at once: a reader of the finished buffer follows the writer, symbol by symbol

pub follows_back : (b : List ℕ) (ss : List Sym) → Bytes b → length b ≤ 1275 → AllAllowed ss → (finish (wrote_all b ss)).err ≡ 0
    → Follows Any (finish (wrote_all b ss)).buf (opened (finish (wrote_all b ss)).buf) (open_w b) ss
follows_back b ss y short ok z =
    let w = wrote_all b ss in
    let v = written_view b ss ok z in
    let f = view_finished ss ok w (length b) v z in
    view_follows ss ok w (length b) v z (bytes_writes ss (open_w b) y) (omega (arith, f.len, v.len)) b

-- ---- over the calls: it reads back

-- the core: from any writer w that stands where the symbols lead, however it came there, and is finished without error
pub reads_view : (c : List ℕ) (ss : List Sym) (q : Out) → Sends (flat (open_w c)) ss q → (enc_done q).answer.refusal ≡ 0
    → (w : Writer) (n : ℕ) → View w (run_i open_i ss) (λ X. raw_number ss X) n → Bytes w.tail.room.buf
    → (finish w).err ≡ 0 → length (finish w).buf ≤ 1275
    → Reads (finish w).buf (dec_open (finish w).buf).state (flat (open_w c)) ss
reads_view c ss q h e w n v y z short =
    let b = (finish w).buf in
    subst⁻¹ (λ (d : Dec). Reads b d (flat (open_w c)) ss) (opened_is b short)
    (reads_of b ss (opened b) (open_w c) q h (done_gate q e) (opened_error b)
    (view_follows ss (went ss (open_w c) q h).allowed w n v z y short c))

pub reads_back : ReadsBack
reads_back b ss q r =
    let k = known b ss q r in
    subst₂ (λ (l : List ℕ) (o : Out). Reads l (dec_open l).state o ss) (sym (buf_is b ss q k)) (sym (opens b r.short))
    (reads_view b ss q k.sends r.accepted (wrote_all b ss) (length b) k.view k.old k.error (omega (arith, k.len, r.short)))

-- an account that fits reads back
pub fits_reads : FitsReads
fits_reads b ss q y short h l =
    let f = fits b ss q short h l in
    reads_back b ss q (record { bytes = y; short = short; sends = h; accepted = f.0; error = f.1 })

-- ---- also where each next question depends on the values read so far

pub answers_back : AnswersBack
answers_back b ss q r t l =
    answers_of (enc_done q).buf ss t (dec_open (enc_done q).buf).state (after (enc_open b)) l (reads_back b ss q r)

-- ---- reader and writer have the same range and total after each symbol

pub in_step : StaysInStep
in_step b ss q r =
    let k = known b ss q r in
    let w = wrote_all b ss in
    let c = (finish w).buf in
    let short : length c ≤ 1275 = omega (arith, k.len, r.short) in
    let f : Follows Any c (opened c) (open_w b) ss = follows_back b ss r.bytes r.short k.allowed k.error in
    subst₂ (λ (l : List ℕ) (o : Out). InStep l (dec_open l).state o ss) (sym (buf_is b ss q k)) (sym (opens b r.short))
    (subst⁻¹ (λ (d : Dec). InStep c d (flat (open_w b)) ss) (opened_is c short) (in_step_of c ss (opened c) (open_w b) q k.sends f))

-- ---- the bytes behind the coded ones and before the raw ones are 0; where raw bits are left over, one byte more is raw: (bits % 8 + 7) / 8

pub middle_zero : MiddleZero
middle_zero b ss q r i x y =
    let k = known b ss q r in
    let f = k.finished in
    let w = wrote_all b ss in
    let o : (enc_done q).answer.state.offs ≡ (finish w).offs = offs_is b ss q k in
    let e : (enc_done q).answer.state.endoffs ≡ (finish w).end = ap (λ (a : Sent). a.answer.state.endoffs) k.is in
    let u : q.state.wbits ≡ w.tail.used = ap (λ (a : Out). a.state.wbits) k.before in
    ap (λ (l : List ℕ). get_or l i 0) (buf_is b ss q k) ∙ f.free i (omega arith) (omega (arith, f.used, k.len))

-- ---- any packet that begins with the coded bytes of the finished buffer gives the same coded symbols

pub front_decides : FrontDecides
front_decides b ss q r c y short l e =
    let k = known b ss q r in
    let w = wrote_all b ss in
    let o : (enc_done q).answer.state.offs ≡ (finish w).offs = offs_is b ss q k in
    let t : take (finish w).offs c ≡ take (finish w).offs (finish w).buf
    = subst₂ (λ (n : ℕ) (x : List ℕ). take n c ≡ take n x) o (buf_is b ss q k) e in
    subst₂ (λ (d : Dec) (x : Out). CodedReads c d x ss) (sym (opened_is c short)) (sym (opens b r.short))
    (coded_of c ss (opened c) (open_w b) q k.sends
    (view_follows_coded ss k.allowed w (length b) k.view k.error c y short (omega arith) t b))
