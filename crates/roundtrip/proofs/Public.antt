-- What a list written by public calls, and finished, says of the definitions. Part 19, the last of the argument. Assumes nothing.
use Prim.Native.Nat.{ℕ, ◌*◌, ◌≤◌}
use mathlib.Core.Path.{◌≡◌, refl, sym, ap, ◌∙◌, subst}
use mathlib.Core.List.{List}
use native.Mathlib.Omega.{arith}
use lib.ListN.{length}
use Rattle.bitlen.proofs.LengthLaws.{length_most}
use Rattle.entcode.specs.declared.Decoded.{Decoded}
use Rattle.entcode.specs.Models.{Sym}
use Rattle.entcode.specs.Cuts.{account}
use Rattle.entcode.specs.Reader.{settled, opened, Bytes}
use Rattle.entcode.specs.Reading.{dec_open}
use Rattle.entcode.specs.Writer.{Writer, open_w, write_all}
use Rattle.entcode.specs.Finish.{finish, finish_w}
use Rattle.entcode.specs.Flat.{Out, flat}
use Rattle.entcode.specs.Writing.{Sent, takes, enc_open, enc_done}
use Rattle.roundtrip.specs.Statement.{AllAllowed, after, Sends, Written, wrote_all}
use Rattle.roundtrip.proofs.Interval.{run_i, open_i, raw_number}
use Rattle.roundtrip.proofs.Track.{View}
use Rattle.roundtrip.proofs.Bytes.{bytes_writes}
use Rattle.roundtrip.proofs.Finished.{Finished}
use Rattle.roundtrip.proofs.ReadBack.{view_finished, view_bytes}
use Rattle.roundtrip.proofs.Round.{written_view, open_firm, firm_all}
use Rattle.roundtrip.proofs.Accepted.{error_none, firm_passes, opens, done_accepted, done_passes}
use Rattle.roundtrip.proofs.Calls.{Went, went, opens_reader}

-- ---- before finishing

pub sent : (b : List ℕ) (ss : List Sym) (q : Out) → length b ≤ 1275 → Sends (after (enc_open b)) ss q → Sends (flat (open_w b)) ss q
sent b ss q short h = subst (λ (o : Out). Sends o ss q) (opens b short) h

pub total_low : (n total rng : ℕ) → n ≤ 1275 → account total rng ≤ 8 * n → total ≤ 1000000
unfolding account
total_low n total rng h l = omega (arith, length_most rng)

-- a writer whose account fits is sound, and its total low: finishing is accepted
pub done_fits : (b : List ℕ) (ss : List Sym) → length b ≤ 1275 → AllAllowed ss
    → account (wrote_all b ss).total (wrote_all b ss).front.rng ≤ 8 * length b → (enc_done (flat (wrote_all b ss))).answer.refusal ≡ 0
done_fits b ss short ok l =
    let w = wrote_all b ss in
    let f = firm_all ss (open_w b) ok (open_firm b) in
    done_passes w (firm_passes w f.firm (omega (arith, f.len)) (total_low (length b) w.total w.front.rng short l))

-- ---- after it

-- what is known of the calls' states, in the definitions' words
pub record Known (b : List ℕ) (ss : List Sym) (q : Out) : Type 0 where
  pub allowed : AllAllowed ss
  pub sends : Sends (flat (open_w b)) ss q
  pub before : q ≡ flat (wrote_all b ss)
  pub is : enc_done q ≡ takes 0 (flat (finish_w (wrote_all b ss)))
  pub view : View (wrote_all b ss) (run_i open_i ss) (λ X. raw_number ss X) (length b)
  pub error : (finish (wrote_all b ss)).err ≡ 0
  pub old : Bytes (wrote_all b ss).tail.room.buf
  pub finished : Finished (wrote_all b ss)
  pub bytes : Bytes (finish (wrote_all b ss)).buf
  pub len : length (finish (wrote_all b ss)).buf ≡ length b

pub known : (b : List ℕ) (ss : List Sym) (q : Out) → Written b ss q → Known b ss q
known b ss q r =
    let s = sent b ss q r.short r.sends in
    let g : Went (open_w b) ss q = went ss (open_w b) q s in
    let w = wrote_all b ss in
    let d : enc_done q ≡ takes 0 (flat (finish_w w))
    = ap enc_done g.end ∙ done_accepted w (subst (λ (x : Out). (enc_done x).answer.refusal ≡ 0) g.end r.accepted) in
    let z : (finish w).err ≡ 0 = error_none (finish w).err (ap (λ (x : Sent). x.answer.state.error) (sym d) ∙ r.error) in
    let v = written_view b ss g.allowed z in
    let f = view_finished ss g.allowed w (length b) v z in
    let y = bytes_writes ss (open_w b) r.bytes in
    record {
      allowed = g.allowed;
      sends = s;
      before = g.end;
      is = d;
      view = v;
      error = z;
      old = y;
      finished = f;
      bytes = view_bytes ss g.allowed w (length b) v z y;
      len = f.len ∙ v.len;
    }

pub buf_is : (b : List ℕ) (ss : List Sym) (q : Out) → Known b ss q → (enc_done q).buf ≡ (finish (wrote_all b ss)).buf
buf_is b ss q k = ap (λ (x : Sent). x.buf) k.is

pub offs_is : (b : List ℕ) (ss : List Sym) (q : Out) → Known b ss q → (enc_done q).answer.state.offs ≡ (finish (wrote_all b ss)).offs
offs_is b ss q k = ap (λ (x : Sent). x.answer.state.offs) k.is

-- ---- a fresh reader

pub opened_is : (b : List ℕ) → length b ≤ 1275 → (dec_open b).state ≡ opened b
opened_is b h = ap (λ (a : Decoded). a.state) (opens_reader b h)

pub opened_error : (b : List ℕ) → (opened b).error ≡ 0
unfolding opened settled
opened_error b = refl
