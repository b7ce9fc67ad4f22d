-- Lists of public calls: accepted writes are the definition's writes, and a reader that follows the definitions answers its calls. Part 18 of the
-- argument. Assumes nothing.
use Prim.Native.Nat.{ℕ, ◌≤◌}
use mathlib.Core.Path.{◌≡◌, refl, sym, ap, ap₂, ◌∙◌, subst, subst⁻¹, subst₂}
use mathlib.Core.List.{List, [], ◌∷◌}
use native.Mathlib.Omega.{arith}
use borrow.Author.Tests.{le-leb}
use lib.ListN.{length}
use Rattle.refusals.proofs.FirstLaws.{none_first}
use Rattle.entcode.specs.declared.Dec.{Dec}
use Rattle.entcode.specs.declared.Decoded.{Decoded}
use Rattle.entcode.specs.Models.{Model, Sym, Readable}
use Rattle.entcode.specs.Cuts.{account}
use Rattle.entcode.specs.Sound.{gate_r, gate_w}
use Rattle.entcode.specs.Reader.{opened, read_val, read_next}
use Rattle.entcode.specs.Reading.{gives, dec_sym, dec_tell, dec_open}
use Rattle.entcode.proofs.ReadingLaws.{gate_pass, answered_ok}
use Rattle.entcode.specs.Writer.{Writer, write_sym, write_all}
use Rattle.entcode.proofs.WriterLaws.{Firm, firm_write}
use Rattle.entcode.specs.Flat.{Out, flat}
use Rattle.entcode.specs.Writing.{Sent, enc_sym}
use Rattle.entcode.proofs.WritingLaws.{gate_open, tell_takes}
use Rattle.roundtrip.specs.Statement.{AllAllowed, after, Sends, Tells, Right, Reads, Questions, done, ask, Leads, Answers, InStep, SameAccount, CodedRight, CodedReads}
use Rattle.roundtrip.proofs.ReadBack.{Beside, Step, Follows, follows_beside, Any, NoRaw}
use Rattle.roundtrip.proofs.Round.{firm_all}
use Rattle.roundtrip.proofs.Accepted.{ask_pass, firm_passes, Took, took, write_passes}

-- ---- writes

-- accepted calls from w on, as the definition writes
pub record Went (w : Writer) (ss : List Sym) (q : Out) : Type 0 where
  pub end : q ≡ flat (write_all w ss)
  pub allowed : AllAllowed ss

pub went : (ss : List Sym) (w : Writer) (q : Out) → Sends (flat w) ss q → Went w ss q
went [] w q h = record { end = sym h; allowed = tt }
went (s ∷ ss) w q h =
    let t = took w s h.0 in
    let r = went ss (write_sym w s) q (subst (λ (o : Out). Sends o ss q) t.is h.1) in
    record { end = r.end; allowed = (t.allowed, r.allowed) }

-- and allowed writes from a firm writer on are accepted, as long as the total is low
pub accepts_all : (ss : List Sym) (w : Writer) → AllAllowed ss → Firm 0 w → length w.tail.room.buf ≤ 1275
    → (write_all w ss).total ≤ 1000000 → Sends (flat w) ss (flat (write_all w ss))
accepts_all [] w ok f short low = refl
accepts_all (s ∷ ss) w ok f short low =
    let n = firm_write 0 w s ok.0 f in
    let g = firm_passes w f short (omega (arith, low, n.least, (firm_all ss (write_sym w s) ok.1 n.firm).least)) in
    let z = write_passes w s g ok.0 in (
      z,
      subst⁻¹ (λ (o : Out). Sends o ss (flat (write_all (write_sym w s) ss))) (took w s z).is
          (accepts_all ss (write_sym w s) ok.1 n.firm (omega (arith, n.len, short)) low),
    )

-- ---- reads

-- opening a packet
pub opens_reader : (b : List ℕ) → length b ≤ 1275 → dec_open b ≡ gives 0 (opened b)
unfolding dec_open
opens_reader b h = rw (le-leb (length b) 1275 h)

-- a reader beside a writer that passes the gate passes it too, and shows the same account, by its state and by the call
pub reader_gate : (b : List ℕ) (d : Dec) (w : Writer) → Beside b d w → gate_w (flat w).buf (flat w).state ≡ 0 → gate_r b d ≡ 0
reader_gate b d w h g =
    let low : d.total ≤ 1000000 = omega (arith, h.level.total, (gate_open (flat w) g).low) in
    gate_pass b d (record { sound = record { core = h.core; least = h.least; most = omega arith }; low = low })

same_account : (b : List ℕ) (d : Dec) (w : Writer) → Beside b d w → SameAccount d (flat w)
same_account b d w h = ap₂ account h.level.total h.level.rng

pub tells : (b : List ℕ) (d : Dec) (w : Writer) → Beside b d w → gate_w (flat w).buf (flat w).state ≡ 0 → Tells b d (flat w)
unfolding dec_tell
tells b d w h g =
    let r : gives (account d.total d.rng) d ≡ dec_tell b d = answered_ok (gate_r b d) d _ d (reader_gate b d w h g) in
    let t = tell_takes (flat w) _ refl _ g refl in
    record {
      reader = ap (λ (a : Decoded). a.refusal) (sym r);
      writer = ap (λ (a : Sent). a.answer.refusal) (sym t);
      same = ap (λ (a : Decoded). a.value) (sym r) ∙ same_account b d w h ∙ ap (λ (a : Sent). a.answer.value) t;
    }

-- one call with a model that may be read with
pub symbol_read : (b : List ℕ) (d : Dec) (m : Model) → gate_r b d ≡ 0 → Readable m → dec_sym b d m ≡ gives (read_val b m d) (read_next b m d)
unfolding dec_sym
symbol_read b d m g o = sym (answered_ok _ d (read_val b m d) (read_next b m d) (none_first _ _ g (ask_pass m o)))

-- after a call to each, what holds of the definitions' states holds of the calls' answers
both : (P : Sym → Type 0) (b : List ℕ) (d : Dec) (w : Writer) (s : Sym) (Q : Decoded → Out → Type 0) → Step P b d w s → Took w s
    → Q (gives (read_val b s.model d) (read_next b s.model d)) (flat (write_sym w s)) → Q (dec_sym b d s.model) (after (enc_sym (flat w) s))
both P b d w s Q f t x =
    subst₂ Q (sym (symbol_read b d s.model (reader_gate b d w f.beside t.gate) t.allowed.readable)) (sym t.is) x

-- the last state of the writer passes the gate, where every accepted call before it did
pub reads_of : (b : List ℕ) (ss : List Sym) (d : Dec) (w : Writer) (q : Out) → Sends (flat w) ss q → gate_w q.buf q.state ≡ 0
    → d.error ≡ 0 → Follows Any b d w ss → Reads b d (flat w) ss
reads_of b [] d w q h g z f = tells b d w f (subst⁻¹ (λ (o : Out). gate_w o.buf o.state ≡ 0) h g)
reads_of b (s ∷ ss) d w q h g z f =
    let t = took w s h.0 in
    let e : (read_next b s.model d).error ≡ 0 = f.0.error tt ∙ z in
    let n = read_next b s.model d in (
      tells b d w f.0.beside t.gate,
      both Any b d w s (λ (a : Decoded) (o : Out). Right a s.value × Reads b a.state o ss) f.0 t (
        record { refusal = refl; value = f.0.value tt; error = e },
        reads_of b ss n (write_sym w s) q (subst (λ (o : Out). Sends o ss q) t.is h.1) g e f.1,
      ),
    )

pub coded_of : (b : List ℕ) (ss : List Sym) (d : Dec) (w : Writer) (q : Out) → Sends (flat w) ss q → Follows NoRaw b d w ss
    → CodedReads b d (flat w) ss
coded_of b [] d w q h f = tt
coded_of b (s ∷ ss) d w q h f =
    let t = took w s h.0 in
    let n = read_next b s.model d in
    let u = follows_beside NoRaw b n (write_sym w s) ss f.1 in
    both NoRaw b d w s (λ (a : Decoded) (o : Out). CodedRight a s o × CodedReads b a.state o ss) f.0 t (
      record { refusal = refl; account = same_account b n (write_sym w s) u; value = f.0.value },
      coded_of b ss n (write_sym w s) q (subst (λ (o : Out). Sends o ss q) t.is h.1) f.1,
    )

pub in_step_of : (b : List ℕ) (ss : List Sym) (d : Dec) (w : Writer) (q : Out) → Sends (flat w) ss q → Follows Any b d w ss
    → InStep b d (flat w) ss
in_step_of b [] d w q h f = record { rng = f.level.rng; total = f.level.total }
in_step_of b (s ∷ ss) d w q h f =
    let t = took w s h.0 in (
      record { rng = f.0.beside.level.rng; total = f.0.beside.level.total },
      both Any b d w s (λ (a : Decoded) (o : Out). InStep b a.state o ss) f.0 t
          (in_step_of b ss (read_next b s.model d) (write_sym w s) q (subst (λ (o : Out). Sends o ss q) t.is h.1) f.1),
    )

-- ---- questions: the value read is the value written, so the next question is the one that the list leads to

pub answers_of : (b : List ℕ) (ss : List Sym) (t : Questions) (d : Dec) (o : Out) → Leads t ss → Reads b d o ss → Answers b d o t ss
answers_of b [] done d o l r = r
answers_of b [] (ask m next) d o l r = l
answers_of b (s ∷ ss) done d o l r = l
answers_of b (s ∷ ss) (ask m next) d o l r =
    let a = r.1.0 in (
      r.0,
      subst (λ (k : Model). Right (dec_sym b d k) s.value
          × Answers b (dec_sym b d k).state (after (enc_sym o s)) (next (dec_sym b d k).value) ss) l.0 (
            a,
            subst (λ (v : ℕ). Answers b (dec_sym b d s.model).state (after (enc_sym o s)) (next v) ss) (sym a.value)
                (answers_of b ss (next s.value) (dec_sym b d s.model).state (after (enc_sym o s)) l.1 r.1.1),
          ),
    )
