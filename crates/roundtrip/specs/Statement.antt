-- What "written reads back" means, said of the public calls as document 01 has them, refusals included: `enc_open`,
-- `enc_sym`, `enc_tell` and `enc_done` of a writer, `dec_open`, `dec_sym` and `dec_tell` of a reader; and at the end the
-- theorems, each a type that `proofs/Theorems` proves. Assumes nothing.
use Rattle.std.specs.Prelude.{ℕ, ◌+◌, ◌*◌, ◌/◌, ◌%◌, ◌≤◌, ◌<◌, ◌≡◌, List, [], ◌∷◌, pos, length, get_or, take}
use Rattle.entcode.specs.declared.Dec.{Dec}
use Rattle.entcode.specs.declared.Decoded.{Decoded}
use Rattle.entcode.specs.Models.{Model, Sym, raw_n, Allowed}
use Rattle.entcode.specs.Cuts.{account}
use Rattle.entcode.specs.Flat.{Out, out, flat}
use Rattle.entcode.specs.Reader.{Bytes}
use Rattle.entcode.specs.Reading.{dec_open, dec_sym, dec_tell}
use Rattle.entcode.specs.Writer.{Writer, open_w, write_all}
use Rattle.entcode.specs.Writing.{Sent, enc_open, enc_sym, enc_tell, enc_done}

-- ---- writing

-- every symbol of a list may be written: its model is in order, its value one of the model's
abbrev pub AllAllowed : List Sym → Type 0
AllAllowed [] = Unit {0}
AllAllowed (s ∷ ss) = Allowed s.model s.value × AllAllowed ss

-- the buffer and the state after a call
abbrev pub after : Sent → Out
after x = out x.buf x.answer.state

-- the calls that write the symbols ss, one after the other, are all accepted, and lead from o to q
abbrev pub Sends : Out → List Sym → Out → Type 0
Sends o [] q = o ≡ q
Sends o (s ∷ ss) q = ((enc_sym o s).answer.refusal ≡ 0) × Sends (after (enc_sym o s)) ss q

-- the symbols ss were written into the buffer b from opening on, and finished without error; q is the state before
-- finishing
pub record Written (b : List ℕ) (ss : List Sym) (q : Out) : Type 0 where
  pub bytes : Bytes b
  pub short : length b ≤ 1275
  pub sends : Sends (after (enc_open b)) ss q
  pub accepted : (enc_done q).answer.refusal ≡ 0
  pub error : (enc_done q).answer.state.error ≡ pos 0

-- ---- reading

-- the accounts of a reader and a writer, asked for by calls, are given, and are the same
pub record Tells (b : List ℕ) (d : Dec) (o : Out) : Type 0 where
  pub reader : (dec_tell b d).refusal ≡ 0
  pub writer : (enc_tell o).answer.refusal ≡ 0
  pub same : (dec_tell b d).value ≡ (enc_tell o).answer.value

-- a reader's answer is right: accepted, the value v, and no error
pub record Right (a : Decoded) (v : ℕ) : Type 0 where
  pub refusal : a.refusal ≡ 0
  pub value : a.value ≡ v
  pub error : a.state.error ≡ 0

-- the calls that read with the models of ss from the reader d over the packet b are all right, o being the writer
-- before ss; and both accounts are the same before the first symbol and after each
abbrev pub Reads : List ℕ → Dec → Out → List Sym → Type 0
Reads b d o [] = Tells b d o
Reads b d o (s ∷ ss) =
    Tells b d o
    × (Right (dec_sym b d s.model) s.value
    × Reads b (dec_sym b d s.model).state (after (enc_sym o s)) ss)

-- ---- questions that depend on answers

-- nothing more to ask, or a model to read with, and what to ask next for each value
pub data Questions : Type 0 where
  done : Questions
  ask : Model → (ℕ → Questions) → Questions

-- the list ss is one way through the questions
abbrev pub Leads : Questions → List Sym → Type 0
Leads done [] = Unit {0}
Leads done (s ∷ ss) = ⊥
Leads (ask m next) [] = ⊥
Leads (ask m next) (s ∷ ss) = (s.model ≡ m) × Leads (next s.value) ss

-- asked from the reader d on, each next question by the value just read, the questions are all answered right, with
-- the values of ss; and both accounts are the same before the first and after each
abbrev pub Answers : List ℕ → Dec → Out → Questions → List Sym → Type 0
Answers b d o done [] = Tells b d o
Answers b d o done (s ∷ ss) = ⊥
Answers b d o (ask m next) [] = ⊥
Answers b d o (ask m next) (s ∷ ss) =
    Tells b d o
    × (Right (dec_sym b d m) s.value
    × Answers b (dec_sym b d m).state (after (enc_sym o s)) (next (dec_sym b d m).value) ss)

-- ---- range and total

-- a reader and a writer have the same
pub record SamePace (d : Dec) (o : Out) : Type 0 where
  pub rng : d.rng ≡ o.state.rng
  pub total : d.total ≡ o.state.total

-- they do before the first symbol of ss, and after each
abbrev pub InStep : List ℕ → Dec → Out → List Sym → Type 0
InStep b d o [] = SamePace d o
InStep b d o (s ∷ ss) = SamePace d o × InStep b (dec_sym b d s.model).state (after (enc_sym o s)) ss

-- ---- packets that agree with the finished buffer in its coded bytes only

-- a reader's state shows the account of a writer's
abbrev pub SameAccount : Dec → Out → Type 0
SameAccount d o = account d.total d.rng ≡ account o.state.total o.state.rng

-- accepted, with the writer's account; and the value, if the symbol has no raw bits
pub record CodedRight (a : Decoded) (s : Sym) (o : Out) : Type 0 where
  pub refusal : a.refusal ≡ 0
  pub account : SameAccount a.state o
  pub value : raw_n s.model ≡ 0 → a.value ≡ s.value

-- the calls that read with the models of ss answer so
abbrev pub CodedReads : List ℕ → Dec → Out → List Sym → Type 0
CodedReads b d o [] = Unit {0}
CodedReads b d o (s ∷ ss) =
    CodedRight (dec_sym b d s.model) s (after (enc_sym o s))
    × CodedReads b (dec_sym b d s.model).state (after (enc_sym o s)) ss

-- ---- the theorems: writing

-- what the definitions make of the symbols ss, from a fresh writer over b
abbrev pub wrote_all : List ℕ → List Sym → Writer
wrote_all b ss = write_all (open_w b) ss

-- the account of a writer is at most 8 x length
abbrev pub AccountFits : Out → List ℕ → Type 0
AccountFits q b = account q.state.total q.state.rng ≤ 8 * length b

-- allowed symbols whose account is at most that are written: no call is refused
abbrev pub Accepts : Type 0
Accepts =
    (b : List ℕ) (ss : List Sym) → length b ≤ 1275 → AllAllowed ss
    → account (wrote_all b ss).total (wrote_all b ss).front.rng ≤ 8 * length b
    → Sends (after (enc_open b)) ss (flat (wrote_all b ss))

-- what was written with such an account is finished: accepted, and without error
abbrev pub Fits : Type 0
Fits =
    (b : List ℕ) (ss : List Sym) (q : Out) → length b ≤ 1275 → Sends (after (enc_open b)) ss q → AccountFits q b
    → ((enc_done q).answer.refusal ≡ 0) × ((enc_done q).answer.state.error ≡ pos 0)

-- ---- the theorems: the finished buffer

-- it holds bytes, has the old length, took no more bits than it has, but for 40, and opens
abbrev pub FinishedBytes : Type 0
FinishedBytes = (b : List ℕ) (ss : List Sym) (q : Out) → Written b ss q → Bytes (enc_done q).buf

abbrev pub FinishedLength : Type 0
FinishedLength = (b : List ℕ) (ss : List Sym) (q : Out) → Written b ss q → length (enc_done q).buf ≡ length b

abbrev pub FinishedTotal : Type 0
FinishedTotal = (b : List ℕ) (ss : List Sym) (q : Out) → Written b ss q → q.state.total ≤ 8 * length b + 40

abbrev pub FinishedOpens : Type 0
FinishedOpens = (b : List ℕ) (ss : List Sym) (q : Out) → Written b ss q → (dec_open (enc_done q).buf).refusal ≡ 0

-- the bytes behind the coded ones and before the raw ones are 0; where raw bits are left over, one byte more is raw:
-- (bits % 8 + 7) / 8
abbrev pub MiddleZero : Type 0
MiddleZero =
    (b : List ℕ) (ss : List Sym) (q : Out) → Written b ss q → (i : ℕ) → (enc_done q).answer.state.offs ≤ i
    → i + (enc_done q).answer.state.endoffs + (q.state.wbits % 8 + 7) / 8 < length b → get_or (enc_done q).buf i 0 ≡ 0

-- ---- the theorems: reading

abbrev pub ReadsBack : Type 0
ReadsBack =
    (b : List ℕ) (ss : List Sym) (q : Out) → Written b ss q
    → Reads (enc_done q).buf (dec_open (enc_done q).buf).state (after (enc_open b)) ss

-- an account that fits reads back
abbrev pub FitsReads : Type 0
FitsReads =
    (b : List ℕ) (ss : List Sym) (q : Out) → Bytes b → length b ≤ 1275 → Sends (after (enc_open b)) ss q → AccountFits q b
    → Reads (enc_done q).buf (dec_open (enc_done q).buf).state (after (enc_open b)) ss

-- also where each next question depends on the values read so far
abbrev pub AnswersBack : Type 0
AnswersBack =
    (b : List ℕ) (ss : List Sym) (q : Out) → Written b ss q → (t : Questions) → Leads t ss
    → Answers (enc_done q).buf (dec_open (enc_done q).buf).state (after (enc_open b)) t ss

-- reader and writer have the same range and total before the first symbol and after each
abbrev pub StaysInStep : Type 0
StaysInStep =
    (b : List ℕ) (ss : List Sym) (q : Out) → Written b ss q
    → InStep (enc_done q).buf (dec_open (enc_done q).buf).state (after (enc_open b)) ss

-- any packet that begins with the coded bytes of the finished buffer gives the same coded symbols
abbrev pub FrontDecides : Type 0
FrontDecides =
    (b : List ℕ) (ss : List Sym) (q : Out) → Written b ss q → (c : List ℕ) → Bytes c → length c ≤ 1275
    → (enc_done q).answer.state.offs ≤ length c
    → take (enc_done q).answer.state.offs c ≡ take (enc_done q).answer.state.offs (enc_done q).buf
    → CodedReads c (dec_open c).state (after (enc_open b)) ss
