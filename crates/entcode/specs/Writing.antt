-- What the public calls on a writer answer, accepted or refused, and what they leave in the buffer: document 01's
-- table over the writer's steps. Assumes nothing.
use Rattle.std.specs.Prelude.{ℕ, cond, List, leb, eqb, pos, length}
use Rattle.refusals.specs.First.{first_of}
use Rattle.entcode.specs.declared.Enc.{Enc}
use Rattle.entcode.specs.declared.Encoded.{Encoded}
use Rattle.entcode.specs.Models.{Sym}
use Rattle.entcode.specs.Cuts.{account}
use Rattle.entcode.specs.Writer.{open_w, write_sym}
use Rattle.entcode.specs.Finish.{finish_w}
use Rattle.entcode.specs.Flat.{Out, out, as_writer, flat}
use Rattle.entcode.specs.Sound.{longest, gate_w}
use Rattle.entcode.specs.Rules.{say_rule}

-- the buffer after a call, and its answer
pub record Sent : Type 0 where
  pub buf : List ℕ
  pub answer : Encoded

abbrev pub sent : List ℕ → Encoded → Sent
sent b a = record { buf = b; answer = a }

abbrev pub takes : ℕ → Out → Sent
takes v q = record { buf = q.buf; answer = record { refusal = 0; value = v; state = q.state } }

-- its number and value 0, state and buffer unchanged
abbrev pub refuses : ℕ → Out → Sent
refuses n o = record { buf = o.buf; answer = record { refusal = n; value = 0; state = o.state } }

-- refusal n of o, or, for 0, the value v and what the call made of o
unfoldable pub answered : ℕ → Out → ℕ → Out → Sent
answered n o v q = cond (eqb n 0) (takes v q) (refuses n o)

-- a symbol written
unfoldable pub written : Out → Sym → Out
written o s = flat (write_sym (as_writer o) s)

-- the four writers: one definition
unfoldable pub enc_sym : Out → Sym → Sent
enc_sym o s = answered (first_of (gate_w o.buf o.state) (say_rule s.model s.value)) o 0 (written o s)

-- finishing
unfoldable pub finished : Out → Out
finished o = flat (finish_w (as_writer o))

unfoldable pub enc_done : Out → Sent
enc_done o = answered (gate_w o.buf o.state) o 0 (finished o)

-- the account
unfoldable pub enc_tell : Out → Sent
enc_tell o = answered (gate_w o.buf o.state) o (account o.state.total o.state.rng) o

-- opening; a refused one hands back the all-zero state, which is unsound
abbrev pub nought : Enc
nought =
    record {
      storage = 0;
      endoffs = 0;
      window = 0;
      wbits = 0;
      total = 0;
      offs = 0;
      rng = 0;
      val = 0;
      ext = 0;
      rem = pos 0;
      error = pos 0;
    }

unfoldable pub enc_open : List ℕ → Sent
enc_open b = cond (leb (length b) longest) (takes 0 (flat (open_w b))) (refuses 1 (out b nought))
