-- What the public calls on a reader answer, accepted or refused: document 01's table over the reader's steps. Assumes
-- nothing.
use Rattle.std.specs.Prelude.{ℕ, cond, List, leb, eqb, length}
use Rattle.refusals.specs.First.{first_of}
use Rattle.entcode.specs.declared.Dec.{Dec}
use Rattle.entcode.specs.declared.Decoded.{Decoded}
use Rattle.entcode.specs.Models.{Model}
use Rattle.entcode.specs.Cuts.{account}
use Rattle.entcode.specs.Reader.{opened, read_val, read_next}
use Rattle.entcode.specs.Sound.{longest, gate_r}
use Rattle.entcode.specs.Rules.{ask_rule}

abbrev pub gives : ℕ → Dec → Decoded
gives v d = record { refusal = 0; value = v; state = d }

-- its number and value 0, the state unchanged
abbrev pub refuses : ℕ → Dec → Decoded
refuses n d = record { refusal = n; value = 0; state = d }

-- refusal n of the state d, or, for 0, the value v and the state q
unfoldable pub answered : ℕ → Dec → ℕ → Dec → Decoded
answered n d v q = cond (eqb n 0) (gives v q) (refuses n d)

-- the four readers: one definition
unfoldable pub dec_sym : List ℕ → Dec → Model → Decoded
dec_sym b d m = answered (first_of (gate_r b d) (ask_rule m)) d (read_val b m d) (read_next b m d)

-- the account
unfoldable pub dec_tell : List ℕ → Dec → Decoded
dec_tell b d = answered (gate_r b d) d (account d.total d.rng) d

-- opening; a refused one hands back the all-zero state, which is unsound
abbrev pub nought : Dec
nought =
    record {
      storage = 0;
      endoffs = 0;
      window = 0;
      wbits = 0;
      total = 0;
      offs = 0;
      rng = 0;
      val = 0;
      ext = 0;
      rem = 0;
      error = 0;
    }

unfoldable pub dec_open : List ℕ → Decoded
dec_open b = cond (leb (length b) longest) (gives 0 (opened b)) (refuses 1 nought)
