-- The code's writer, a flat state beside the buffer (document 01, "Numbers a caller may bring"), read as the definitions'
-- record, and back. Assumes nothing.
use Rattle.std.specs.Prelude.{ℕ, zero, suc, List, length, ℤ, pos, negsuc}
use Rattle.entcode.specs.declared.Enc.{Enc}
use Rattle.entcode.specs.Writer.{Writer}

-- ---- the two signed fields, as numbers and back

-- held byte: 0 for none (-1), b + 1 for the byte b
abbrev pub held_of : ℤ → ℕ
held_of (pos b) = suc b
held_of (negsuc n) = 0

abbrev pub rem_of : ℕ → ℤ
rem_of zero = negsuc 0
rem_of (suc b) = pos b

-- error: 0 for 0, 1 for -1
abbrev pub err_of : ℤ → ℕ
err_of (pos n) = 0
err_of (negsuc n) = suc n

abbrev pub error_of : ℕ → ℤ
error_of zero = pos 0
error_of (suc n) = negsuc n

-- ---- the buffer with the state beside it: one value, so that one equation carries both

pub record Out : Type 0 where
  pub buf : List ℕ
  pub state : Enc

abbrev pub out : List ℕ → Enc → Out
out b w = record { buf = b; state = w }

abbrev pub as_writer : Out → Writer
as_writer o =
    record {
      front = record { rng = o.state.rng; val = o.state.val; held = held_of o.state.rem; run = o.state.ext };
      tail =
          record {
            room = record { buf = o.buf; offs = o.state.offs; end = o.state.endoffs; err = err_of o.state.error };
            win = o.state.window;
            used = o.state.wbits;
          };
      total = o.state.total;
    }

abbrev pub flat : Writer → Out
flat w =
    record {
      buf = w.tail.room.buf;
      state =
          record {
            storage = length w.tail.room.buf;
            endoffs = w.tail.room.end;
            window = w.tail.win;
            wbits = w.tail.used;
            total = w.total;
            offs = w.tail.room.offs;
            rng = w.front.rng;
            val = w.front.val;
            ext = w.front.run;
            rem = rem_of w.front.held;
            error = error_of w.tail.room.err;
          };
    }
