-- What the writer's functions ask of a flat state and what they promise, and the updates by which they change one.
-- Assumes nothing.
use Prim.Native.Nat.{ℕ}
use mathlib.Core.List.{List}
use lib.IntN.{ℤ, pos}
use Rattle.entcode.specs.Flat.{Out}

-- ---- updates: another range, value and total; buffer, front place and error; buffer, back place and error; window

-- and total; run; held byte

abbrev pub at_turn : Out → ℕ → ℕ → ℕ → Out
at_turn o r v t =
    record {
      buf = o.buf;
      state =
          record {
            storage = o.state.storage;
            endoffs = o.state.endoffs;
            window = o.state.window;
            wbits = o.state.wbits;
            total = t;
            offs = o.state.offs;
            rng = r;
            val = v;
            ext = o.state.ext;
            rem = o.state.rem;
            error = o.state.error;
          };
    }

abbrev pub at_front : Out → List ℕ → ℕ → ℤ → Out
at_front o b n e =
    record {
      buf = b;
      state =
          record {
            storage = o.state.storage;
            endoffs = o.state.endoffs;
            window = o.state.window;
            wbits = o.state.wbits;
            total = o.state.total;
            offs = n;
            rng = o.state.rng;
            val = o.state.val;
            ext = o.state.ext;
            rem = o.state.rem;
            error = e;
          };
    }

abbrev pub at_back : Out → List ℕ → ℕ → ℤ → Out
at_back o b n e =
    record {
      buf = b;
      state =
          record {
            storage = o.state.storage;
            endoffs = n;
            window = o.state.window;
            wbits = o.state.wbits;
            total = o.state.total;
            offs = o.state.offs;
            rng = o.state.rng;
            val = o.state.val;
            ext = o.state.ext;
            rem = o.state.rem;
            error = e;
          };
    }

abbrev pub at_window : Out → ℕ → ℕ → ℕ → Out
at_window o x u t =
    record {
      buf = o.buf;
      state =
          record {
            storage = o.state.storage;
            endoffs = o.state.endoffs;
            window = x;
            wbits = u;
            total = t;
            offs = o.state.offs;
            rng = o.state.rng;
            val = o.state.val;
            ext = o.state.ext;
            rem = o.state.rem;
            error = o.state.error;
          };
    }

abbrev pub at_run : Out → ℕ → Out
at_run o n =
    record {
      buf = o.buf;
      state =
          record {
            storage = o.state.storage;
            endoffs = o.state.endoffs;
            window = o.state.window;
            wbits = o.state.wbits;
            total = o.state.total;
            offs = o.state.offs;
            rng = o.state.rng;
            val = o.state.val;
            ext = n;
            rem = o.state.rem;
            error = o.state.error;
          };
    }

-- the byte b is held, with no run behind it
abbrev pub hold : Out → ℕ → Out
hold o b =
    record {
      buf = o.buf;
      state =
          record {
            storage = o.state.storage;
            endoffs = o.state.endoffs;
            window = o.state.window;
            wbits = o.state.wbits;
            total = o.state.total;
            offs = o.state.offs;
            rng = o.state.rng;
            val = o.state.val;
            ext = 0;
            rem = pos b;
            error = o.state.error;
          };
    }
