-- The writer (RFC 6716, section 5.1): a front and a tail that know nothing of each other but the room they share.
-- Assumes nothing.
use Rattle.std.specs.Prelude.{ℕ, ◌+◌, ◌^◌, cond, List, [], ◌∷◌, leb}
use Rattle.entcode.specs.Models.{Sym, coded, lo, hi, all, raw_n, raw_v}
use Rattle.entcode.specs.Cuts.{upper, lower}
use Rattle.entcode.specs.Front.{Front, shift, shift_out, cut_to}
use Rattle.entcode.specs.Room.{Room, puts}
use Rattle.entcode.specs.Tail.{Tail, raw_t}

pub record Writer : Type 0 where
  pub front : Front
  pub tail : Tail
  pub total : ℕ

-- opening: range 2^31, value 0, no byte held, 33 bits in all
abbrev pub open_w : List ℕ → Writer
open_w b =
    record {
      front = record { rng = 2 ^ 31; val = 0; held = 0; run = 0 };
      tail = record { room = record { buf = b; offs = 0; end = 0; err = 0 }; win = 0; used = 0 };
      total = 33;
    }

-- ---- a coded part (sections 5.1.1 and 5.1.1.1)

abbrev pub with_front : Writer → Front → Room → ℕ → Writer
with_front w f r n = record { front = f; tail = record { room = r; win = w.tail.win; used = w.tail.used }; total = n }

abbrev pub shift_w : Writer → Writer
shift_w w = with_front w (shift w.front) (puts w.tail.room (shift_out w.front)) (w.total + 8)

-- while the range is at most 2^23
abbrev pub norm_w : Writer → Writer
norm_w w = cond (leb w.front.rng (2 ^ 23)) (shift_w w) w

abbrev pub cut_w : Writer → ℕ → ℕ → Writer
cut_w w t s = with_front w (cut_to w.front t s) w.tail.room w.total

-- a cut leaves at least 256 of the range, so two turns settle it
abbrev pub code_w : Writer → ℕ → ℕ → ℕ → Writer
code_w w fl fh ft = norm_w (norm_w (cut_w w (upper w.front.rng fl ft) (lower w.front.rng fh ft)))

-- ---- a raw part (section 5.1.3)

abbrev pub raw_w : Writer → ℕ → ℕ → Writer
raw_w w n v = record { front = w.front; tail = raw_t w.tail n v; total = w.total + n }

-- ---- a symbol, and a list of them

abbrev pub write_sym : Writer → Sym → Writer
write_sym w s =
    raw_w (code_w w (lo s.model (coded s.model s.value)) (hi s.model (coded s.model s.value)) (all s.model))
    (raw_n s.model) (raw_v s.model s.value)

abbrev pub write_all : Writer → List Sym → Writer
write_all w [] = w
write_all w (s ∷ ss) = write_all (write_sym w s) ss
