-- Finishing (RFC 6716, section 5.1.5). Assumes nothing.
use Rattle.std.specs.Prelude.{ℕ, zero, suc, ◌+◌, ◌-◌, ◌*◌, ◌/◌, ◌%◌, ◌^◌, cond, ◌&&◌, List, [], ◌∷◌, ◌++◌, eqb, leb, ltb, length, get_or, take, drop, set, replicate}
use Rattle.std.specs.Int.Bits.{bit_or}
use Rattle.std.specs.Int.Count.{count_leading_zeros}
use Rattle.entcode.specs.Front.{Front, unstored, shift, shift_out}
use Rattle.entcode.specs.Room.{Room, failed, puts}
use Rattle.entcode.specs.Tail.{Tail, flush}
use Rattle.entcode.specs.Writer.{Writer}

-- ---- of the numbers in [value, value + range) whose low bits may be anything, the one with the fewest top bits fixed

-- l top bits fixed leave 2^(31 - l) numbers free
abbrev pub cell : ℕ → ℕ
cell l = 2 ^ (31 - l)

-- the first multiple of p at or above n
abbrev pub round_up : ℕ → ℕ → ℕ
round_up n p = (n + (p - 1)) / p * p

-- the range's leading zeros are enough bits, or one short (`bits_enough`, `bits_fewest` in FinishLaws)
abbrev pub bits_of : ℕ → ℕ → ℕ
bits_of r n =
    cond (ltb (n + r) (round_up n (cell (count_leading_zeros 32 r)) + cell (count_leading_zeros 32 r)))
    (suc (count_leading_zeros 32 r))
    (count_leading_zeros 32 r)

abbrev pub end_of : ℕ → ℕ → ℕ
end_of r n = round_up n (cell (bits_of r n))

-- ---- those bits are carried out, then the held byte and the run

-- how many digits carry l bits, and how many low bits of the last are spare
abbrev pub emits : ℕ → ℕ
emits l = (l + 7) / 8

abbrev pub spare_bits : ℕ → ℕ
spare_bits l = 8 * emits l - l

-- c more digits, and then all that is not stored
abbrev pub fin_out : ℕ → Front → List ℕ
fin_out zero f = unstored f.held f.run
fin_out (suc c) f = shift_out f ++ fin_out c (shift f)

-- finishing never looks at the range again: it stands at 1
abbrev pub ending : Front → Front
ending f = record { rng = 1; val = end_of f.rng f.val; held = f.held; run = f.run }

abbrev pub fin_bytes : Front → List ℕ
fin_bytes f = fin_out (emits (bits_of f.rng f.val)) (ending f)

abbrev pub fin_front : Writer → Tail
fin_front w = record { room = puts w.tail.room (fin_bytes w.front); win = w.tail.win; used = w.tail.used }

-- ---- the window's whole bytes go to the back

abbrev pub fin_tail : Writer → Tail
fin_tail w = flush (w.tail.used / 8) (fin_front w)

-- ---- while no error stands: the unused middle is cleared, and bits left over go into the byte below the last raw byte

abbrev pub clear : Room → Room
clear r =
    record {
      buf = take r.offs r.buf ++ (replicate (length r.buf - r.end - r.offs) 0 ++ drop (length r.buf - r.end) r.buf);
      offs = r.offs;
      end = r.end;
      err = r.err;
    }

abbrev pub or_last : Room → ℕ → ℕ → Room
or_last r x e =
    record {
      buf = set r.buf (length r.buf - suc r.end) (bit_or (get_or r.buf (length r.buf - suc r.end) 0) x);
      offs = r.offs;
      end = r.end;
      err = e;
    }

-- u bits x, where j low bits of the last coded byte are spare: no byte below the back, or a coded byte there that
-- cannot spare so many, is an error
abbrev pub left_over : Room → ℕ → ℕ → ℕ → Room
left_over r x u j =
    cond (ltb r.end (length r.buf))
    (cond (leb (length r.buf) (r.offs + r.end) && ltb j u) (or_last r (x % 2 ^ j) 1) (or_last r x r.err))
    (failed r)

abbrev pub close : Tail → ℕ → Room
close t j =
    cond (eqb t.room.err 0)
    (cond (eqb t.used 0) (clear t.room) (left_over (clear t.room) t.win t.used j))
    t.room

-- the finished buffer, its offsets and its error
abbrev pub finish : Writer → Room
finish w = close (fin_tail w) (spare_bits (bits_of w.front.rng w.front.val))

-- ---- the state handed back: the window stands as it was, and a byte 0 is held where any byte went out

abbrev pub held_after : List ℕ → ℕ
held_after [] = 0
held_after (x ∷ xs) = 1

abbrev pub finish_w : Writer → Writer
finish_w w =
    record {
      front = record { rng = w.front.rng; val = w.front.val; held = held_after (fin_bytes w.front); run = 0 };
      tail = record { room = finish w; win = w.tail.win; used = w.tail.used };
      total = w.total;
    }
