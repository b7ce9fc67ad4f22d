-- The writer's steps over buffer and state as one value, what inner writes ask of it, and what they promise; no public contract
-- says it. Assumes nothing.
use Rattle.std.specs.Prelude.{◌≡◌, length, ℕ, zero, suc, ◌*◌, ◌/◌, ◌%◌, ◌^◌, ◌+◌, ◌≤◌, ◌<◌, List}
use Rattle.entcode.specs.Flat.{held_of, rem_of, err_of, error_of, Out, as_writer, flat}
use Rattle.entcode.specs.Front.{unstored, bytes_out, held_next, run_next}
use Rattle.entcode.specs.Room.{Room, puts, back}
use Rattle.entcode.specs.Tail.{Tail, flush1, flush, spare}
use Rattle.entcode.specs.Writer.{Writer, with_front, shift_w, norm_w, cut_w, raw_w}
use Rattle.entcode.specs.Finish.{held_after, left_over, close}
use Rattle.entcode.specs.Models.{Sym, raw_n}
use Rattle.entcode.specs.Writing.{written}

-- ---- the buffer with the state beside it: one value, so that one equation carries both

-- nothing is lost in that reading: the length kept is the buffer's, the held byte at least -1, the error at most 0
pub record Fair (o : Out) : Type 0 where
  pub kept : o.state.storage ≡ length o.buf
  pub rem : rem_of (held_of o.state.rem) ≡ o.state.rem
  pub error : error_of (err_of o.state.error) ≡ o.state.error

-- ---- the front

abbrev pub with_room : Writer → Room → Writer
with_room w r = record { front = w.front; tail = record { room = r; win = w.tail.win; used = w.tail.used }; total = w.total }

-- bytes put at the front
unfoldable pub put_all : Out → List ℕ → Out
put_all o bs = flat (with_room (as_writer o) (puts (as_writer o).tail.room bs))

-- the digit c, below 512, goes out
abbrev pub carry_w : Writer → ℕ → Writer
carry_w w c =
    with_front w
    (record {
      rng = w.front.rng;
      val = w.front.val;
      held = held_next w.front.held c;
      run = run_next w.front.run c;
    })
    (puts w.tail.room (bytes_out w.front.held w.front.run c))
    w.total

unfoldable pub carried : Out → ℕ → Out
carried o c = flat (carry_w (as_writer o) c)

-- one turn of renormalising, and all of it
unfoldable pub turned : Out → Out
turned o = flat (shift_w (as_writer o))

unfoldable pub settled : Out → Out
settled o = flat (norm_w (norm_w (as_writer o)))

-- the part from t down to s is kept, and the range settled
unfoldable pub cut : Out → ℕ → ℕ → Out
cut o t s = flat (norm_w (norm_w (cut_w (as_writer o) t s)))

-- ---- the back

abbrev pub with_tail : Writer → Tail → Writer
with_tail w t = record { front = w.front; tail = t; total = w.total }

-- a byte at the back
unfoldable pub backed : Out → ℕ → Out
backed o b = flat (with_room (as_writer o) (back (as_writer o).tail.room b))

-- a byte of the window goes there; every whole byte; those that n more bits ask for
unfoldable pub shed : Out → Out
shed o = flat (with_tail (as_writer o) (flush1 (as_writer o).tail))

unfoldable pub flushed : Out → Out
flushed o = flat (with_tail (as_writer o) (flush (o.state.wbits / 8) (as_writer o).tail))

unfoldable pub spared : Out → ℕ → Out
spared o n = flat (with_tail (as_writer o) (spare n (as_writer o).tail))

-- n raw bits, of value v
unfoldable pub appended : Out → ℕ → ℕ → Out
appended o n v = flat (raw_w (as_writer o) n v)

-- ---- finishing

-- all that is not stored goes out
abbrev pub rest_w : Writer → Writer
rest_w w =
    with_front w
    (record { rng = w.front.rng; val = w.front.val; held = held_after (unstored w.front.held w.front.run); run = 0 })
    (puts w.tail.room (unstored w.front.held w.front.run))
    w.total

unfoldable pub rested : Out → Out
rested o = flat (rest_w (as_writer o))

-- c digits of the end value v, and then all that is not stored
abbrev pub digits_w : ℕ → ℕ → Writer → Writer
digits_w zero v w = rest_w w
digits_w (suc c) v w = digits_w c (256 * (v % 2 ^ 23)) (carry_w w (v / 2 ^ 23))

unfoldable pub digits_out : Out → ℕ → ℕ → Out
digits_out o v c = flat (digits_w c v (as_writer o))

-- the left-over bits go into the byte below the last raw byte, where j low bits of the last coded byte are spare
unfoldable pub stowed : Out → ℕ → Out
stowed o j = flat (with_room (as_writer o) (left_over (as_writer o).tail.room o.state.window o.state.wbits j))

-- the middle cleared, and that
unfoldable pub closed : Out → ℕ → Out
closed o j = flat (with_room (as_writer o) (close (as_writer o).tail j))

-- ---- what is asked

-- placing a byte: the reading loses nothing, and the bytes have their places
pub record Roomy (o : Out) : Type 0 where
  pub fair : Fair o
  pub short : length o.buf ≤ 1275
  pub within : o.state.offs + o.state.endoffs ≤ length o.buf

-- turns: a run and a total that have room to grow. The bounds grow with the range, so that turns keep them
pub record Ready (o : Out) : Type 0 where
  pub roomy : Roomy o
  pub some : 1 ≤ o.state.rng
  pub run : o.state.ext ≤ 2 ^ 31 + o.state.rng
  pub few : o.state.total ≤ 2 ^ 31 + o.state.rng

-- flushing
pub record Windowed (o : Out) : Type 0 where
  pub roomy : Roomy o
  pub err : err_of o.state.error ≤ 1
  pub used : o.state.wbits ≤ 32
  pub slim : o.state.window < 2 ^ o.state.wbits

-- a write: a sound state, but for the run. Its bound follows from that of a sound state, 150,000, and is one that
-- every write keeps
pub record Core (o : Out) : Type 0 where
  pub roomy : Roomy o
  pub above : 2 ^ 23 < o.state.rng
  pub most : o.state.rng ≤ 2 ^ 31
  pub fits : o.state.val + o.state.rng < 2 ^ 32
  pub held : held_of o.state.rem ≤ 256
  pub tidy : 8 * o.state.ext + 33 ≤ o.state.total + 1200033
  pub err : err_of o.state.error ≤ 1
  pub used : o.state.wbits ≤ 32
  pub slim : o.state.window < 2 ^ o.state.wbits
  pub few : o.state.total ≤ 2 ^ 31

-- ---- what is promised

-- flushing: q is the state d, with m more bits free
pub record Spare (m : ℕ) (d q : Out) : Type 0 where
  pub is : q ≡ d
  pub windowed : Windowed q
  pub free : q.state.wbits + m ≤ 32

-- a step from o: q is the state d, ready for the next step, and the total grew by at most n
pub record Stepped (n : ℕ) (o d q : Out) : Type 0 where
  pub is : q ≡ d
  pub core : Core q
  pub least : o.state.total ≤ q.state.total
  pub most : q.state.total ≤ o.state.total + n

-- a symbol written
abbrev pub Wrote : Out → Sym → Out → Type 0
Wrote o s q = Stepped (16 + raw_n s.model) o (written o s) q
