-- A writer from which nothing was lost (`Fine`), or one that has dropped a byte and taken more than the buffer holds (`Over`): a turn of renormalising
-- leads from the first to one of the two. Part 5 of the argument. Assumes nothing.
use Prim.Native.Nat.{ℕ, suc, ◌+◌, ◌*◌, ◌^◌, ◌≤◌, ◌<◌}
use mathlib.Core.Path.{◌≡◌, ap, ◌∙◌}
use mathlib.Core.List.{List}
use native.Mathlib.Omega.{arith}
use lib.ListN.{length, take}
use Rattle.entcode.specs.Front.{unstored, shift, shift_out}
use Rattle.entcode.specs.Room.{puts}
use Rattle.entcode.proofs.RoomLaws.{Stored, puts_room, puts_len, puts_full}
use Rattle.entcode.specs.Writer.{Writer, shift_w}
use Rattle.roundtrip.proofs.Digits.{number, number_append}
use Rattle.roundtrip.proofs.Carry.{Tame, front_number, shift_number, tame_shift, carry_length, shift_holds}
use Rattle.roundtrip.proofs.Back.{tail_number}

-- ---- what a writer's state amounts to

-- the buffer's length
abbrev pub size_of : Writer → ℕ
size_of w = length w.tail.room.buf

-- how many digits went out, stored or held
abbrev pub digits_of : Writer → ℕ
digits_of w = w.tail.room.offs + length (unstored w.front.held w.front.run)

-- the number of the stored ones
abbrev pub stored_number : Writer → ℕ
stored_number w = number 0 (take w.tail.room.offs w.tail.room.buf)

-- the number of all of them, with the value below: the low end of the interval
abbrev pub low_of : Writer → ℕ
low_of w = front_number (stored_number w) w.front

-- how many raw bits were written
abbrev pub raw_of : Writer → ℕ
raw_of w = 8 * w.tail.room.end + w.tail.used

-- ---- nothing lost: every bit counted is there
pub record Fine (w : Writer) : Type 0 where
  pub tame : Tame w.front
  pub most : w.front.rng ≤ 2 ^ 31
  pub fit : w.tail.room.offs + w.tail.room.end ≤ size_of w
  pub err : w.tail.room.err ≡ 0
  pub count : w.total ≡ 33 + 8 * digits_of w + raw_of w
  pub used : w.tail.used ≤ 32
  pub slim : w.tail.win < 2 ^ w.tail.used

-- something lost: the error stands, and the total is above what the buffer can hold
pub record Over (w : Writer) : Type 0 where
  pub err : w.tail.room.err ≡ 1
  pub much : 8 * size_of w + 41 ≤ w.total

-- ---- a turn of renormalising

-- what it does to the amounts
pub record Shifted (w v : Writer) : Type 0 where
  pub digits : digits_of v ≡ suc (digits_of w)
  pub low : low_of v ≡ 256 * low_of w
  pub raw : (Z : ℕ) → tail_number v.tail Z ≡ tail_number w.tail Z
  pub len : size_of v ≡ size_of w

module _ (w : Writer) (F : Fine w) (small : w.front.rng ≤ 2 ^ 23)
    (room : w.tail.room.offs + w.tail.room.end + length (shift_out w.front) ≤ size_of w) where
  out_stored : Stored w.tail.room (shift_out w.front) (puts w.tail.room (shift_out w.front))
  out_stored = puts_room (shift_out w.front) w.tail.room room

  shift_digits : digits_of (shift_w w) ≡ suc (digits_of w)
  shift_digits = omega (arith, out_stored.offs, carry_length w.front)

  shift_stored : stored_number (shift_w w) ≡ number (stored_number w) (shift_out w.front)
  shift_stored =
      ap (λ (l : List ℕ). number 0 l) out_stored.front
      ∙ number_append 0 (take w.tail.room.offs w.tail.room.buf) (shift_out w.front)

  pub shifted : Shifted w (shift_w w)
  shifted =
      let e : (puts w.tail.room (shift_out w.front)).end ≡ w.tail.room.end = out_stored.end in
      let n : length (puts w.tail.room (shift_out w.front)).buf ≡ length w.tail.room.buf = out_stored.len in
      record {
        digits = shift_digits;
        low = ap (λ (P : ℕ). front_number P (shift w.front)) shift_stored ∙ shift_number (stored_number w) w.front F.tame;
        raw = λ Z. rw (e, n, out_stored.back);
        len = n;
      }

  pub shifted_fine : Fine (shift_w w)
  shifted_fine =
      record {
        tame = tame_shift w.front F.tame small;
        most = omega arith;
        fit = omega (arith, out_stored.offs, out_stored.end, out_stored.len);
        err = out_stored.err ∙ F.err;
        count = omega (arith, shift_digits, out_stored.end, F.count);
        used = F.used;
        slim = F.slim;
      }

-- no room: a turn stores at most what was held, so more digits went out than there is room for
pub shift_over : (w : Writer) → Fine w → size_of w < w.tail.room.offs + w.tail.room.end + length (shift_out w.front) → Over (shift_w w)
shift_over w F h =
    record {
      err = puts_full (shift_out w.front) w.tail.room F.fit h;
      much = omega (arith, carry_length w.front, shift_holds w.front, puts_len (shift_out w.front) w.tail.room, F.count);
    }
