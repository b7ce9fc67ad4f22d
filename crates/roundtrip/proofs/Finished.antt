-- The writer finished: the last coded bytes at the front, the window's whole bytes at the back, then the buffer closed. It fits exactly where digits,
-- chosen bits and raw bits do. Part 10 of the argument. Assumes nothing.
use Prim.Native.Nat.{ℕ, ◌+◌, ◌-◌, ◌*◌, ◌/◌, ◌^◌, ◌≤◌, ◌<◌}
use mathlib.Core.Path.{◌≡◌, sym, ap, ◌∙◌, subst}
use mathlib.Core.List.{List, ◌++◌}
use native.Mathlib.Omega.{arith}
use lib.ListN.{length, get_or, take}
use lib.Pow.{pow_mono}
use Rattle.deciding.proofs.Choice.{by_lt}
use Rattle.entcode.specs.Front.{unstored}
use Rattle.entcode.specs.Room.{Room, puts}
use Rattle.entcode.proofs.RoomLaws.{Stored, puts_room, puts_full, puts_stays}
use Rattle.entcode.specs.Tail.{Tail}
use Rattle.entcode.proofs.TailLaws.{flush_stays}
use Rattle.entcode.specs.Writer.{Writer}
use Rattle.entcode.specs.Finish.{bits_of, emits, spare_bits, ending, fin_bytes, fin_front, fin_tail, finish}
use Rattle.entcode.proofs.FinishLaws.{Enough, bits_enough}
use Rattle.roundtrip.proofs.Digits.{number, number_append, prefix}
use Rattle.roundtrip.proofs.Back.{Flushed, flush_room, flush_full, tail_number}
use Rattle.roundtrip.proofs.Progress.{Fine, size_of, digits_of, stored_number, raw_of}
use Rattle.roundtrip.proofs.Choose.{fin_length, Ended, ended}
use Rattle.roundtrip.proofs.Close.{Closed, closed, close_stays, Placed, close_placed, close_fits}

-- how many top bits finishing fixes
abbrev pub bits_w : Writer → ℕ
bits_w w = bits_of w.front.rng w.front.val

-- what a finished buffer holds, E the number of its coded bytes
pub record Finished (w : Writer) : Type 0 where
  pub E : ℕ
  pub ending : Ended (stored_number w) w.front (bits_w w) E
  pub len : length (finish w).buf ≡ size_of w
  pub offs : (finish w).offs ≡ digits_of w + emits (bits_w w)
  pub end : (finish w).end ≡ w.tail.room.end + w.tail.used / 8
  pub room : (finish w).offs + (finish w).end ≤ length (finish w).buf
  pub front : (E ≤ prefix (finish w).buf (finish w).offs) × (prefix (finish w).buf (finish w).offs < E + 2 ^ spare_bits (bits_w w))
  pub above : ℕ
  pub back : prefix (finish w).buf (length (finish w).buf) ≡ tail_number w.tail above
  pub left : (fin_tail w).win < 256
  pub free : (i : ℕ) → (finish w).offs ≤ i → i + (finish w).end + ((fin_tail w).used + 7) / 8 < length (finish w).buf → get_or (finish w).buf i 0 ≡ 0
  pub used : (fin_tail w).used + 8 * (w.tail.used / 8) ≡ w.tail.used

-- an error that stands stays
pub error_stays : (w : Writer) → w.tail.room.err ≡ 1 → (finish w).err ≡ 1
error_stays w e =
    close_stays (fin_tail w) _ (flush_stays (w.tail.used / 8) (fin_front w) (puts_stays (fin_bytes w.front) w.tail.room e))

stored_number_lem : (t : Tail) (bs : List ℕ) (q : Room) → Stored t.room bs q → (Z : ℕ)
    → tail_number (record { room = q; win = t.win; used = t.used }) Z ≡ tail_number t Z
stored_number_lem t bs q s Z = rw (s.end, s.len, s.back)

-- ---- both stores had room

module _ (w : Writer) (F : Fine w) (h : 2 ^ 23 < w.front.rng)
    (s : Stored w.tail.room (fin_bytes w.front) (puts w.tail.room (fin_bytes w.front)))
    (f : Flushed (fin_front w) (w.tail.used / 8) (fin_tail w))
    (rm : (fin_front w).room.offs + (fin_front w).room.end + w.tail.used / 8 ≤ length (fin_front w).room.buf) where
  fin_fit : (fin_tail w).room.offs + (fin_tail w).room.end ≤ length (fin_tail w).room.buf
  fin_fit = omega (arith, f.offs, s.offs, s.end, s.len, f.end, f.len, F.fit)

  fin_offs : (fin_tail w).room.offs ≡ digits_of w + emits (bits_w w)
  fin_offs = omega (arith, f.offs, s.offs, fin_length (emits (bits_w w)) (ending w.front))

  fin_number : number 0 (take (fin_tail w).room.offs (fin_tail w).room.buf) ≡ number (stored_number w) (fin_bytes w.front)
  fin_number =
      let o : (fin_tail w).room.offs ≡ (puts w.tail.room (fin_bytes w.front)).offs = f.offs in
      let e : take (fin_tail w).room.offs (fin_tail w).room.buf ≡ take w.tail.room.offs w.tail.room.buf ++ fin_bytes w.front
      = rw o (f.front ∙ s.front) in
      ap (λ (x : List ℕ). number 0 x) e ∙ number_append 0 (take w.tail.room.offs w.tail.room.buf) (fin_bytes w.front)

  fin_closed : (finish w).err ≡ 0 → Finished w
  fin_closed z =
      let E : ℕ = number (stored_number w) (fin_bytes w.front) in
      let j : ℕ = spare_bits (bits_w w) in
      let c : Enough w.front.rng w.front.val (bits_w w) = bits_enough w.front.rng w.front.val h F.most in
      let en : Ended (stored_number w) w.front (bits_w w) E = ended (stored_number w) w.front F.tame h F.most in
      let p : Placed (fin_tail w).room (finish w) = close_placed (fin_tail w) j fin_fit in
      let cl : Closed (fin_tail w) j E (finish w).buf
      = closed (fin_tail w) j E en.whole fin_fit fin_number en.multiple (f.slim F.slim) (omega (arith, f.used)) (omega arith) z in
      record {
        E = E;
        ending = en;
        len = cl.len ∙ f.len ∙ s.len;
        offs = p.offs ∙ fin_offs;
        end = p.end ∙ f.end ∙ ap (λ (x : ℕ). x + w.tail.used / 8) s.end;
        room = omega (arith, p.offs, p.end, p.len, fin_fit);
        front = subst (λ (x : ℕ). (E ≤ prefix (finish w).buf x) × (prefix (finish w).buf x < E + 2 ^ j)) (sym p.offs) cl.front;
        above = cl.above;
        back = cl.back ∙ f.number cl.above ∙ stored_number_lem w.tail (fin_bytes w.front) _ s cl.above;
        left = omega (arith, f.slim F.slim, pow_mono {i = (fin_tail w).used} {j = 8} (omega (arith, f.used)));
        free = λ i x y. cl.free i (omega (arith, p.offs)) (omega (arith, p.end, p.len));
        used = f.used;
      }

-- ---- where no error is reported, they had
pub finished : (w : Writer) → Fine w → 2 ^ 23 < w.front.rng → (finish w).err ≡ 0 → Finished w
finished w F h z =
    by_lt (size_of w) (w.tail.room.offs + w.tail.room.end + length (fin_bytes w.front))
    (λ l. absurd (bad (flush_stays (w.tail.used / 8) (fin_front w) (puts_full (fin_bytes w.front) w.tail.room F.fit l))))
    (λ l. stored (puts_room (fin_bytes w.front) w.tail.room l) l)
  where
    bad : (fin_tail w).room.err ≡ 1 → ⊥
    bad e = let q : ◌≡◌ {A = ℕ} 1 0 = sym (close_stays (fin_tail w) _ e) ∙ z in omega arith

    stored : Stored w.tail.room (fin_bytes w.front) (puts w.tail.room (fin_bytes w.front))
        → w.tail.room.offs + w.tail.room.end + length (fin_bytes w.front) ≤ size_of w → Finished w
    stored s rm =
        by_lt (length (fin_front w).room.buf) ((fin_front w).room.offs + (fin_front w).room.end + w.tail.used / 8)
        (λ l. absurd (bad (flush_full (w.tail.used / 8) (fin_front w) l (omega arith) (omega (arith, s.offs, s.end, s.len, F.fit)))))
        (λ l. fin_closed w F h s (flush_room (w.tail.used / 8) (fin_front w) l (omega arith)) l z)

-- what was counted is there: the total is at most 8 bits a byte, and 40
pub total_bytes : (w : Writer) → Fine w → Finished w → w.total ≤ 8 * size_of w + 40
total_bytes w F f = omega (arith, F.count, f.offs, f.end, f.room, f.len)

-- ---- and it fits: 8 digits + bits + raw bits are at most 8 bytes
pub finish_fits : (w : Writer) → Fine w → 8 * digits_of w + bits_w w + raw_of w ≤ 8 * size_of w → (finish w).err ≡ 0
finish_fits w F l =
    let n : length (fin_bytes w.front) ≡ length (unstored w.front.held w.front.run) + emits (bits_w w)
    = fin_length (emits (bits_w w)) (ending w.front) in
    let s : Stored w.tail.room (fin_bytes w.front) (puts w.tail.room (fin_bytes w.front))
    = puts_room (fin_bytes w.front) w.tail.room (omega arith) in
    let f : Flushed (fin_front w) (w.tail.used / 8) (fin_tail w)
    = flush_room (w.tail.used / 8) (fin_front w) (omega (arith, s.offs, s.end, s.len)) (omega arith) in
    close_fits (fin_tail w) _
    (omega (arith, s.offs, s.end, s.len, f.offs, f.end, f.len))
    (f.err ∙ s.err ∙ F.err)
    (λ u. omega (arith, s.offs, s.end, s.len, f.offs, f.end, f.len, f.used))
    (λ u m. omega (arith, s.offs, s.end, s.len, f.offs, f.end, f.len, f.used))
