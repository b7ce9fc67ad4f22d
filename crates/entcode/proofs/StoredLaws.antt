-- Where no error stands after a write, every byte that it put out stands in the buffer: the front's bytes behind the
-- front, the window's before the back. Assumes nothing.
use Prim.Native.Nat.{ℕ, zero, suc, ◌+◌, ◌-◌, ◌/◌, ◌%◌, ◌^◌, ◌≤◌, ◌<◌}
use mathlib.Core.Path.{◌≡◌, refl, sym, subst, ap, ◌∙◌}
use mathlib.Core.Bool.{Bool, true, false, cond}
use mathlib.Core.List.{List, [], ◌∷◌, ◌++◌}
use native.Mathlib.Omega.{arith}
use borrow.Author.Tests.{lt-ltb}
use lib.Dec.{leb, ltb}
use lib.IntN.{pos}
use lib.ListN.{length, take, drop, set, length-set}
use lib.Seq.{drop-cons, take-set-le, drop-set-lt, get_or-set_same}
use Rattle.deciding.proofs.Choice.{by_lt, chosen}
use Rattle.entcode.specs.Models.{Sym, coded, lo, hi, all, raw_n, raw_v}
use Rattle.entcode.specs.Cuts.{upper, lower}
use Rattle.entcode.specs.Front.{Front, shift, shift_out, cut_to}
use Rattle.entcode.specs.Room.{Room, back, puts}
use Rattle.entcode.proofs.RoomLaws.{Stored, puts_room, puts_full, puts_kept, puts_error, back_full, back_kept}
use Rattle.entcode.specs.Tail.{Tail, flush1, flush, spare, raw_t}
use Rattle.entcode.proofs.TailLaws.{Trim, flush_stays}
use Rattle.entcode.specs.Writer.{Writer, shift_w, norm_w, cut_w, write_sym}
use Rattle.entcode.specs.Flat.{err_of, error_of, Out, as_writer}
use Rattle.entcode.proofs.FlatLaws.{puts_append}
use Rattle.entcode.specs.Writing.{written, enc_sym}
use Rattle.entcode.proofs.WritingLaws.{write_accepted}

-- ---- the front

pub puts_stored : (bs : List ℕ) (r : Room) → r.offs + r.end ≤ length r.buf → (puts r bs).err ≡ 0 → Stored r bs (puts r bs)
puts_stored bs r h e =
    by_lt (length r.buf) (r.offs + r.end + length bs)
    (λ l. absurd (let z : (puts r bs).err ≡ 1 = puts_full bs r h l in omega arith))
    (λ l. puts_room bs r l)

-- the bytes that a cut's renormalising puts out
abbrev pub norm_f : Front → Front
norm_f f = cond (leb f.rng (2 ^ 23)) (shift f) f

abbrev pub norm_out : Front → List ℕ
norm_out f = cond (leb f.rng (2 ^ 23)) (shift_out f) []

norm_room : (t : Bool) (w : Writer) → (cond t (shift_w w) w).tail.room ≡ puts w.tail.room (cond t (shift_out w.front) [])
norm_room true w = refl
norm_room false w = refl

norm_front : (t : Bool) (w : Writer) → (cond t (shift_w w) w).front ≡ cond t (shift w.front) w.front
norm_front true w = refl
norm_front false w = refl

pub cut_bytes : (w : Writer) (t s : ℕ)
    → (norm_w (norm_w (cut_w w t s))).tail.room ≡ puts w.tail.room (norm_out (cut_to w.front t s) ++ norm_out (norm_f (cut_to w.front t s)))
cut_bytes w t s =
    let x = cut_w w t s in
    let y = norm_w x in
    let f = cut_to w.front t s in
    norm_room (leb y.front.rng (2 ^ 23)) y
    ∙ ap (λ (g : Front). puts y.tail.room (norm_out g)) (norm_front (leb f.rng (2 ^ 23)) x)
    ∙ ap (λ (r : Room). puts r (norm_out (norm_f f))) (norm_room (leb f.rng (2 ^ 23)) x)
    ∙ puts_append (norm_out f) (norm_out (norm_f f)) w.tail.room

-- ---- the back: bytes bs, the first of them last in the buffer

abbrev pub onto : List ℕ → List ℕ → List ℕ
onto [] l = l
onto (b ∷ bs) l = onto bs (b ∷ l)

pub record StoredBack (r : Room) (bs : List ℕ) (q : Room) : Type 0 where
  pub offs : q.offs ≡ r.offs
  pub end : q.end ≡ r.end + length bs
  pub len : length q.buf ≡ length r.buf
  pub front : take r.offs q.buf ≡ take r.offs r.buf
  pub back : drop (length r.buf - q.end) q.buf ≡ onto bs (drop (length r.buf - r.end) r.buf)

-- a byte, where there is room
back_one : (r : Room) (b : ℕ) → r.offs + r.end < length r.buf → StoredBack r (b ∷ []) (back r b)
back_one r b h =
    let n = length r.buf in
    let i = n - suc r.end in
    let k : suc i ≡ n - r.end = omega arith in
    let l : i < length (set r.buf i b) = omega (arith, length-set r.buf i b) in
    rw (lt-ltb (r.offs + r.end) n h)
    (record {
      offs = refl;
      end = omega arith;
      len = length-set r.buf i b;
      front = take-set-le r.offs r.buf i b (omega arith);
      back =
          drop-cons (set r.buf i b) i 0 l
          ∙ ap (λ (y : ℕ). y ∷ drop (suc i) (set r.buf i b)) (get_or-set_same r.buf i b 0 (omega arith))
          ∙ ap (λ (d : List ℕ). b ∷ d) (drop-set-lt (suc i) r.buf i b (omega arith))
          ∙ ap (λ (m : ℕ). b ∷ drop m r.buf) k;
    })

back_then : (r q s : Room) (b : ℕ) (bs : List ℕ) → StoredBack r (b ∷ []) q → StoredBack q bs s → StoredBack r (b ∷ bs) s
back_then r q s b bs h g =
    record {
      offs = g.offs ∙ h.offs;
      end = omega (arith, h.end, g.end);
      len = g.len ∙ h.len;
      front = ap (λ (n : ℕ). take n s.buf) (sym h.offs) ∙ g.front ∙ ap (λ (n : ℕ). take n q.buf) h.offs ∙ h.front;
      back = ap (λ (n : ℕ). drop (n - s.end) s.buf) (sym h.len) ∙ g.back ∙ ap (onto bs) (ap (λ (n : ℕ). drop (n - q.end) q.buf) h.len ∙ h.back);
    }

-- the window's low bytes
abbrev pub low_bytes : ℕ → ℕ → List ℕ
low_bytes zero x = []
low_bytes (suc c) x = x % 256 ∷ low_bytes c (x / 256)

pub flush_stored : (c : ℕ) (t : Tail) → t.room.offs + t.room.end ≤ length t.room.buf → t.room.err ≤ 1 → (flush c t).room.err ≡ 0
    → StoredBack t.room (low_bytes c t.win) (flush c t).room
flush_stored zero t h z e =
    record { offs = refl; end = omega arith; len = refl; front = refl; back = refl }
flush_stored (suc c) t h z e =
    let r = t.room in
    let b = t.win % 256 in
    let k = back_kept r b h z in
    by_lt (r.offs + r.end) (length r.buf)
    (λ l. back_then r (back r b) (flush c (flush1 t)).room b (low_bytes c (t.win / 256)) (back_one r b l) (flush_stored c (flush1 t) k.fit k.err e))
    (λ l. absurd (let y : (flush c (flush1 t)).room.err ≡ 1 = flush_stays c (flush1 t) (back_full r b l) in omega arith))

-- how many bytes leave the window for n more bits
abbrev pub leaving : ℕ → ℕ → ℕ
leaving used n = cond (ltb 32 (used + n)) (used / 8) 0

spare_is : (x : Bool) (t : Tail) → cond x (flush (t.used / 8) t) t ≡ flush (cond x (t.used / 8) 0) t
spare_is true t = refl
spare_is false t = refl

-- ---- a write

pub record WriteStored (w : Writer) (s : Sym) (f : Front) (q : Room) : Type 0 where
  pub middle : Room
  pub front : Stored w.tail.room (norm_out f ++ norm_out (norm_f f)) middle
  pub back : StoredBack middle (low_bytes (leaving w.tail.used (raw_n s.model)) w.tail.win) q

norm_tail : (w : Writer) → (norm_w w).tail ≡ record { room = (norm_w w).tail.room; win = w.tail.win; used = w.tail.used }
norm_tail w =
    chosen (λ (v : Writer). v.tail ≡ record { room = v.tail.room; win = w.tail.win; used = w.tail.used }) (leb w.front.rng (2 ^ 23))
    (λ e. refl) (λ e. refl)

abbrev with_bytes : Writer → List ℕ → Tail
with_bytes w bs = record { room = puts w.tail.room bs; win = w.tail.win; used = w.tail.used }

cut_tail : (w : Writer) (t s : ℕ)
    → (norm_w (norm_w (cut_w w t s))).tail ≡ with_bytes w (norm_out (cut_to w.front t s) ++ norm_out (norm_f (cut_to w.front t s)))
cut_tail w t s =
    let x = cut_w w t s in
    norm_tail (norm_w x)
    ∙ ap (λ (y : Tail). record { room = (norm_w (norm_w x)).tail.room; win = y.win; used = y.used }) (norm_tail x)
    ∙ ap (λ (r : Room). record { room = r; win = w.tail.win; used = w.tail.used }) (cut_bytes w t s)

-- the part of the range that a symbol keeps
abbrev pub kept : Writer → Sym → Front
kept w s =
    cut_to w.front
    (upper w.front.rng (lo s.model (coded s.model s.value)) (all s.model))
    (lower w.front.rng (hi s.model (coded s.model s.value)) (all s.model))

pub write_stored : (w : Writer) (s : Sym) → Trim w.tail → (write_sym w s).tail.room.err ≡ 0 → WriteStored w s (kept w s) (write_sym w s).tail.room
write_stored w s h e =
    let n = raw_n s.model in
    let v = raw_v s.model s.value in
    let f = kept w s in
    let bs = norm_out f ++ norm_out (norm_f f) in
    let t = with_bytes w bs in
    let c = leaving w.tail.used n in
    let k : (write_sym w s).tail ≡ raw_t t n v
    = ap (λ (x : Tail). raw_t x n v)
    (cut_tail w (upper w.front.rng (lo s.model (coded s.model s.value)) (all s.model))
    (lower w.front.rng (hi s.model (coded s.model s.value)) (all s.model))) in
    let p : spare n t ≡ flush c t = spare_is (ltb 32 (w.tail.used + n)) t in
    let z : (flush c t).room.err ≡ 0 = ap (λ (x : Tail). x.room.err) (sym p) ∙ ap (λ (x : Tail). x.room.err) (sym k) ∙ e in
    let g = puts_kept bs w.tail.room h.fit in
    let m : t.room.err ≤ 1 = puts_error bs w.tail.room h.err in
    let y : t.room.err ≡ 0 = by_lt t.room.err 1 (λ l. omega arith)
    (λ l. absurd (let o : (flush c t).room.err ≡ 1 = flush_stays c t (omega arith) in omega arith)) in
    let b : StoredBack t.room (low_bytes c w.tail.win) (flush c t).room = flush_stored c t g.fit m z in
    subst (λ (x : Tail). WriteStored w s f x.room) (sym k)
    (record {
      middle = t.room;
      front = puts_stored bs w.tail.room h.fit y;
      back = subst (λ (x : Tail). StoredBack t.room (low_bytes c w.tail.win) x.room) (sym p) b;
    })

-- ---- the same of an accepted call that leaves error 0

no_error : (e : ℕ) → error_of e ≡ pos 0 → e ≡ 0
no_error zero h = refl
no_error (suc n) h = absurd (let y : suc n ≡ 0 = ap err_of h in omega arith)

pub bytes_stored : (o : Out) (s : Sym) → (enc_sym o s).answer.refusal ≡ 0 → (written o s).state.error ≡ pos 0
    → WriteStored (as_writer o) s (kept (as_writer o) s) (write_sym (as_writer o) s).tail.room
unfolding written
bytes_stored o s a e = write_stored (as_writer o) s (write_accepted o s a).entry.sound.firm.trim (no_error (write_sym (as_writer o) s).tail.room.err e)
