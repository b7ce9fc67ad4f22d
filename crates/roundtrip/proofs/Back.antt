-- The writer's raw bits: bytes that leave the window for the buffer's back do not change the number at the buffer's low end, whatever stands above
-- the window. Part 3 of the argument. Assumes nothing.
use Prim.Native.Nat.{ℕ, zero, suc, ◌+◌, ◌-◌, ◌*◌, ◌%◌, ◌^◌, ◌≤◌, ◌<◌}
use mathlib.Core.Path.{◌≡◌, refl, ap, ◌∙◌}
use mathlib.Core.List.{List, ◌∷◌}
use native.Mathlib.Omega.{arith}
use native.Mathlib.Nat.{mul_assoc, mul_comm, mul-add}
use borrow.Author.Tests.{lt-ltb}
use lib.ListN.{length, take, drop, set, length-set}
use lib.Pow.{pow-add, shr_lt}
use lib.Seq.{take-set-le, drop-set-lt, drop-cons, get_or-set_same}
use Rattle.deciding.proofs.Choice.{by_lt}
use Rattle.entcode.specs.Room.{Room}
use Rattle.entcode.proofs.RoomLaws.{back_full}
use Rattle.entcode.specs.Tail.{Tail, flush1, flush}
use Rattle.entcode.proofs.TailLaws.{flush_stays}
use Rattle.roundtrip.proofs.Digits.{number, pow_split}

-- the raw bytes stored
abbrev pub back_bytes : Room → List ℕ
back_bytes r = drop (length r.buf - r.end) r.buf

-- the number at the buffer's low end, if Z is what still comes above the window
abbrev pub tail_number : Tail → ℕ → ℕ
tail_number t Z = number (t.win + 2 ^ t.used * Z) (back_bytes t.room)

-- c bytes of the window were stored at the back
pub record Flushed (t : Tail) (c : ℕ) (s : Tail) : Type 0 where
  pub end : s.room.end ≡ t.room.end + c
  pub used : s.used + 8 * c ≡ t.used
  pub err : s.room.err ≡ t.room.err
  pub len : length s.room.buf ≡ length t.room.buf
  pub offs : s.room.offs ≡ t.room.offs
  pub front : take t.room.offs s.room.buf ≡ take t.room.offs t.room.buf
  pub slim : t.win < 2 ^ t.used → s.win < 2 ^ s.used
  pub number : (Z : ℕ) → tail_number s Z ≡ tail_number t Z

-- ---- one byte

drop_set : (l : List ℕ) (i b : ℕ) → i < length l → drop i (set l i b) ≡ b ∷ drop (suc i) l
drop_set l i b h =
    drop-cons (set l i b) i 0 (rw length-set h)
    ∙ rw (get_or-set_same l i b 0 h, drop-set-lt (suc i) l i b (omega arith))

pow_eight : (u Z : ℕ) → 8 ≤ u → 2 ^ u * Z ≡ 256 * (2 ^ (u - 8) * Z)
pow_eight u Z h = ap (λ (n : ℕ). n * Z) (pow_split u 8 h) ∙ mul_assoc 256 (2 ^ (u - 8)) Z

flush_one : (t : Tail) → t.room.offs + t.room.end < length t.room.buf → 8 ≤ t.used → Flushed t 1 (flush1 t)
flush_one t h u =
    let n : ℕ = length t.room.buf in
    let i : ℕ = n - suc t.room.end in
    let si : suc i ≡ n - t.room.end = omega arith in
    let su : t.used ≡ (t.used - 8) + 8 = omega arith in
    rw (lt-ltb (t.room.offs + t.room.end) (length t.room.buf) h)
    (record {
      end = omega arith;
      used = omega arith;
      err = refl;
      len = length-set t.room.buf i (t.win % 256);
      offs = refl;
      front = take-set-le t.room.offs t.room.buf i (t.win % 256) (omega arith);
      slim = λ l. shr_lt (t.used - 8) 8 (rw su at l);
      number = λ Z.
          rw (length-set t.room.buf i (t.win % 256), drop_set t.room.buf i (t.win % 256) (omega arith), si)
          (ap (λ (a : ℕ). number a (back_bytes t.room)) (omega (arith, pow_eight t.used Z u)));
    })

flushed_then : (t s q : Tail) (c : ℕ) → Flushed t 1 s → Flushed s c q → Flushed t (suc c) q
flushed_then t s q c h g =
    let o : s.room.offs ≡ t.room.offs = h.offs in
    record {
      end = omega (arith, h.end, g.end);
      used = omega (arith, h.used, g.used);
      err = g.err ∙ h.err;
      len = g.len ∙ h.len;
      offs = g.offs ∙ h.offs;
      front = (rw o at g.front) ∙ h.front;
      slim = λ l. g.slim (h.slim l);
      number = λ Z. g.number Z ∙ h.number Z;
    }

-- ---- c bytes: with room for them, and without

pub flush_room : (c : ℕ) (t : Tail) → t.room.offs + t.room.end + c ≤ length t.room.buf → 8 * c ≤ t.used → Flushed t c (flush c t)
flush_room zero t h u =
    record {
      end = omega arith;
      used = omega arith;
      err = refl;
      len = refl;
      offs = refl;
      front = refl;
      slim = λ l. l;
      number = λ Z. refl;
    }
flush_room (suc c) t h u =
    let p : Flushed t 1 (flush1 t) = flush_one t (omega arith) (omega arith) in
    flushed_then t (flush1 t) (flush c (flush1 t)) c p
    (flush_room c (flush1 t) (omega (arith, p.end, p.offs, p.len)) (omega (arith, p.used)))

pub flush_full : (c : ℕ) (t : Tail) → length t.room.buf < t.room.offs + t.room.end + c → 8 * c ≤ t.used
    → t.room.offs + t.room.end ≤ length t.room.buf → (flush c t).room.err ≡ 1
flush_full zero t h u f = absurd (omega arith)
flush_full (suc c) t h u f =
    by_lt (t.room.offs + t.room.end) (length t.room.buf)
    (λ l. let p : Flushed t 1 (flush1 t) = flush_one t l (omega arith) in
    flush_full c (flush1 t) (omega (arith, p.end, p.offs, p.len)) (omega (arith, p.used)) (omega (arith, p.end, p.offs, p.len)))
    (λ l. flush_stays c (flush1 t) (back_full t.room (t.win % 256) l))

-- ---- n bits of value v more in a window w of u bits

pub append_number : (w v u n Z : ℕ) → (w + v * 2 ^ u) + 2 ^ (u + n) * Z ≡ w + 2 ^ u * (v + 2 ^ n * Z)
append_number w v u n Z =
    rw (pow-add 2 u n) (omega (arith, mul_assoc (2 ^ u) (2 ^ n) Z, mul-add (2 ^ u) v (2 ^ n * Z), mul_comm (2 ^ u) v))
