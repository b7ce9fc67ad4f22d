-- Raw bits: what flushing and appending keep, whether or not there is room. Assumes nothing.
use Prim.Native.Nat.{ℕ, zero, suc, ◌+◌, ◌-◌, ◌*◌, ◌/◌, ◌%◌, ◌^◌, ◌≤◌, ◌<◌}
use mathlib.Core.Path.{◌≡◌, refl, ◌∙◌}
use mathlib.Core.Bool.{Bool, true, false, cond}
use native.Mathlib.Omega.{arith}
use native.Mathlib.Nat.{mul_comm}
use borrow.Author.Tests.{ltb-false}
use lib.Arith.{digits_lt}
use lib.Dec.{ltb}
use lib.ListN.{length}
use lib.Pow.{pow-add, shr_lt}
use Rattle.entcode.specs.Room.{back}
use Rattle.entcode.proofs.RoomLaws.{BackKept, back_kept, back_stays, back_len}
use Rattle.entcode.specs.Tail.{Tail, flush1, flush, append, raw_t}

-- the error stays, and so does the length
pub flush_stays : (c : ℕ) (t : Tail) → t.room.err ≡ 1 → (flush c t).room.err ≡ 1
flush_stays zero t h = h
flush_stays (suc c) t h = flush_stays c (flush1 t) (back_stays t.room (t.win % 256) h)

pub flush_len : (c : ℕ) (t : Tail) → length (flush c t).room.buf ≡ length t.room.buf
flush_len zero t = refl
flush_len (suc c) t = flush_len c (flush1 t) ∙ back_len t.room (t.win % 256)

-- what a tail keeps: places within the buffer, an error of 0 or 1, a window that fits its bits
pub record Trim (t : Tail) : Type 0 where
  pub fit : t.room.offs + t.room.end ≤ length t.room.buf
  pub err : t.room.err ≤ 1
  pub used : t.used ≤ 32
  pub slim : t.win < 2 ^ t.used

pub record FlushKept (c : ℕ) (t s : Tail) : Type 0 where
  pub trim : Trim s
  pub used : s.used + 8 * c ≡ t.used

pub flush_kept : (c : ℕ) (t : Tail) → Trim t → 8 * c ≤ t.used → FlushKept c t (flush c t)
flush_kept zero t k u = record { trim = k; used = omega arith }
flush_kept (suc c) t k u =
    let b : BackKept t.room (back t.room (t.win % 256)) = back_kept t.room (t.win % 256) k.fit k.err in
    let e : t.used ≡ (t.used - 8) + 8 = omega arith in
    let l : t.win / 256 < 2 ^ (t.used - 8) = shr_lt (t.used - 8) 8 (rw e at k.slim) in
    let r : FlushKept c (flush1 t) (flush c (flush1 t))
    = flush_kept c (flush1 t) (record { fit = b.fit; err = b.err; used = omega (arith, k.used); slim = l }) (omega arith) in
    record { trim = r.trim; used = omega (arith, r.used) }

-- n bits more in a window
pub append_slim : (w v u n : ℕ) → w < 2 ^ u → v < 2 ^ n → w + v * 2 ^ u < 2 ^ (u + n)
append_slim w v u n a b = rw (pow-add 2 u n) (omega (arith, digits_lt {q = v} {m = 2 ^ n} {r = w} {c = 2 ^ u} b a, mul_comm (2 ^ u) (2 ^ n)))

raw_kept_by : (x : Bool) (t : Tail) (n v : ℕ) → ltb 32 (t.used + n) ≡ x → n ≤ 25 → v < 2 ^ n → Trim t
    → Trim (append (cond x (flush (t.used / 8) t) t) n v)
raw_kept_by true t n v e h l k =
    let f : FlushKept (t.used / 8) t (flush (t.used / 8) t) = flush_kept (t.used / 8) t k (omega arith) in
    let s = flush (t.used / 8) t in
    record {
      fit = f.trim.fit;
      err = f.trim.err;
      used = omega (arith, f.used, k.used);
      slim = append_slim s.win v s.used n f.trim.slim l;
    }
raw_kept_by false t n v e h l k =
    record { fit = k.fit; err = k.err; used = ltb-false 32 (t.used + n) e; slim = append_slim t.win v t.used n k.slim l }

pub raw_kept : (t : Tail) (n v : ℕ) → n ≤ 25 → v < 2 ^ n → Trim t → Trim (raw_t t n v)
raw_kept t n v h l k = raw_kept_by (ltb 32 (t.used + n)) t n v refl h l k

raw_len_by : (x : Bool) (t : Tail) → length (cond x (flush (t.used / 8) t) t).room.buf ≡ length t.room.buf
raw_len_by true t = flush_len (t.used / 8) t
raw_len_by false t = refl

pub raw_len : (t : Tail) (n v : ℕ) → length (raw_t t n v).room.buf ≡ length t.room.buf
raw_len t n v = raw_len_by (ltb 32 (t.used + n)) t
