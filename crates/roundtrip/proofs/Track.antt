-- The writer followed by its interval and its raw number, step by step, as long as no byte is dropped. Part 6 of the argument. Assumes nothing.
use Prim.Native.Nat.{ℕ, zero, suc, ◌+◌, ◌-◌, ◌*◌, ◌/◌, ◌^◌, ◌≤◌, ◌<◌}
use mathlib.Core.Path.{◌≡◌, refl, ap, ◌∙◌, subst}
use mathlib.Core.Bool.{Bool, true, false, cond}
use mathlib.Core.List.{List, [], ◌∷◌}
use native.Mathlib.Omega.{arith}
use borrow.Author.Tests.{ltb-false, leb-true}
use lib.Dec.{leb, ltb}
use lib.ListN.{length, take, drop}
use lib.Seq.{drop-length}
use Rattle.deciding.proofs.Choice.{by_lt}
use Rattle.entcode.specs.Models.{Model, Sym, raw_n, raw_v, Allowed}
use Rattle.entcode.specs.Cuts.{upper, lower}
use Rattle.entcode.proofs.CutLaws.{Proper, cut_ok}
use Rattle.entcode.specs.Inner.Reading.{CutOk}
use Rattle.entcode.proofs.ModelLaws.{proper, raw_most, raw_small}
use Rattle.entcode.specs.Front.{shift_out}
use Rattle.entcode.proofs.RoomLaws.{puts_stays, puts_len}
use Rattle.entcode.specs.Tail.{Tail, flush, append}
use Rattle.entcode.proofs.TailLaws.{flush_stays, flush_len, append_slim}
use Rattle.entcode.specs.Writer.{Writer, open_w, shift_w, norm_w, cut_w, code_w, raw_w, write_sym, write_all}
use Rattle.roundtrip.specs.Statement.{AllAllowed}
use Rattle.roundtrip.proofs.Digits.{number}
use Rattle.roundtrip.proofs.Carry.{front_number, tame_cut, cut_number}
use Rattle.roundtrip.proofs.Back.{Flushed, flush_room, flush_full, tail_number, back_bytes, append_number}
use Rattle.roundtrip.proofs.Interval.{Interval, shift_i, norm_i, cut_i, code_i, sym_i, run_i, open_i, raw_number, sym_size}
use Rattle.roundtrip.proofs.Progress.{Fine, Over, Shifted, size_of, digits_of, low_of, stored_number, shifted, shifted_fine, shift_over}

-- nothing was lost: the writer w over n bytes stands at the interval a, and the buffer's low end is g Z, Z what still comes above
pub record View (w : Writer) (a : Interval) (g : ℕ → ℕ) (n : ℕ) : Type 0 where
  pub fine : Fine w
  pub digits : digits_of w ≡ a.digits
  pub low : low_of w ≡ a.low
  pub size : w.front.rng ≡ a.size
  pub raw : (Z : ℕ) → tail_number w.tail Z ≡ g Z
  pub len : size_of w ≡ n

-- something was
pub record Lost (w : Writer) (n : ℕ) : Type 0 where
  pub over : Over w
  pub len : size_of w ≡ n

-- one or the other
pub data Track (w : Writer) (a : Interval) (g : ℕ → ℕ) (n : ℕ) : Type 0 where
  went : View w a g n → Track w a g n
  lost : Lost w n → Track w a g n

-- a writer with another tail, its total n more
abbrev with_tail : Writer → Tail → ℕ → Writer
with_tail w t n = record { front = w.front; tail = t; total = w.total + n }

-- ---- opening

open_view : (b : List ℕ) → View (open_w b) open_i (λ Z. Z) (length b)
open_view b =
    record {
      fine =
          record {
            tame = record { some = omega arith; fits = omega arith; byte = omega arith; room = λ h. absurd (omega arith) };
            most = omega arith;
            fit = omega arith;
            err = refl;
            count = refl;
            used = omega arith;
            slim = omega arith;
          };
      digits = refl;
      low = refl;
      size = refl;
      raw = λ Z. let e : length b - 0 ≡ length b = omega arith in let d : drop (length b) b ≡ [] = drop-length b in rw (e, d) (omega arith);
      len = refl;
    }

-- ---- renormalising

lost_shift : (w : Writer) (n : ℕ) → Lost w n → Lost (shift_w w) n
lost_shift w n o =
    record {
      over =
          record {
            err = puts_stays (shift_out w.front) w.tail.room o.over.err;
            much = omega (arith, puts_len (shift_out w.front) w.tail.room, o.over.much);
          };
      len = puts_len (shift_out w.front) w.tail.room ∙ o.len;
    }

track_shift : (w : Writer) (a : Interval) (g : ℕ → ℕ) (n : ℕ) → View w a g n → w.front.rng ≤ 2 ^ 23 → Track (shift_w w) (shift_i a) g n
track_shift w a g n v l =
    by_lt (size_of w) (w.tail.room.offs + w.tail.room.end + length (shift_out w.front))
    (λ h. lost (record { over = shift_over w v.fine h; len = puts_len (shift_out w.front) w.tail.room ∙ v.len }))
    (λ h. let s : Shifted w (shift_w w) = shifted w v.fine l h in
    went (record {
      fine = shifted_fine w v.fine l h;
      digits = s.digits ∙ ap suc v.digits;
      low = s.low ∙ ap (λ (x : ℕ). 256 * x) v.low;
      size = ap (λ (x : ℕ). 256 * x) v.size;
      raw = λ Z. s.raw Z ∙ v.raw Z;
      len = s.len ∙ v.len;
    }))

norm_lost : (t : Bool) (w : Writer) (n : ℕ) → Lost w n → Lost (cond t (shift_w w) w) n
norm_lost true w n o = lost_shift w n o
norm_lost false w n o = o

norm_went : (t : Bool) (w : Writer) (a : Interval) (g : ℕ → ℕ) (n : ℕ) → leb w.front.rng (2 ^ 23) ≡ t → View w a g n
    → Track (cond t (shift_w w) w) (cond t (shift_i a) a) g n
norm_went true w a g n e v = track_shift w a g n v (leb-true w.front.rng (2 ^ 23) e)
norm_went false w a g n e v = went v

track_norm : (w : Writer) (a : Interval) (g : ℕ → ℕ) (n : ℕ) → Track w a g n → Track (norm_w w) (norm_i a) g n
track_norm w a g n (went v) =
    subst (λ (x : ℕ). Track (norm_w w) (cond (leb x (2 ^ 23)) (shift_i a) a) g n) v.size
    (norm_went (leb w.front.rng (2 ^ 23)) w a g n refl v)
track_norm w a g n (lost o) = lost (norm_lost (leb w.front.rng (2 ^ 23)) w n o)

-- ---- a coded part

-- t and s are the writer's ends of the part, t' and s' the interval's
cut_went : (w : Writer) (a : Interval) (g : ℕ → ℕ) (n t s t' s' : ℕ) → View w a g n → t ≡ t' → s ≡ s' → CutOk w.front.rng t s
    → View (cut_w w t s) (cut_i a t' s') g n
cut_went w a g n t s t' s' v et es c =
    let F : Fine w = v.fine in
    record {
      fine =
          record {
            tame = tame_cut w.front t s F.tame (omega (arith, c.some)) c.inside;
            most = omega (arith, F.most, c.inside);
            fit = F.fit;
            err = F.err;
            count = F.count;
            used = F.used;
            slim = F.slim;
          };
      digits = v.digits;
      low = cut_number (stored_number w) w.front t s ∙ omega (arith, v.low, v.size);
      size = omega arith;
      raw = v.raw;
      len = v.len;
    }

cut_lost : (w : Writer) (n t s : ℕ) → Lost w n → Lost (cut_w w t s) n
cut_lost w n t s o = record { over = record { err = o.over.err; much = o.over.much }; len = o.len }

track_code : (w : Writer) (a : Interval) (g : ℕ → ℕ) (n fl fh ft : ℕ) → Track w a g n → 2 ^ 23 < a.size → Proper fl fh ft
    → Track (code_w w fl fh ft) (code_i a fl fh ft) g n
track_code w a g n fl fh ft (went v) h p =
    let c : CutOk w.front.rng (upper w.front.rng fl ft) (lower w.front.rng fh ft)
    = cut_ok w.front.rng fl fh ft (omega (arith, v.size)) p in
    track_norm _ _ g n (track_norm _ _ g n (went (cut_went w a g n _ _ (upper a.size fl ft) (lower a.size fh ft) v
    (ap (λ (x : ℕ). upper x fl ft) v.size) (ap (λ (x : ℕ). lower x fh ft) v.size) c)))
track_code w a g n fl fh ft (lost o) h p =
    let t = upper w.front.rng fl ft in
    let s = lower w.front.rng fh ft in
    track_norm _ _ g n (track_norm (cut_w w t s) (cut_i a (upper a.size fl ft) (lower a.size fh ft)) g n (lost (cut_lost w n t s o)))

-- ---- a raw part: n bits of value v

-- the window has room for them once c bytes have left it
append_went : (w : Writer) (a : Interval) (g : ℕ → ℕ) (len n v : ℕ) (t : Tail) (c : ℕ) → View w a g len → Flushed w.tail c t
    → t.used + n ≤ 32 → v < 2 ^ n → t.room.offs + t.room.end ≤ length t.room.buf
    → View (with_tail w (append t n v) n) a (λ Z. g (v + 2 ^ n * Z)) len
append_went w a g len n v t c vw f l b fit =
    let F : Fine w = vw.fine in
    let o : t.room.offs ≡ w.tail.room.offs = f.offs in
    let st : take t.room.offs t.room.buf ≡ take w.tail.room.offs w.tail.room.buf = rw o f.front in
    record {
      fine =
          record {
            tame = F.tame;
            most = F.most;
            fit = fit;
            err = f.err ∙ F.err;
            count = omega (arith, F.count, o, f.end, f.used);
            used = l;
            slim = append_slim t.win v t.used n (f.slim F.slim) b;
          };
      digits = omega (arith, vw.digits, o);
      low = ap (λ (x : List ℕ). front_number (number 0 x) w.front) st ∙ vw.low;
      size = vw.size;
      raw = λ Z.
          ap (λ (x : ℕ). number x (back_bytes t.room)) (append_number t.win v t.used n Z)
          ∙ f.number (v + 2 ^ n * Z)
          ∙ vw.raw (v + 2 ^ n * Z);
      len = f.len ∙ vw.len;
    }

raw_went : (t : Bool) (w : Writer) (a : Interval) (g : ℕ → ℕ) (len n v : ℕ) → ltb 32 (w.tail.used + n) ≡ t → View w a g len → n ≤ 25 → v < 2 ^ n
    → Track (with_tail w (append (cond t (flush (w.tail.used / 8) w.tail) w.tail) n v) n) a (λ Z. g (v + 2 ^ n * Z)) len
raw_went true w a g len n v e vw l b =
    let F : Fine w = vw.fine in
    let c : ℕ = w.tail.used / 8 in
    by_lt (size_of w) (w.tail.room.offs + w.tail.room.end + c)
    (λ h. lost (record {
      over =
          record { err = flush_full c w.tail h (omega arith) F.fit; much = omega (arith, flush_len c w.tail, F.count) };
      len = flush_len c w.tail ∙ vw.len;
    }))
    (λ h. let f : Flushed w.tail c (flush c w.tail) = flush_room c w.tail h (omega arith) in
    went (append_went w a g len n v (flush c w.tail) c vw f (omega (arith, f.used)) b (omega (arith, f.offs, f.end, f.len))))
raw_went false w a g len n v e vw l b =
    let F : Fine w = vw.fine in
    let f : Flushed w.tail 0 w.tail = flush_room zero w.tail (omega (arith, F.fit)) (omega arith) in
    went (append_went w a g len n v w.tail 0 vw f (ltb-false 32 (w.tail.used + n) e) b F.fit)

raw_lost : (t : Bool) (w : Writer) (len n v : ℕ) → Lost w len
    → Lost (with_tail w (append (cond t (flush (w.tail.used / 8) w.tail) w.tail) n v) n) len
raw_lost true w len n v o =
    let c : ℕ = w.tail.used / 8 in
    record {
      over =
          record { err = flush_stays c w.tail o.over.err; much = omega (arith, flush_len c w.tail, o.over.much) };
      len = flush_len c w.tail ∙ o.len;
    }
raw_lost false w len n v o = record { over = record { err = o.over.err; much = omega (arith, o.over.much) }; len = o.len }

track_raw : (w : Writer) (a : Interval) (g : ℕ → ℕ) (len n v : ℕ) → Track w a g len → n ≤ 25 → v < 2 ^ n
    → Track (raw_w w n v) a (λ Z. g (v + 2 ^ n * Z)) len
track_raw w a g len n v (went vw) l b = raw_went (ltb 32 (w.tail.used + n)) w a g len n v refl vw l b
track_raw w a g len n v (lost o) l b = lost (raw_lost (ltb 32 (w.tail.used + n)) w len n v o)

-- ---- a symbol, and a list of them

track_sym : (w : Writer) (a : Interval) (g : ℕ → ℕ) (n : ℕ) (s : Sym) → Allowed s.model s.value → Track w a g n → 2 ^ 23 < a.size
    → Track (write_sym w s) (sym_i a s) (λ Z. g (raw_v s.model s.value + 2 ^ raw_n s.model * Z)) n
track_sym w a g n s ok t h =
    let m : Model = s.model in
    track_raw _ (sym_i a s) g n (raw_n m) (raw_v m s.value) (track_code w a g n _ _ _ t h (proper m s.value ok))
    (raw_most m ok.readable) (raw_small m s.value ok.fitting)

track_all : (ss : List Sym) (w : Writer) (a : Interval) (g : ℕ → ℕ) (n : ℕ) → AllAllowed ss → Track w a g n → 2 ^ 23 < a.size
    → Track (write_all w ss) (run_i a ss) (λ X. g (raw_number ss X)) n
track_all [] w a g n ok t h = t
track_all (s ∷ ss) w a g n ok t h =
    track_all ss (write_sym w s) (sym_i a s) (λ Z. g (raw_v s.model s.value + 2 ^ raw_n s.model * Z)) n ok.1
    (track_sym w a g n s ok.0 t h) (sym_size a s ok.0 h)

-- from a fresh writer on
pub track_open : (b : List ℕ) (ss : List Sym) → AllAllowed ss → Track (write_all (open_w b) ss) (run_i open_i ss) (λ X. raw_number ss X) (length b)
track_open b ss ok = track_all ss (open_w b) open_i (λ Z. Z) (length b) ok (went (open_view b)) (omega arith)
