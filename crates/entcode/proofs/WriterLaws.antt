-- A write keeps a writer sound if its run of 255s is one that its total can account for (8 run + 33 <= total, which a
-- fresh writer has), adds at most 41 to the total, and keeps the buffer's length. Assumes nothing.
use Prim.Native.Nat.{ℕ, suc, ◌+◌, ◌*◌, ◌^◌, ◌≤◌, ◌<◌, min}
use mathlib.Core.Path.{◌≡◌, refl, ◌∙◌}
use native.Mathlib.Omega.{arith}
use borrow.Author.Tests.{le-leb, lt-leb}
use lib.Dec.{eqb}
use lib.ListN.{length}
use Rattle.deciding.proofs.Choice.{chosen, chosen_le}
use Rattle.entcode.specs.Models.{Model, Sym, coded, lo, hi, all, raw_n, raw_v, Allowed}
use Rattle.entcode.specs.Cuts.{upper, lower}
use Rattle.entcode.specs.Inner.Reading.{CutOk}
use Rattle.entcode.proofs.CutLaws.{cut_ok}
use Rattle.entcode.proofs.ModelLaws.{proper, raw_most, raw_small}
use Rattle.entcode.specs.Front.{held_next, run_next, digit, shift_out}
use Rattle.entcode.proofs.RoomLaws.{puts_kept, puts_len, puts_error}
use Rattle.entcode.proofs.TailLaws.{Trim, raw_kept, raw_len}
use Rattle.entcode.specs.Writer.{Writer, shift_w, norm_w, cut_w, code_w, raw_w, write_sym}

-- ---- renormalising

pub norm_done : (w : Writer) → 2 ^ 23 < w.front.rng → norm_w w ≡ w
norm_done w h = rw (lt-leb w.front.rng (2 ^ 23) h)

pub norm_due : (w : Writer) → w.front.rng ≤ 2 ^ 23 → norm_w w ≡ shift_w w
norm_due w h = rw (le-leb w.front.rng (2 ^ 23) h)

-- what holds between a cut and the end of renormalising; k is what the run is ahead of the total
record Loose (k : ℕ) (w : Writer) : Type 0 where
  pos : 1 ≤ w.front.rng
  most : w.front.rng ≤ 2 ^ 31
  fits : w.front.val + w.front.rng < 2 ^ 32
  held : w.front.held ≤ 256
  tidy : 8 * w.front.run + 33 ≤ w.total + k
  trim : Trim w.tail

pub held_most : (h c : ℕ) → h ≤ 256 → held_next h c ≤ 256
held_most h c l = chosen (λ (x : ℕ). x ≤ 256) (eqb c 255) (λ e. l) (λ e. omega arith)

run_most : (x c n k : ℕ) → 8 * x + 33 ≤ n + k → 8 * run_next x c + 33 ≤ n + 8 + k
run_most x c n k h = chosen (λ (y : ℕ). 8 * y + 33 ≤ n + 8 + k) (eqb c 255) (λ e. omega arith) (λ e. omega arith)

loose_shift : (k : ℕ) (w : Writer) → w.front.rng ≤ 2 ^ 23 → Loose k w → Loose k (shift_w w)
loose_shift k w s l =
    let r = puts_kept (shift_out w.front) w.tail.room l.trim.fit in
    record {
      pos = omega (arith, l.pos);
      most = omega arith;
      fits = omega arith;
      held = held_most w.front.held (digit w.front) l.held;
      tidy = run_most w.front.run (digit w.front) w.total k l.tidy;
      trim =
          record {
            fit = r.fit;
            err = puts_error (shift_out w.front) w.tail.room l.trim.err;
            used = l.trim.used;
            slim = l.trim.slim;
          };
    }

-- one turn at the most: loose still, 8 more in all at the most, the same length, a range that grows 256-fold until it
-- is above 2^23
record Turned (k : ℕ) (w v : Writer) : Type 0 where
  loose : Loose k v
  least : w.total ≤ v.total
  most : v.total ≤ w.total + 8
  len : length v.tail.room.buf ≡ length w.tail.room.buf
  grows : (m : ℕ) → m ≤ 2 ^ 16 → m ≤ w.front.rng → min (m * 256) (suc (2 ^ 23)) ≤ v.front.rng

turned : (k : ℕ) (w : Writer) → Loose k w → Turned k w (norm_w w)
turned k w l =
    chosen_le (Turned k w) w.front.rng (2 ^ 23)
    (λ h. record {
      loose = loose_shift k w h l;
      least = omega arith;
      most = omega arith;
      len = puts_len (shift_out w.front) w.tail.room;
      grows = λ m a b. omega arith;
    })
    (λ h. record { loose = l; least = omega arith; most = omega arith; len = refl; grows = λ m a b. omega arith })

-- ---- a writer that a write may begin with

pub record Firm (k : ℕ) (w : Writer) : Type 0 where
  pub above : 2 ^ 23 < w.front.rng
  pub most : w.front.rng ≤ 2 ^ 31
  pub fits : w.front.val + w.front.rng < 2 ^ 32
  pub held : w.front.held ≤ 256
  pub tidy : 8 * w.front.run + 33 ≤ w.total + k
  pub trim : Trim w.tail

-- what a step to v keeps of it, adding at most n to the total
pub record FirmNext (k n : ℕ) (w v : Writer) : Type 0 where
  pub firm : Firm k v
  pub least : w.total ≤ v.total
  pub most : v.total ≤ w.total + n
  pub len : length v.tail.room.buf ≡ length w.tail.room.buf

pub firm_cut : (k : ℕ) (w : Writer) (t s : ℕ) → CutOk w.front.rng t s → Firm k w → FirmNext k 16 w (norm_w (norm_w (cut_w w t s)))
firm_cut k w t s c f =
    let x = cut_w w t s in
    let lx : Loose k x = record {
      pos = omega (arith, c.some);
      most = omega (arith, c.inside, f.most);
      fits = omega (arith, c.inside, f.fits);
      held = f.held;
      tidy = f.tidy;
      trim = f.trim;
    } in
    let a : Turned k x (norm_w x) = turned k x lx in
    let b : Turned k (norm_w x) (norm_w (norm_w x)) = turned k (norm_w x) a.loose in
    let g : 2 ^ 16 ≤ (norm_w x).front.rng = omega (arith, a.grows 256 (omega arith) (omega (arith, c.some))) in
    let l = b.loose in
    record {
      firm = record {
        above = omega (arith, b.grows (2 ^ 16) (omega arith) g);
        most = l.most;
        fits = l.fits;
        held = l.held;
        tidy = l.tidy;
        trim = l.trim;
      };
      least = omega (arith, a.least, b.least);
      most = omega (arith, a.most, b.most);
      len = b.len ∙ a.len;
    }

pub firm_raw : (k : ℕ) (w : Writer) (n v : ℕ) → n ≤ 25 → v < 2 ^ n → Firm k w → FirmNext k n w (raw_w w n v)
firm_raw k w n v h l f =
    record {
      firm = record {
        above = f.above;
        most = f.most;
        fits = f.fits;
        held = f.held;
        tidy = omega (arith, f.tidy);
        trim = raw_kept w.tail n v h l f.trim;
      };
      least = omega arith;
      most = omega arith;
      len = raw_len w.tail n v;
    }

pub firm_write : (k : ℕ) (w : Writer) (s : Sym) → Allowed s.model s.value → Firm k w → FirmNext k (16 + raw_n s.model) w (write_sym w s)
firm_write k w s ok f =
    let m : Model = s.model in
    let c : ℕ = coded m s.value in
    let t = upper w.front.rng (lo m c) (all m) in
    let u = lower w.front.rng (hi m c) (all m) in
    let o : CutOk w.front.rng t u = cut_ok w.front.rng (lo m c) (hi m c) (all m) f.above (proper m s.value ok) in
    let a = firm_cut k w t u o f in
    let b = firm_raw k (code_w w (lo m c) (hi m c) (all m)) (raw_n m) (raw_v m s.value) (raw_most m ok.readable) (raw_small m s.value ok.fitting) a.firm in
    record {
      firm = b.firm;
      least = omega (arith, a.least, b.least);
      most = omega (arith, a.most, b.most);
      len = b.len ∙ a.len;
    }
