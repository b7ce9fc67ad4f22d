-- Laws of the reader: the fixed turns of renormalising are the RFC's loop, and every read keeps a reader sound and
-- adds to its total what its model says. Assumes nothing.
use Prim.Native.Nat.{ℕ, zero, suc, ◌+◌, ◌-◌, ◌*◌, ◌/◌, ◌^◌, ◌≤◌, ◌<◌, min}
use mathlib.Core.Path.{◌≡◌, refl, sym, ap, ◌∙◌}
use mathlib.Core.List.{List}
use native.Mathlib.Omega.{arith}
use borrow.Author.Tests.{le-leb, lt-leb}
use lib.ListN.{length}
use lib.Pow.{shr_lt}
use Rattle.deciding.proofs.Choice.{chosen_le, chosen_lt}
use Rattle.entcode.specs.declared.Dec.{Dec}
use Rattle.entcode.specs.Models.{Model, bit, raw, num, tab, lo, hi, all, raw_n, Readable}
use Rattle.entcode.specs.Cuts.{upper, lower}
use Rattle.entcode.specs.Inner.Reading.{CutOk, Core}
use Rattle.entcode.proofs.CutLaws.{cut_ok}
use Rattle.entcode.proofs.ModelLaws.{raw_most, pick_holds}
use Rattle.entcode.proofs.TailLaws.{append_slim}
use Rattle.entcode.specs.Reader.{last_of, shift_r, norm_r, settled, cut_r, cut_down, picked, after_code, fetch, fetches, fill, drop_bits, raw_next, whole, marked, read_next, Bytes}

-- ---- renormalising is the loop 'while the range is at most 2^23'

pub norm_done : (b : List ℕ) (d : Dec) → 2 ^ 23 < d.rng → norm_r b d ≡ d
norm_done b d h = rw (lt-leb d.rng (2 ^ 23) h)

pub norm_due : (b : List ℕ) (d : Dec) → d.rng ≤ 2 ^ 23 → norm_r b d ≡ shift_r b d
norm_due b d h = rw (le-leb d.rng (2 ^ 23) h)

-- a turn makes the range 256-fold, unless it is above 2^23
pub norm_grows : (b : List ℕ) (d : Dec) (m : ℕ) → m ≤ 2 ^ 16 → m ≤ d.rng → min (m * 256) (suc (2 ^ 23)) ≤ (norm_r b d).rng
norm_grows b d m l h =
    chosen_le (λ (q : Dec). min (m * 256) (suc (2 ^ 23)) ≤ q.rng) d.rng (2 ^ 23) (λ p. omega arith) (λ p. omega arith)

-- two turns settle a range of 256 or more
pub norm_twice : (b : List ℕ) (d : Dec) → 256 ≤ d.rng → 2 ^ 23 < (norm_r b (norm_r b d)).rng
norm_twice b d h =
    let a : 2 ^ 16 ≤ (norm_r b d).rng = omega (arith, norm_grows b d 256 (omega arith) h) in
    omega (arith, norm_grows b (norm_r b d) (2 ^ 16) (omega arith) a)

pub settled_done : (b : List ℕ) (d : Dec) → 2 ^ 23 < d.rng → settled b d ≡ d
unfolding settled
settled_done b d h =
    ap (λ (q : Dec). norm_r b (norm_r b q)) (norm_done b d h) ∙ ap (λ (q : Dec). norm_r b q) (norm_done b d h) ∙ norm_done b d h

pub settled_turn : (b : List ℕ) (d : Dec) → 0 < d.rng → d.rng ≤ 2 ^ 23 → settled b (shift_r b d) ≡ settled b d
unfolding settled
settled_turn b d p h =
    norm_done b (norm_r b (norm_r b (shift_r b d))) (norm_twice b (shift_r b d) (omega arith))
    ∙ ap (λ (q : Dec). norm_r b (norm_r b q)) (sym (norm_due b d h))

pub settled_cut : (b : List ℕ) (d : Dec) (t s : ℕ) → s + 256 ≤ t → settled b (cut_r d t s) ≡ cut_down b d t s
unfolding settled cut_down
settled_cut b d t s h = norm_done b (norm_r b (norm_r b (cut_r d t s))) (norm_twice b (cut_r d t s) (omega arith))

-- ---- what a read asks of a packet and a reader: all of document 01's rules but the total's

-- what a step to q keeps of it, adding n to the total at the most
pub record CoreNext (b : List ℕ) (n : ℕ) (d q : Dec) : Type 0 where
  pub core : Core b q
  pub least : d.total ≤ q.total
  pub most : q.total ≤ d.total + n

-- ---- a coded part

-- between a cut and the end of renormalising
record Loose (b : List ℕ) (d : Dec) : Type 0 where
  short : length b ≤ 1275
  some : 1 ≤ d.rng
  most : d.rng ≤ 2 ^ 31
  inside : d.val < d.rng
  kept : d.storage ≡ length b
  place : d.offs ≤ length b
  back : d.endoffs ≤ length b
  held : d.rem ≤ 255
  flag : d.error ≤ 1
  used : d.wbits ≤ 32
  slim : d.window < 2 ^ d.wbits

record Turned (b : List ℕ) (d q : Dec) : Type 0 where
  loose : Loose b q
  least : d.total ≤ q.total
  most : q.total ≤ d.total + 8

turned : (b : List ℕ) (d : Dec) → Bytes b → Loose b d → Turned b d (norm_r b d)
turned b d y l =
    chosen_le (Turned b d) d.rng (2 ^ 23)
    (λ h. record {
      loose = record {
        short = l.short;
        some = omega (arith, l.some);
        most = omega arith;
        inside = omega (arith, l.inside);
        kept = l.kept;
        place = omega arith;
        back = l.back;
        held = omega (arith, y d.offs);
        flag = l.flag;
        used = l.used;
        slim = l.slim;
      };
      least = omega arith;
      most = omega arith;
    })
    (λ h. record { loose = l; least = omega arith; most = omega arith })

core_of : (b : List ℕ) (d : Dec) → Loose b d → 2 ^ 23 < d.rng → Core b d
core_of b d l h =
    record {
      short = l.short;
      above = h;
      most = l.most;
      inside = l.inside;
      kept = l.kept;
      place = l.place;
      back = l.back;
      held = l.held;
      flag = l.flag;
      used = l.used;
      slim = l.slim;
    }

-- the part from t down to s holds the value
pub core_cut : (b : List ℕ) (d : Dec) (t s : ℕ) → Bytes b → Core b d → CutOk d.rng t s → s ≤ d.val → d.val < t
    → CoreNext b 16 d (cut_down b d t s)
unfolding cut_down
core_cut b d t s y c k low high =
    let x = cut_r d t s in
    let l : Loose b x = record {
      short = c.short;
      some = omega (arith, k.some);
      most = omega (arith, k.inside, c.most);
      inside = omega arith;
      kept = c.kept;
      place = c.place;
      back = c.back;
      held = c.held;
      flag = c.flag;
      used = c.used;
      slim = c.slim;
    } in
    let p : Turned b x (norm_r b x) = turned b x y l in
    let q : Turned b (norm_r b x) (norm_r b (norm_r b x)) = turned b (norm_r b x) y p.loose in
    record {
      core = core_of b (norm_r b (norm_r b x)) q.loose (norm_twice b x (omega (arith, k.some)));
      least = omega (arith, p.least, q.least);
      most = omega (arith, p.most, q.most);
    }

-- ---- a raw part

pub last_byte : (b : List ℕ) → Bytes b → (n : ℕ) → last_of b n < 256
last_byte b y zero = omega arith
last_byte b y (suc i) = y i

-- what fetching bytes into the window changes: the window, its bits, the place from the end
pub record Fetched (b : List ℕ) (c : ℕ) (d q : Dec) : Type 0 where
  pub core : Core b q
  pub used : q.wbits ≡ d.wbits + 8 * c
  pub rng : q.rng ≡ d.rng
  pub val : q.val ≡ d.val
  pub rem : q.rem ≡ d.rem
  pub offs : q.offs ≡ d.offs
  pub total : q.total ≡ d.total
  pub ext : q.ext ≡ d.ext
  pub error : q.error ≡ d.error

fetch_core : (b : List ℕ) (d : Dec) → Bytes b → Core b d → d.wbits ≤ 24 → Core b (fetch b d)
fetch_core b d y c h =
    record {
      short = c.short;
      above = c.above;
      most = c.most;
      inside = c.inside;
      kept = c.kept;
      place = c.place;
      back = omega arith;
      held = c.held;
      flag = c.flag;
      used = omega arith;
      slim = append_slim d.window (last_of b (length b - d.endoffs)) d.wbits 8 c.slim (last_byte b y (length b - d.endoffs));
    }

pub fetches_kept : (b : List ℕ) (c : ℕ) (d : Dec) → Bytes b → Core b d → d.wbits + 8 * c ≤ 32 → Fetched b c d (fetches b c d)
fetches_kept b zero d y k h =
    record {
      core = k;
      used = omega arith;
      rng = refl;
      val = refl;
      rem = refl;
      offs = refl;
      total = refl;
      ext = refl;
      error = refl;
    }
fetches_kept b (suc c) d y k h =
    let p : Fetched b c (fetch b d) (fetches b c (fetch b d)) = fetches_kept b c (fetch b d) y (fetch_core b d y k (omega arith)) (omega arith) in
    record {
      core = p.core;
      used = omega (arith, p.used);
      rng = p.rng;
      val = p.val;
      rem = p.rem;
      offs = p.offs;
      total = p.total;
      ext = p.ext;
      error = p.error;
    }

-- n bits are there, and little else has changed
pub record Filled (b : List ℕ) (n : ℕ) (d q : Dec) : Type 0 where
  pub fetched : ℕ
  pub kept : Fetched b fetched d q
  pub enough : n ≤ q.wbits

pub fill_kept : (b : List ℕ) (n : ℕ) (d : Dec) → Bytes b → Core b d → n ≤ 25 → Filled b n d (fill b n d)
fill_kept b n d y c h =
    chosen_lt (Filled b n d) d.wbits n
    (λ l. let p = fetches_kept b ((32 - d.wbits) / 8) d y c (omega arith) in
    record { fetched = (32 - d.wbits) / 8; kept = p; enough = omega (arith, p.used) })
    (λ l. record { fetched = 0; kept = fetches_kept b 0 d y c (omega (arith, c.used)); enough = l })

pub drop_slim : (w u n : ℕ) → n ≤ u → w < 2 ^ u → w / 2 ^ n < 2 ^ (u - n)
drop_slim w u n h l = let e : u ≡ (u - n) + n = omega arith in shr_lt (u - n) n (rw e at l)

pub core_drop : (b : List ℕ) (n : ℕ) (d : Dec) → Core b d → n ≤ d.wbits → Core b (drop_bits n d)
core_drop b n d c h =
    record {
      short = c.short;
      above = c.above;
      most = c.most;
      inside = c.inside;
      kept = c.kept;
      place = c.place;
      back = c.back;
      held = c.held;
      flag = c.flag;
      used = omega (arith, c.used);
      slim = drop_slim d.window d.wbits n h c.slim;
    }

pub core_raw : (b : List ℕ) (n : ℕ) (d : Dec) → Bytes b → Core b d → n ≤ 25 → CoreNext b n d (raw_next b n d)
core_raw b n d y c h =
    let f = fill_kept b n d y c h in
    record {
      core = core_drop b n (fill b n d) f.kept.core f.enough;
      least = omega (arith, f.kept.total);
      most = omega (arith, f.kept.total);
    }

-- ---- a read

marked_most : (m : Model) (y e : ℕ) → e ≤ 1 → marked m y e ≤ 1
marked_most (bit lp) y e h = h
marked_most (raw n) y e h = h
marked_most (num ft) y e h = chosen_lt (λ (x : ℕ). x ≤ 1) (ft - 1) y (λ p. omega arith) (λ p. h)
marked_most (tab scale t) y e h = h

pub core_read : (b : List ℕ) (m : Model) (d : Dec) → Bytes b → Readable m → Core b d → CoreNext b (16 + raw_n m) d (read_next b m d)
unfolding read_next
core_read b m d y o c =
    let k = picked m d in
    let p = pick_holds m d.rng d.val o c.above c.inside in
    let a = core_cut b d (upper d.rng (lo m k) (all m)) (lower d.rng (hi m k) (all m)) y c
    (cut_ok d.rng (lo m k) (hi m k) (all m) c.above p.proper) p.low p.high in
    let r = core_raw b (raw_n m) (after_code b m d) y a.core (raw_most m o) in
    let z = r.core in
    record {
      core = record {
        short = z.short;
        above = z.above;
        most = z.most;
        inside = z.inside;
        kept = z.kept;
        place = z.place;
        back = z.back;
        held = z.held;
        flag = marked_most m (whole b m d) d.error c.flag;
        used = z.used;
        slim = z.slim;
      };
      least = omega (arith, a.least, r.least);
      most = omega (arith, a.most, r.most);
    }
