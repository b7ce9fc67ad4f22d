-- One symbol read: over a packet that lies within the interval after the symbol, the reader picks its coded part, and keeps range and total equal to the
-- writer's; with the raw number that the writer wrote, it gives the value. Part 14 of the argument. Assumes nothing.
use Prim.Native.Nat.{ℕ, suc, ◌+◌, ◌-◌, ◌*◌, ◌^◌, ◌<◌}
use mathlib.Core.Path.{◌≡◌, refl, sym, ap, ◌∙◌, subst}
use mathlib.Core.Bool.{Bool, true, false, cond}
use mathlib.Core.List.{List}
use native.Mathlib.Omega.{arith}
use borrow.Author.Tests.{le-ltb}
use lib.Dec.{leb}
use Rattle.deciding.proofs.Choice.{chosen}
use Rattle.entcode.specs.declared.Dec.{Dec}
use Rattle.entcode.specs.Models.{Model, bit, raw, num, tab, coded, lo, hi, all, raw_n, raw_v, joined, Allowed}
use Rattle.entcode.specs.Cuts.{upper, lower}
use Rattle.entcode.proofs.CutLaws.{cut_ok}
use Rattle.entcode.proofs.ModelLaws.{proper, raw_most, raw_small, joined_parts, pick_is}
use Rattle.entcode.specs.Reader.{shift_r, norm_r, cut_r, cut_down, picked, after_code, raw_val, raw_next, whole, clamped, marked, read_val, read_next, Bytes}
use Rattle.entcode.specs.Inner.Reading.{Core}
use Rattle.entcode.proofs.ReaderLaws.{core_cut, core_read}
use Rattle.entcode.specs.Writer.{Writer, shift_w, norm_w, cut_w, code_w, raw_w}
use Rattle.roundtrip.proofs.Digits.{code}
use Rattle.roundtrip.proofs.Interval.{Interval, code_i}
use Rattle.roundtrip.proofs.Within.{Within}
use Rattle.roundtrip.proofs.Stands.{StandsI, Coded, coded_stands}
use Rattle.roundtrip.proofs.RawRead.{rest, RawRead, raw_read, split_low, split_high}

-- reader and writer have the same range and total
pub record Level (d : Dec) (w : Writer) : Type 0 where
  pub rng : d.rng ≡ w.front.rng
  pub total : d.total ≡ w.total

-- the writer after the value v of the model m
abbrev wrote : Writer → Model → ℕ → Writer
wrote w m v = raw_w (code_w w (lo m (coded m v)) (hi m (coded m v)) (all m)) (raw_n m) (raw_v m v)

-- the interval after it
abbrev narrowed : Interval → Model → ℕ → Interval
narrowed a m v = code_i a (lo m (coded m v)) (hi m (coded m v)) (all m)

-- the reader after the coded part c
abbrev took_part : List ℕ → Model → Dec → ℕ → Dec
took_part b m d c = cut_down b d (upper d.rng (lo m c) (all m)) (lower d.rng (hi m c) (all m))

-- ---- a coded part keeps range and total equal, and leaves the raw number alone

level_by : (t : Bool) (b : List ℕ) (d : Dec) (w : Writer) → Level d w → Level (cond t (shift_r b d) d) (cond t (shift_w w) w)
level_by true b d w p = record { rng = ap (λ (x : ℕ). 256 * x) p.rng; total = ap (λ (x : ℕ). x + 8) p.total }
level_by false b d w p = p

level_norm : (b : List ℕ) (d : Dec) (w : Writer) → Level d w → Level (norm_r b d) (norm_w w)
level_norm b d w p =
    subst (λ (x : ℕ). Level (cond (leb x (2 ^ 23)) (shift_r b d) d) (norm_w w)) (sym p.rng) (level_by (leb w.front.rng (2 ^ 23)) b d w p)

level_code : (b : List ℕ) (m : Model) (d : Dec) (w : Writer) (c : ℕ) → Level d w → Level (took_part b m d c) (code_w w (lo m c) (hi m c) (all m))
unfolding cut_down
level_code b m d w c p =
    let x = cut_r d (upper d.rng (lo m c) (all m)) (lower d.rng (hi m c) (all m)) in
    let y = cut_w w (upper w.front.rng (lo m c) (all m)) (lower w.front.rng (hi m c) (all m)) in
    level_norm b (norm_r b x) (norm_w y) (level_norm b x y
    (record { rng = ap (λ (x : ℕ). upper x (lo m c) (all m) - lower x (hi m c) (all m)) p.rng; total = p.total }))

rest_norm : (b : List ℕ) (d : Dec) → rest b (norm_r b d) ≡ rest b d
rest_norm b d = chosen (λ (q : Dec). rest b q ≡ rest b d) (leb d.rng (2 ^ 23)) (λ e. refl) (λ e. refl)

rest_cut : (b : List ℕ) (d : Dec) (t s : ℕ) → rest b (cut_down b d t s) ≡ rest b d
unfolding cut_down
rest_cut b d t s = rest_norm b (norm_r b (cut_r d t s)) ∙ rest_norm b (cut_r d t s)

-- ---- a value that was written is neither clamped nor an error

clamped_idle : (m : Model) (v : ℕ) → Allowed m v → clamped m v ≡ v
clamped_idle (bit lp) v w = refl
clamped_idle (raw n) v w = refl
clamped_idle (num ft) v w = omega (arith, w.fitting)
clamped_idle (tab scale t) v w = refl

marked_idle : (m : Model) (v e : ℕ) → Allowed m v → marked m v e ≡ e
marked_idle (bit lp) v e w = refl
marked_idle (raw n) v e w = refl
marked_idle (num ft) v e w = rw (le-ltb (ft - 1) v (omega (arith, w.fitting)))
marked_idle (tab scale t) v e w = refl

-- ---- the reader d, level with the writer w, where both stand at the interval a; the value v of the model m is next

module _ (b : List ℕ) (bytes : Bytes b) (m : Model) (v : ℕ) (ok : Allowed m v) (d : Dec) (w : Writer) (a : Interval)
    (big : 2 ^ 23 < a.size) (st : StandsI b d a) (co : Core b d) (lv : Level d w) (i : Within b (narrowed a m v)) where
  found : Coded b bytes d a (lo m (coded m v)) (hi m (coded m v)) (all m)
  found = coded_stands b bytes d a (lo m (coded m v)) (hi m (coded m v)) (all m) st big (proper m v ok) i

  picks : picked m d ≡ coded m v
  picks = pick_is m v d.rng d.val ok co.above found.low found.high

  -- after the coded part
  record Part (q : Dec) : Type 0 where
    stands : StandsI b q (narrowed a m v)
    core : Core b q
    level : Level q (code_w w (lo m (coded m v)) (hi m (coded m v)) (all m))
    rest : rest b q ≡ rest b d

  part : Part (after_code b m d)
  part =
      let c = coded m v in
      let t = upper d.rng (lo m c) (all m) in
      let s = lower d.rng (hi m c) (all m) in
      subst (λ (k : ℕ). Part (took_part b m d k)) (sym picks)
      (record {
        stands = found.stands;
        core = (core_cut b d t s bytes co (cut_ok d.rng (lo m c) (hi m c) (all m) co.above (proper m v ok)) found.low found.high).core;
        level = level_code b m d w c lv;
        rest = rest_cut b d t s;
      })

  raw_part : RawRead b (after_code b m d) (raw_n m) (raw_val b (raw_n m) (after_code b m d)) (raw_next b (raw_n m) (after_code b m d))
  raw_part = raw_read b (raw_n m) (after_code b m d) bytes part.core (raw_most m ok.readable)

  -- after the whole symbol
  pub record Next (q : Dec) : Type 0 where
    pub stands : StandsI b q (narrowed a m v)
    pub core : Core b q
    pub level : Level q (wrote w m v)

  pub next : Next (read_next b m d)
  unfolding read_next
  next =
      let p = part in
      let r = raw_part in
      record {
        stands =
            record {
              rng = r.rng ∙ p.stands.rng;
              val = ap (λ (y : ℕ). y + code b (suc (suc (suc (suc (narrowed a m v).digits)))) + 1) r.val ∙ p.stands.val;
              rem = r.rem ∙ p.stands.rem;
              offs = r.offs ∙ p.stands.offs;
            };
        core = (core_read b m d bytes ok.readable co).core;
        level = record { rng = r.rng ∙ p.level.rng; total = r.total ∙ ap (λ (y : ℕ). y + raw_n m) p.level.total };
      }

  -- what it gives, if the raw bits are those of the value
  pub record Gives : Type 0 where
    pub value : read_val b m d ≡ v
    pub error : (read_next b m d).error ≡ d.error

  gives_by : raw_val b (raw_n m) (after_code b m d) ≡ raw_v m v → Gives
  unfolding read_val read_next
  gives_by e =
      let j : whole b m d ≡ v
      = ap (λ (k : ℕ). joined m k (raw_val b (raw_n m) (after_code b m d))) picks ∙ ap (λ (y : ℕ). joined m (coded m v) y) e ∙ joined_parts m v in
      record {
        value = ap (λ (y : ℕ). clamped m y) j ∙ clamped_idle m v ok;
        error = ap (λ (y : ℕ). marked m y d.error) j ∙ marked_idle m v d.error ok;
      }

  -- there are none
  pub gives_coded : raw_n m ≡ 0 → Gives
  gives_coded z =
      let p : 2 ^ raw_n m ≡ 1 = ap (λ (n : ℕ). 2 ^ n) z in
      gives_by (omega (arith, raw_part.small, raw_small m v ok.fitting))

  -- or the raw number ahead begins with them; then Z is ahead
  pub gives_whole : (Z : ℕ) → rest b d ≡ raw_v m v + 2 ^ raw_n m * Z → Gives × (rest b (read_next b m d) ≡ Z)
  unfolding read_next
  gives_whole Z e =
      let q = after_code b m d in
      let r = raw_part in
      let k : raw_val b (raw_n m) q + 2 ^ raw_n m * rest b (raw_next b (raw_n m) q) ≡ raw_v m v + 2 ^ raw_n m * Z = sym r.number ∙ part.rest ∙ e in
      let s = raw_small m v ok.fitting in
      (gives_by (split_low (2 ^ raw_n m) _ _ _ _ r.small s k), split_high (2 ^ raw_n m) _ _ _ _ r.small s k)
