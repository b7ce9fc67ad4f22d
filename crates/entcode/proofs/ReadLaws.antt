-- A read, as the code makes it: the symbol that its model picks with the two ends of its part, a cut there, and the
-- raw part behind it. Assumes nothing.
use Prim.Native.Nat.{ℕ, zero, suc, ◌+◌, ◌-◌, ◌*◌, ◌/◌, ◌^◌, ◌≤◌, ◌<◌, min}
use mathlib.Core.Path.{◌≡◌, refl, sym, ap, ap₂, subst, subst⁻¹, ◌∙◌}
use mathlib.Core.Bool.{true, false, cond}
use mathlib.Core.List.{List}
use native.Mathlib.Omega.{arith}
use native.Mathlib.Nat.{mod-lt}
use borrow.Author.Tests.{le-ltb, lt-ltb}
use lib.Dec.{leb, ltb}
use lib.ListN.{get_or}
use lib.Pow.{pow_pos}
use Rattle.deciding.proofs.Choice.{chosen_le, chosen_lt}
use Rattle.icdf.specs.Rule.{Icdf}
use Rattle.icdf.proofs.RuleLaws.{entry_below}
use Rattle.icdf.specs.Search.{search}
use Rattle.icdf.proofs.SearchLaws.{search_found}
use Rattle.entcode.specs.declared.Dec.{Dec}
use Rattle.entcode.specs.declared.Decoded.{Decoded}
use Rattle.entcode.specs.Models.{Model, bit, raw, num, tab, lo, hi, all, raw_bits, Readable}
use Rattle.entcode.specs.Cuts.{upper, lower}
use Rattle.entcode.proofs.CutLaws.{cut_ok}
use Rattle.entcode.proofs.ModelLaws.{raw_most, bit_upper, bit_lower, bit_whole, tab_lower, tab_upper, pick_holds}
use Rattle.entcode.specs.Reader.{at_range, at_window, at_end, norm_r, cut_r, cut_down, sought, picked, after_code, raw_val, drop_bits, raw_next, whole, read_val, read_next, Bytes}
use Rattle.entcode.specs.Inner.Reading.{Core, Holding, top_of, growth, Inside, Took}
use Rattle.entcode.proofs.ReaderLaws.{CoreNext, fill_kept, core_cut, core_raw, core_read, norm_done}
use Rattle.entcode.specs.Reading.{gives}

-- ---- the symbol k of a model, with the ends t and s of its part

pub record Cutting (m : Model) (d : Dec) (k t s : ℕ) : Type 0 where
  pub symbol : k ≡ picked m d
  pub top : t ≡ upper d.rng (lo m k) (all m)
  pub low : s ≡ lower d.rng (hi m k) (all m)

pub cutting_holds : (b : List ℕ) (m : Model) (d : Dec) (k t s : ℕ) → Core b d → Readable m → Cutting m d k t s → Holding d t s
cutting_holds b m d k t s c o u =
    let p = pick_holds m d.rng d.val o c.above c.inside in
    rw (u.top, u.low, u.symbol)
    (record {
      cut = cut_ok d.rng (lo m (picked m d)) (hi m (picked m d)) (all m) c.above p.proper;
      low = p.low;
      high = p.high;
    })

pub bit_one : (lp : ℕ) (d : Dec) → 1 ≤ lp → d.val < d.rng / 2 ^ lp → Cutting (bit lp) d 1 (d.rng / 2 ^ lp) 0
bit_one lp d h l =
    record {
      symbol = rw (lt-ltb d.val (d.rng / 2 ^ lp) l);
      top = sym (bit_upper d.rng lp h);
      low = sym (bit_whole d.rng lp);
    }

pub bit_zero : (lp : ℕ) (d : Dec) → d.rng / 2 ^ lp ≤ d.val → Cutting (bit lp) d 0 d.rng (d.rng / 2 ^ lp)
bit_zero lp d l =
    record { symbol = rw (le-ltb d.val (d.rng / 2 ^ lp) l); top = refl; low = sym (bit_lower d.rng lp) }

pub tab_cutting : (scale : ℕ) (t : List ℕ) (d : Dec) (k : ℕ) → Icdf scale t → k ≡ search (d.rng / 2 ^ scale) d.val t
    → Cutting (tab scale t) d k (top_of d.rng (d.rng / 2 ^ scale) t k) (d.rng / 2 ^ scale * get_or t k 0)
tab_cutting scale t d k o e =
    record { symbol = e; top = end k; low = sym (tab_lower d.rng scale (get_or t k 0) (entry_below scale t o k)) }
  where
    end : (j : ℕ) → top_of d.rng (d.rng / 2 ^ scale) t j ≡ upper d.rng (lo (tab scale t) j) (2 ^ scale)
    end zero = refl
    end (suc j) = sym (tab_upper d.rng scale (get_or t j 0) (entry_below scale t o j))

-- ---- what a cut and a raw part leave alone

norm_keeps : (b : List ℕ) (d : Dec) → ((norm_r b d).ext ≡ d.ext) × ((norm_r b d).error ≡ d.error)
norm_keeps b d = chosen_le (λ (q : Dec). (q.ext ≡ d.ext) × (q.error ≡ d.error)) d.rng (2 ^ 23) (λ h. (refl, refl)) (λ h. (refl, refl))

pub cut_keeps : (b : List ℕ) (d : Dec) (t s : ℕ) → ((cut_down b d t s).ext ≡ d.ext) × ((cut_down b d t s).error ≡ d.error)
unfolding cut_down
cut_keeps b d t s =
    let p = norm_keeps b (norm_r b (cut_r d t s)) in
    let q = norm_keeps b (cut_r d t s) in
    (p.0 ∙ q.0, p.1 ∙ q.1)

raw_none : (b : List ℕ) (d : Dec) → raw_next b 0 d ≡ d
raw_none b d =
    let w : d.window / 1 ≡ d.window = omega arith in
    let u : d.wbits - 0 ≡ d.wbits = omega arith in
    let n : d.total + 0 ≡ d.total = omega arith in
    ap (drop_bits 0) (rw (le-ltb d.wbits 0 (omega arith)))
    ∙ ap₂ (λ (x y : ℕ). at_window d x y d.endoffs (d.total + 0)) w u
    ∙ ap (λ (x : ℕ). at_window d d.window d.wbits d.endoffs x) n

-- ---- a read of a bit or of a table is its cut

plain_end : (b : List ℕ) (d : Dec) (t s : ℕ) → at_end (raw_next b 0 (cut_down b d t s)) d.ext d.error ≡ cut_down b d t s
plain_end b d t s =
    let q = cut_down b d t s in
    let k = cut_keeps b d t s in
    ap (λ (x : Dec). at_end x d.ext d.error) (raw_none b q) ∙ ap₂ (λ (x e : ℕ). at_end q x e) (sym k.0) (sym k.1)

abbrev ended : List ℕ → Model → Dec → ℕ → Dec
ended b m d k = at_end (raw_next b 0 (cut_down b d (upper d.rng (lo m k) (all m)) (lower d.rng (hi m k) (all m)))) d.ext d.error

plain_cut : (b : List ℕ) (m : Model) (d : Dec) (k t s : ℕ) → Cutting m d k t s → gives k (cut_down b d t s) ≡ gives (picked m d) (ended b m d (picked m d))
plain_cut b m d k t s u =
    ap₂ (λ (x y : ℕ). gives k (cut_down b d x y)) u.top u.low
    ∙ ap (gives k) (sym (plain_end b d (upper d.rng (lo m k) (all m)) (lower d.rng (hi m k) (all m))))
    ∙ ap (λ (x : ℕ). gives x (ended b m d x)) u.symbol

pub bit_read : (b : List ℕ) (lp : ℕ) (d : Dec) (k t s : ℕ) → Cutting (bit lp) d k t s
    → gives k (cut_down b d t s) ≡ gives (read_val b (bit lp) d) (read_next b (bit lp) d)
unfolding read_val read_next
bit_read b lp d k t s u = plain_cut b (bit lp) d k t s u

pub tab_read : (b : List ℕ) (scale : ℕ) (row : List ℕ) (d : Dec) (k t s : ℕ) → Cutting (tab scale row) d k t s
    → gives k (cut_down b d t s) ≡ gives (read_val b (tab scale row) d) (read_next b (tab scale row) d)
unfolding read_val read_next
tab_read b scale row d k t s u = plain_cut b (tab scale row) d k t s u

-- ---- a read of raw bits is their window's

-- the whole of 1 changes nothing
cut_whole : (b : List ℕ) (d : Dec) → 2 ^ 23 < d.rng → cut_down b d (upper d.rng 0 1) (lower d.rng 1 1) ≡ d
unfolding cut_down
cut_whole b d h =
    let z : d.rng / 1 * (1 - 1) ≡ 0 = omega arith in
    let x : d.rng - 0 ≡ d.rng = omega arith in
    let y : d.val - 0 ≡ d.val = omega arith in
    let e : cut_r d d.rng (d.rng / 1 * (1 - 1)) ≡ d = ap (cut_r d d.rng) z ∙ ap₂ (at_range d) x y in
    ap (λ (q : Dec). norm_r b (norm_r b q)) e ∙ ap (λ (q : Dec). norm_r b q) (norm_done b d h) ∙ norm_done b d h

raw_keeps : (b : List ℕ) (n : ℕ) (d : Dec) → Bytes b → Core b d → n ≤ 25 → ((raw_next b n d).ext ≡ d.ext) × ((raw_next b n d).error ≡ d.error)
raw_keeps b n d y c h = let f = fill_kept b n d y c h in (f.kept.ext, f.kept.error)

pub raw_read : (b : List ℕ) (n : ℕ) (d : Dec) → Bytes b → Core b d → n ≤ 25
    → gives (raw_val b n d) (raw_next b n d) ≡ gives (read_val b (raw n) d) (read_next b (raw n) d)
unfolding read_val read_next
raw_read b n d y c h =
    let e = cut_whole b d c.above in
    let k = raw_keeps b n d y c h in
    ap₂ (λ (x z : ℕ). gives (raw_val b n d) (at_end (raw_next b n d) x z)) k.0 k.1
    ∙ ap (λ (q : Dec). gives (raw_val b n q) (at_end (raw_next b n q) d.ext d.error)) (sym e)

-- ---- a read of a bounded number: its cut, its raw bits, and the clamp

pub code_is : (b : List ℕ) (m : Model) (d : Dec) (k t s : ℕ) → Cutting m d k t s → cut_down b d t s ≡ after_code b m d
code_is b m d k t s u =
    ap₂ (cut_down b d) u.top u.low
    ∙ ap (λ (x : ℕ). cut_down b d (upper d.rng (lo m x) (all m)) (lower d.rng (hi m x) (all m))) u.symbol

module _ (b : List ℕ) (ft : ℕ) (d : Dec) (k t s : ℕ) (y : Bytes b) (c : Core b d) (o : Readable (num ft)) (u : Cutting (num ft) d k t s) where
  -- the number, coded and raw part together
  abbrev pub number : ℕ
  number = k * 2 ^ raw_bits ft + raw_val b (raw_bits ft) (cut_down b d t s)

  abbrev pub behind : Dec
  behind = raw_next b (raw_bits ft) (cut_down b d t s)

  number_is : number ≡ whole b (num ft) d
  number_is = ap₂ (λ (x : ℕ) (q : Dec). x * 2 ^ raw_bits ft + raw_val b (raw_bits ft) q) u.symbol (code_is b (num ft) d k t s u)

  behind_is : behind ≡ raw_next b (raw_bits ft) (after_code b (num ft) d)
  behind_is = ap (raw_next b (raw_bits ft)) (code_is b (num ft) d k t s u)

  behind_error : behind.error ≡ d.error
  behind_error =
      let h = cutting_holds b (num ft) d k t s c o u in
      let g = core_cut b d t s y c h.cut h.low h.high in
      (raw_keeps b (raw_bits ft) (cut_down b d t s) y g.core (raw_most (num ft) o)).1 ∙ (cut_keeps b d t s).1

  num_within : number ≤ ft - 1
      → gives number (at_end behind (d.rng / all (num ft)) behind.error) ≡ gives (read_val b (num ft) d) (read_next b (num ft) d)
  unfolding read_val read_next
  num_within l =
      let v : number ≡ min (whole b (num ft) d) (ft - 1) = omega (arith, number_is) in
      let e : ltb (ft - 1) (whole b (num ft) d) ≡ false = le-ltb (ft - 1) (whole b (num ft) d) (omega (arith, number_is)) in
      ap₂ gives v
      (ap₂ (λ (q : Dec) (x : ℕ). at_end q (d.rng / all (num ft)) x) behind_is (behind_error ∙ rw e))

  num_over : ft - 1 < number
      → gives (ft - 1) (at_end behind (d.rng / all (num ft)) 1) ≡ gives (read_val b (num ft) d) (read_next b (num ft) d)
  unfolding read_val read_next
  num_over l =
      let v : ft - 1 ≡ min (whole b (num ft) d) (ft - 1) = omega (arith, number_is) in
      let e : ltb (ft - 1) (whole b (num ft) d) ≡ true = lt-ltb (ft - 1) (whole b (num ft) d) (omega (arith, number_is)) in
      ap₂ gives v
      (ap₂ (λ (q : Dec) (x : ℕ). at_end q (d.rng / all (num ft)) x) behind_is (rw e))

  -- the clamp's two outcomes
  pub num_read : cond (leb number (ft - 1)) (gives number (at_end behind (d.rng / all (num ft)) behind.error)) (gives (ft - 1) (at_end behind (d.rng / all (num ft)) 1))
      ≡ gives (read_val b (num ft) d) (read_next b (num ft) d)
  num_read = chosen_le (λ (a : Decoded). a ≡ gives (read_val b (num ft) d) (read_next b (num ft) d)) number (ft - 1) num_within num_over

-- the cut of the number that is sought
pub num_cutting : (ft : ℕ) (d : Dec) (k : ℕ) → k ≡ sought d.rng d.val (all (num ft))
    → Cutting (num ft) d k (upper d.rng k (all (num ft))) (lower d.rng (suc k) (all (num ft)))
num_cutting ft d k e = record { symbol = e; top = refl; low = refl }

-- ---- what an inner read promises: the definition's value and state, a reader for the next read, and how far the

pub grows : (b : List ℕ) (m : Model) (d : Dec) → Bytes b → Readable m → Core b d → CoreNext b (growth m) d (read_next b m d)
grows b (bit lp) d y o c = core_read b (bit lp) d y o c
grows b (raw n) d y o c = subst (CoreNext b n d) (ap (λ (a : Decoded). a.state) (raw_read b n d y c o.1)) (core_raw b n d y c o.1)
grows b (num ft) d y o c = core_read b (num ft) d y o c
grows b (tab scale t) d y o c = core_read b (tab scale t) d y o c

pub read_inside : (b : List ℕ) (m : Model) (d : Dec) → Readable m → Inside m (read_val b m d)
unfolding read_val
read_inside b (bit lp) d o = chosen_lt (λ (v : ℕ). v ≤ 1) d.val (d.rng / 2 ^ lp) (λ h. omega arith) (λ h. omega arith)
read_inside b (raw n) d o = mod-lt _ (pow_pos n)
read_inside b (num ft) d o = omega (arith, o.0)
read_inside b (tab scale t) d o = (search_found scale (d.rng / 2 ^ scale) d.val t o).inside

pub took : (b : List ℕ) (m : Model) (d : Dec) (a : Decoded) → Bytes b → Readable m → Core b d → a ≡ gives (read_val b m d) (read_next b m d) → Took b m d a
took b m d a y o c e =
    let g = grows b m d y o c in
    subst⁻¹ (Took b m d) e (record { is = refl; inside = read_inside b m d o; core = g.core; least = g.least; most = g.most })
