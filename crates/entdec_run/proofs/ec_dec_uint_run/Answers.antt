-- The cut of the number sought, its raw bits, and the clamp.
use Rattle.std.proofs.Common.{◌≡◌, ℕ, suc, ◌+◌, ◌-◌, ◌*◌, ◌/◌, ◌%◌, ◌^◌, ◌<◌, ◌≤◌, cond, leb, List, sym, subst, ap, ap₂, ◌∙◌, pow_pos, arith}
use native.Mathlib.Nat.{mod-lt}
use lib.Pow.{pow_mono, shl_exact}
use Rattle.bitlen.proofs.LengthLaws.{length_most}
use Rattle.entcode.specs.declared.Dec.{Dec}
use Rattle.entcode.specs.declared.Decoded.{Decoded}
use Rattle.entcode.specs.Models.{num, all, raw_bits, Readable}
use Rattle.entcode.specs.Cuts.{upper, lower}
use Rattle.entcode.proofs.ModelLaws.{num_small, pick_holds}
use Rattle.entcode.proofs.TailLaws.{append_slim}
use Rattle.entcode.specs.Reader.{at_end, sought, cut_down, raw_val, raw_next, Bytes}
use Rattle.entcode.specs.Inner.Reading.{Core, Holding}
use Rattle.entcode.proofs.ReaderLaws.{CoreNext, core_cut}
use Rattle.entcode.specs.Reading.{gives}
use Rattle.entcode.proofs.ReadLaws.{cutting_holds, num_cutting, num_read, took}
use Rattle.entdec_run.proofs.ec_dec_uint_run.Goals as goal

-- the reader that piece k of the parts of ft leaves
abbrev cut_at : List ℕ → Dec → ℕ → ℕ → Dec
cut_at b d ft k = cut_down b d (upper d.rng k (all (num ft))) (lower d.rng (suc k) (all (num ft)))

-- the number k that is sought: a piece of the parts, which holds the value
record Piece (b : List ℕ) (d : Dec) (ft k : ℕ) : Type 0 where
  below : k < all (num ft)
  small : k < 256
  holding : Holding d (upper d.rng k (all (num ft))) (lower d.rng (suc k) (all (num ft)))
  next : CoreNext b 16 d (cut_at b d ft k)

piece : (b : List ℕ) (d : Dec) (ft k : ℕ) → Bytes b → Core b d → Readable (num ft) → k ≡ sought d.rng d.val (all (num ft))
    → Piece b d ft k
piece b d ft k y c o e =
    let p = pick_holds (num ft) d.rng d.val o c.above c.inside in
    let h = cutting_holds b (num ft) d k _ _ c o (num_cutting ft d k e) in
    let n = num_small ft (omega (arith, o.0)) o.1 in
    record {
      below = omega (arith, p.proper.within);
      small = omega (arith, p.proper.within);
      holding = h;
      next = core_cut b d _ _ y c h.cut h.low h.high;
    }

-- n raw bits below the parts of ft
module _ (ft n : ℕ) (e : n ≡ raw_bits ft) where
  parts : (ft - 1) / 2 ^ n + 1 ≡ all (num ft)
  parts = rw e (omega arith)

  few : n ≤ 24
  few = omega (arith, e, length_most (ft - 1))

  sought_is : (d : Dec) (k : ℕ) → k ≡ sought d.rng d.val ((ft - 1) / 2 ^ n + 1) → k ≡ sought d.rng d.val (all (num ft))
  sought_is d k s = s ∙ ap (λ (p : ℕ). sought d.rng d.val p) parts

  cut_is : (b : List ℕ) (d q : Dec) (k : ℕ)
      → q ≡ cut_down b d (upper d.rng k ((ft - 1) / 2 ^ n + 1)) (lower d.rng (suc k) ((ft - 1) / 2 ^ n + 1)) → q ≡ cut_at b d ft k
  cut_is b d q k s = s ∙ ap (λ (p : ℕ). cut_down b d (upper d.rng k p) (lower d.rng (suc k) p)) parts

  the_piece : (b : List ℕ) (d : Dec) (k : ℕ) → Bytes b → Core b d → Readable (num ft) → k ≡ sought d.rng d.val ((ft - 1) / 2 ^ n + 1)
      → Piece b d ft k
  the_piece b d k y c o s = piece b d ft k y c o (sought_is d k s)

-- coded and raw part together fit 32 bits
together : (k x n : ℕ) → k < 256 → n ≤ 24 → x < 2 ^ n → (k * 2 ^ n % 2 ^ 32 ≡ k * 2 ^ n) × (k * 2 ^ n + x < 2 ^ 32)
together k x n a h l =
    let s : x + k * 2 ^ n < 2 ^ (n + 8) = append_slim x k n 8 l a in
    let m : 2 ^ (n + 8) ≤ 2 ^ 32 = pow_mono {i = n + 8} {j = 32} (omega arith) in
    (shl_exact 8 n 32 a (omega arith), omega arith)

-- a raw part fits its bits
raw_small : (b : List ℕ) (n : ℕ) (q : Dec) (x : Decoded) → x ≡ gives (raw_val b n q) (raw_next b n q) → x.value < 2 ^ n
raw_small b n q x e = subst (λ (a : Decoded). a.value < 2 ^ n) (sym e) (mod-lt _ (pow_pos n))

abbrev outcome : ℕ → ℕ → Dec → ℕ → Decoded
outcome top n z m = cond (leb n top) (gives n (at_end z m z.error)) (gives top (at_end z m 1))

pub overflow_shr-parts : goal.overflow_shr-parts
overflow_shr-parts c = omega (arith, few c.args.ft _ c.raw_count-raws.ensures)

pub ec_decode-k-requires : goal.ec_decode-k-requires
ec_decode-k-requires c =
    let a = c.args in
    let r = c.requires in
    let n = num_small a.ft (omega arith) r.le_ft.1 in
    let p = parts a.ft _ c.raw_count-raws.ensures in
    (r.core.above, omega (arith, r.core.inside, r.core.most), omega arith, omega (arith, p))

pub ec_dec_update-q-requires-clause-fl_lt_ft : goal.ec_dec_update-q-requires-clause-fl_lt_ft
ec_dec_update-q-requires-clause-fl_lt_ft c =
    let a = c.args in
    let y : Bytes a.packet.now = λ i. omega (arith, c.type_inv.packet i) in
    let e = c.raw_count-raws.ensures in
    let p = the_piece a.ft _ e a.packet.now a.d _ y c.requires.core c.requires.le_ft c.ec_decode-k.ensures in
    rw (parts a.ft _ e) (p.below, p.holding)

pub raw_bits_run-x-requires-clause-core : goal.raw_bits_run-x-requires-clause-core
raw_bits_run-x-requires-clause-core c =
    let a = c.args in
    let y : Bytes a.packet.now = λ i. omega (arith, c.type_inv.packet i) in
    let e = c.raw_count-raws.ensures in
    let p = the_piece a.ft _ e a.packet.now a.d _ y c.requires.core c.requires.le_ft c.ec_decode-k.ensures in
    rw (cut_is a.ft _ e a.packet.now a.d _ _ c.ec_dec_update-q.ensures) p.next.core

pub raw_bits_run-x-requires-clause-total_bound : goal.raw_bits_run-x-requires-clause-total_bound
raw_bits_run-x-requires-clause-total_bound c =
    let a = c.args in
    let y : Bytes a.packet.now = λ i. omega (arith, c.type_inv.packet i) in
    let e = c.raw_count-raws.ensures in
    let p = the_piece a.ft _ e a.packet.now a.d _ y c.requires.core c.requires.le_ft c.ec_decode-k.ensures in
    rw (cut_is a.ft _ e a.packet.now a.d _ _ c.ec_dec_update-q.ensures) (omega (arith, p.next.most))

pub raw_bits_run-x-requires-clause-n_bound : goal.raw_bits_run-x-requires-clause-n_bound
raw_bits_run-x-requires-clause-n_bound c = omega (arith, few c.args.ft _ c.raw_count-raws.ensures)

pub overflow_shl-number : goal.overflow_shl-number
overflow_shl-number c = omega (arith, few c.args.ft _ c.raw_count-raws.ensures)

pub overflow_add-number : goal.overflow_add-number
overflow_add-number c =
    let a = c.args in
    let y : Bytes a.packet.now = λ i. omega (arith, c.type_inv.packet i) in
    let e = c.raw_count-raws.ensures in
    let p = the_piece a.ft _ e a.packet.now a.d _ y c.requires.core c.requires.le_ft c.ec_decode-k.ensures in
    let x = c.raw_bits_run-x in
    let n = c.raw_count-raws.result in
    let s = raw_small a.packet.now n c.ec_dec_update-q.result x.result x.ensures in
    let w = together c.ec_decode-k.result x.result.value n p.small (few a.ft n e) s in
    omega (arith, w.0, w.1)

pub returns : goal.returns
returns c =
    let a = c.args in
    let b = a.packet.now in
    let d = a.d in
    let ft = a.ft in
    let k = c.ec_decode-k.result in
    let n = c.raw_count-raws.result in
    let x = c.raw_bits_run-x.result in
    let y : Bytes b = λ i. omega (arith, c.type_inv.packet i) in
    let e = c.raw_count-raws.ensures in
    let q = cut_at b d ft k in
    let p = the_piece ft n e b d k y c.requires.core c.requires.le_ft c.ec_decode-k.ensures in
    let w = together k x.value n p.small (few ft n e) (raw_small b n _ x c.raw_bits_run-x.ensures) in
    let r : x ≡ gives (raw_val b (raw_bits ft) q) (raw_next b (raw_bits ft) q)
    = c.raw_bits_run-x.ensures
    ∙ ap₂ (λ (m : ℕ) (z : Dec). gives (raw_val b m z) (raw_next b m z)) e (cut_is ft n e b d _ k c.ec_dec_update-q.ensures) in
    let v : k * 2 ^ n % 2 ^ 32 + x.value ≡ k * 2 ^ raw_bits ft + raw_val b (raw_bits ft) q
    = ap₂ (λ (m l : ℕ). m + l) (w.0 ∙ ap (λ (m : ℕ). k * 2 ^ m) e) (ap (λ (a : Decoded). a.value) r) in
    let s : d.rng / ((ft - 1) / 2 ^ n + 1) ≡ d.rng / all (num ft) = ap (λ (m : ℕ). d.rng / m) (parts ft n e) in
    took b (num ft) d _ y c.requires.le_ft c.requires.core
    (c.clamp.ensures
    ∙ ap₂ (λ (l m : ℕ). outcome (ft - 1) l x.state m) v s
    ∙ ap (λ (a : Decoded). outcome (ft - 1) (k * 2 ^ raw_bits ft + raw_val b (raw_bits ft) q) a.state (d.rng / all (num ft))) r
    ∙ num_read b ft d k _ _ y c.requires.core c.requires.le_ft (num_cutting ft d k (sought_is ft n e d k c.ec_decode-k.ensures)))
