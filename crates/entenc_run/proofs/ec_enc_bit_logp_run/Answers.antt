-- 1 has the top of the range.
use Rattle.std.proofs.Common.{ℕ, ◌≤◌, sym, ap, ◌∙◌, arith}
use Rattle.entcode.proofs.CoreLaws.{wrote}
use Rattle.entcode.specs.Flat.{out}
use Rattle.entcode.proofs.FlatLaws.{bit_one, bit_zero}
use Rattle.entcode.specs.Models.{bit, Allowed}
use Rattle.entcode.specs.Writing.{written}
use Rattle.entenc_run.proofs.Parts.{bit_of, zero_cut, one_cut}
use Rattle.entenc_run.proofs.ec_enc_bit_logp_run.Goals as goal

allowed : (lp v : ℕ) → 1 ≤ lp → lp ≤ 15 → v ≤ 1 → Allowed (bit lp) v
allowed lp v a b h = record { readable = (a, b); fitting = h }

pub keep-requires-clause-cut_ok : goal.keep-requires-clause-cut_ok
keep-requires-clause-cut_ok c =
    let a = c.args in
    let l = c.requires.le_lp in
    zero_cut a.w.rng a.lp c.requires.core.above (allowed a.lp 0 l.0 l.1 (omega arith))

pub keep-requires-else-v-eq0-clause-cut_ok : goal.keep-requires-else-v-eq0-clause-cut_ok
keep-requires-else-v-eq0-clause-cut_ok c =
    let a = c.args in
    let l = c.requires.le_lp in
    one_cut a.w.rng a.lp c.requires.core.above (allowed a.lp 1 l.0 l.1 (omega arith))

pub returns-then-v-eq0 : goal.returns-then-v-eq0
returns-then-v-eq0 c =
    let a = c.args in
    let r = c.requires in
    let l = r.le_lp in
    let o = out a.buf.now a.w in
    wrote o (record { model = bit a.lp; value = a.v }) _ r.core r.total_bound (allowed a.lp a.v l.0 l.1 l.2)
    (c.keep.ensures.is
    ∙ sym (bit_zero o a.lp r.core.used)
    ∙ ap (λ (v : ℕ). written o (record { model = bit a.lp; value = v })) (sym c.if-v-eq0.true))

pub returns-else-v-eq0 : goal.returns-else-v-eq0
returns-else-v-eq0 c =
    let a = c.args in
    let r = c.requires in
    let l = r.le_lp in
    let o = out a.buf.now a.w in
    wrote o (record { model = bit a.lp; value = a.v }) _ r.core r.total_bound (allowed a.lp a.v l.0 l.1 l.2)
    (c.keep-else-v-eq0.ensures.is
    ∙ sym (bit_one o a.lp l.0 r.core.used)
    ∙ ap (λ (v : ℕ). written o (record { model = bit a.lp; value = v })) (sym (bit_of a.v l.2 c.if-v-eq0.false)))
