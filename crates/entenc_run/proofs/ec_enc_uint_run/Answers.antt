-- One of at most 256 equal parts, and the bits below the first eight raw.
use Rattle.std.proofs.Common.{ℕ, ◌-◌, ◌*◌, ◌%◌, ◌^◌, ◌<◌, ◌≤◌, ap, ◌∙◌, pow_pos, arith}
use Rattle.entcode.proofs.CoreLaws.{wrote}
use Rattle.entcode.specs.Flat.{Out, out}
use Rattle.entcode.proofs.FlatLaws.{num_plain}
use Rattle.entcode.specs.Models.{num, Allowed}
use Rattle.entcode.specs.Inner.Writing.{appended}
use Rattle.entenc_run.proofs.Parts.{number_part, number_few, number_is}
use Rattle.entenc_run.proofs.ec_enc_uint_run.Goals as goal

allowed : (ft v : ℕ) → 2 ≤ ft → ft < 2 ^ 32 → v < ft → Allowed (num ft) v
allowed ft v a b h = record { readable = (a, b); fitting = h }

pub overflow_shr-parts : goal.overflow_shr-parts
overflow_shr-parts c =
    let p = number_part c.args.ft c.args.v _ c.ec_ilog-digits.ensures c.requires.le_ft.0 (omega arith) c.requires.le_ft.1 in
    omega (arith, p.few)

pub overflow_shr-v : goal.overflow_shr-v
overflow_shr-v c =
    let p = number_part c.args.ft c.args.v _ c.ec_ilog-digits.ensures c.requires.le_ft.0 (omega arith) c.requires.le_ft.1 in
    omega (arith, p.few)

pub keep_part-q-requires-clause-c_lt_ft : goal.keep_part-q-requires-clause-c_lt_ft
keep_part-q-requires-clause-c_lt_ft c =
    let p = number_part c.args.ft c.args.v _ c.ec_ilog-digits.ensures c.requires.le_ft.0 (omega arith) c.requires.le_ft.1 in
    (p.below, p.small)

pub overflow_shl-n : goal.overflow_shl-n
overflow_shl-n c =
    let p = number_part c.args.ft c.args.v _ c.ec_ilog-digits.ensures c.requires.le_ft.0 (omega arith) c.requires.le_ft.1 in
    omega (arith, p.few)

pub nonzero_rem-v : goal.nonzero_rem-v
nonzero_rem-v c =
    let p = number_part c.args.ft c.args.v _ c.ec_ilog-digits.ensures c.requires.le_ft.0 (omega arith) c.requires.le_ft.1 in
    omega (arith, p.mask, pow_pos (c.ec_ilog-digits.result - 8))

pub append-requires-clause-le_n : goal.append-requires-clause-le_n
append-requires-clause-le_n c =
    let p = number_part c.args.ft c.args.v _ c.ec_ilog-digits.ensures c.requires.le_ft.0 (omega arith) c.requires.le_ft.1 in
    let l = c.if-digits-gt8.true in
    (omega (arith, l), omega (arith, p.few), p.rest)

pub keep_part-requires-clause-c_lt_ft : goal.keep_part-requires-clause-c_lt_ft
keep_part-requires-clause-c_lt_ft c =
    (c.requires.le_ft.1, (number_few c.args.ft _ c.ec_ilog-digits.ensures c.if-digits-gt8.false (omega arith)).0)

pub returns-then-digits-gt8 : goal.returns-then-digits-gt8
returns-then-digits-gt8 c =
    let a = c.args in
    let r = c.requires in
    let d = c.ec_ilog-digits in
    let o = out a.buf.now a.w in
    let n = d.result - 8 in
    wrote o (record { model = num a.ft; value = a.v }) _ r.core r.total_bound (allowed a.ft a.v r.le_ft.0 (omega arith) r.le_ft.1)
    (c.append.ensures.is
    ∙ ap (λ (q : Out). appended q n (a.v % (1 * 2 ^ n % 2 ^ 32))) c.keep_part-q.ensures.is
    ∙ number_is o a.ft a.v d.result d.ensures)

pub returns-else-digits-gt8 : goal.returns-else-digits-gt8
returns-else-digits-gt8 c =
    let a = c.args in
    let r = c.requires in
    let o = out a.buf.now a.w in
    let n = number_few a.ft _ c.ec_ilog-digits.ensures c.if-digits-gt8.false (omega arith) in
    wrote o (record { model = num a.ft; value = a.v }) _ r.core r.total_bound (allowed a.ft a.v r.le_ft.0 (omega arith) r.le_ft.1)
    (c.keep_part.ensures.is ∙ num_plain o a.ft a.v (omega (arith, r.le_ft.0)) n.1 r.core.used)
