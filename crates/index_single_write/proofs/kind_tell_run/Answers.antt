-- `index_single_write::kind_tell_run` meets its contract: type and offset as one number. Assumes nothing.
use Rattle.std.proofs.Common.{ℕ, ℤ, ◌≡◌, ◌≤◌, ◌+◌, ◌-◌, ◌*◌, ap₂, nat_abs, to_z, of_z, w8, arith}
use Rattle.tree.proofs.Told.{told_done, told_ask}
use Rattle.silk.specs.Inner.Indices.{Upto}
use Rattle.silk.specs.IndexSyntax.{kind}
use Rattle.silk.proofs.IndexParts.{upto_fits, abs_kept}
use Rattle.index_single_write.proofs.kind_tell_run.Goals as goal

kept : {n : ℕ} {z : ℤ} → Upto n z → n ≤ 2 → to_z w8 (of_z w8 z) ≡ z
kept {n} {z} u l = abs_kept w8 z u.most (omega arith)

pub overflow_cast-kind : goal.overflow_cast-kind
overflow_cast-kind c = let u = c.requires.upto in rw (kept u.0 (omega arith)) (upto_fits c.args.x.signal (omega arith) u.0)

pub overflow_mul-kind : goal.overflow_mul-kind
overflow_mul-kind c = let u = c.requires.upto in rw (kept u.0 (omega arith)) (omega (arith, u.0.most))

pub overflow_cast-kind-2 : goal.overflow_cast-kind-2
overflow_cast-kind-2 c = let u = c.requires.upto in rw (kept u.1 (omega arith)) (upto_fits c.args.x.offset (omega arith) u.1)

pub overflow_add-kind : goal.overflow_add-kind
overflow_add-kind c =
    let u = c.requires.upto in
    rw (kept u.0 (omega arith), kept u.1 (omega arith)) (omega (arith, u.0.most, u.1.most))

pub overflow_sub-kind : goal.overflow_sub-kind
overflow_sub-kind c =
    let u = c.requires.upto in
    rw (kept u.0 (omega arith), kept u.1 (omega arith)) (omega (arith, c.requires.active_bound.1.least))

pub ec_enc_icdf8_run-requires-clause-icdf : goal.ec_enc_icdf8_run-requires-clause-icdf
ec_enc_icdf8_run-requires-clause-icdf c =
    let u = c.requires.upto in
    let t = c.type_row_run.ensures in
    let k = c.requires.active_bound.1 in
    rw (kept u.0 (omega arith), kept u.1 (omega arith)) (t.good, t.writable _ (omega (arith, k.least, k.most)))

pub returns : goal.returns
unfolding kind
returns c =
    let u = c.requires.upto in
    let a = c.ec_enc_icdf8_run in
    told_ask c.type_row_run.ensures.is
    (ap₂ (λ (s o : ℤ). nat_abs s * 2 + nat_abs o - c.args.active * 2) (kept u.0 (omega arith)) (kept u.1 (omega arith)))
    a.ensures (told_done a.ensures.core)
