-- One more split that has pulses, by the row that stands for it in what is lent.
use Rattle.std.proofs.Common.{◌+◌, ◌*◌, ◌<◌, ℕ, List, get_or, refl, arith}
use Rattle.sheet.specs.Inner.{Stands}
use Rattle.sheet.proofs.Places.{stands_in, lent}
use Rattle.sheet.proofs.DirectoryLaws.{row_count}
use Rattle.sheet.proofs.SheetRule.{row_good, row_writable}
use Rattle.tree.proofs.Told.{told_of, told_within}
use Rattle.silk.specs.Inner.Pulses.{PulseRows}
use Rattle.silk.proofs.PulseTold.{place_told, places_told, split_told}
use Rattle.pulse_shell_splits.specs.Inner.{Part, parts_of, all_of}
use Rattle.pulse_shell_spoken.specs.Inner.{no_part, spoken, Stored}
use Rattle.pulse_shell_write.proofs.Said.{shell_told}
use Rattle.pulse_shell_write.proofs.silk_shell_encoder_run.Goals as goal

-- where the row of a part stands in the rows
place : {rows : List ℕ} {start all left : ℕ} (q : Part) → PulseRows rows → Stored start all left q
    → Stands (58 + q.table * 16 + all_of q) rows start (all + 1)
place q r a = rw a.all_is (stands_in r.is a.stands)

pub ec_enc_icdf_run-q-requires-clause-icdf : goal.ec_enc_icdf_run-q-requires-clause-icdf
ec_enc_icdf_run-q-requires-clause-icdf c =
    let k = c.loop-k.k in
    let q = get_or (spoken (parts_of 4 c.args.places.now)) k no_part in
    let a = c.spoken_of_run-count.ensures.at k c.loop-k-test.true in
    let s = place q c.requires.pulse_rows a in
    let i = 58 + q.table * 16 + all_of q in
    let h : 58 + q.table * 16 + all_of q < row_count = omega (arith, a.within.table, a.within.most) in
    rw (c.from.ensures, c.from-in-loop-k.ensures, lent _ s refl)
    (row_good i h, row_writable i _ h (omega (arith, s.size, a.left_is, a.left_most, a.all_is)))

pub loop-k-preserved : goal.loop-k-preserved
loop-k-preserved c =
    let l = c.loop-k in
    let n = c.spoken_of_run-count.ensures in
    let qs = spoken (parts_of 4 c.args.places.now) in
    let q = get_or qs l.k no_part in
    let a = n.at l.k c.loop-k-test.true in
    let w = rw (c.from.ensures, c.from-in-loop-k.ensures) at c.ec_enc_icdf_run-q.ensures in
    let t = split_told {y = q.places} q.table (all_of q) a.some (lent _ (place q c.requires.pulse_rows a) refl) a.left_is w in
    place_told _ _ _ _ _ qs l.k l.invariant (omega (arith, n.count, c.loop-k-test.true)) refl (told_of (λ r. r.places) t)

pub returns : goal.returns
returns c =
    let l = c.loop-k in
    let n = c.spoken_of_run-count.ensures in
    shell_told 4 c.args.p c.args.places.now c.requires.p_bound.2
    (told_within (omega (arith, n.most))
    (places_told _ _ _ _ _ (spoken (parts_of 4 c.args.places.now)) l.k l.invariant (omega (arith, n.count, c.loop-k-test.false))))
