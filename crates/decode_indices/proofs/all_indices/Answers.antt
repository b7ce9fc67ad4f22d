-- `decode_indices::all_indices` meets its contract: type, gains, spectrum, interpolation, pitch, seed. Assumes nothing.
use Rattle.std.proofs.Common.{◌≡◌, ◌/◌, ◌%◌, pos, to_z, w8, arith}
use mir.Facts.{to_z_pos}
use Rattle.symbol_reader.proofs.AlongLaws.{along_bind}
use Rattle.silk.specs.IndexSyntax.{indices}
use Rattle.decode_indices.proofs.all_indices.Goals as goal

pub returns : goal.returns
unfolding indices
returns c =
    let k = c.kind_run-kind in
    let n = k.result in
    let e : to_z w8 (n / 2) ≡ pos (n / 2) = to_z_pos w8 {n = n / 2} (omega (arith, k.ensures.value_bound)) in
    let f : to_z w8 (n % 2) ≡ pos (n % 2) = to_z_pos w8 {n = n % 2} (omega arith) in
    along_bind _ k.ensures.ran
    (along_bind _ (rw (e, f) at c.gains_run.ensures)
    (along_bind _ c.spectrum_run.ensures
    (along_bind _ c.interpolation_run.ensures (along_bind _ c.voicing_index.ensures c.seed_run.ensures))))
