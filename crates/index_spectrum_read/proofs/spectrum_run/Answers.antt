-- `index_spectrum_read::spectrum_run` meets its contract. Assumes nothing.
use Rattle.std.proofs.Common.{◌≡◌, length, pos, to_z, w8, arith}
use borrow.Author.Rules.{rules}
use Rattle.symbol_reader.proofs.AlongLaws.{along_ask}
use Rattle.silk.specs.Record.{with_nlsf}
use Rattle.silk.specs.IndexSyntax.{book_of, spectrum}
use Rattle.silk.proofs.IndexParts.{order_most}
use Rattle.silk.proofs.IndexSteps.{symbol_is, residuals_picked}
use Rattle.index_spectrum_read.proofs.spectrum_run.Goals as goal

pub residual_indices-requires-clause-rate : goal.residual_indices-requires-clause-rate
residual_indices-requires-clause-rate c =
    let s : length c.selectors_run-s.result ≡ 8 = search rules in
    let o = c.order_of.ensures in
    (c.requires.rate.0, omega (arith, o, order_most c.args.khz), omega (arith, o, order_most c.args.khz))

pub returns : goal.returns
unfolding spectrum
returns c =
    let a = c.symbol_run-first in
    let s = c.selectors_run-s in
    let t = c.first_index_row_run.ensures in
    let w : to_z w8 a.result ≡ pos a.result = symbol_is t a.ensures.took (omega arith) in
    let x = with_nlsf c.args.x.now 0 (pos a.result) in
    let e = residuals_picked c.args.khz s.result _ (book_of c.args.khz).order 0 x (λ j l. s.ensures j (omega arith)) in
    along_ask {n = 512} t.is a.ensures (rw (w, c.order_of.ensures, e) at c.residual_indices.ensures)
