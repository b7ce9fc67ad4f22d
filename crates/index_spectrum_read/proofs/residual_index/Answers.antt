-- `index_spectrum_read::residual_index` meets its contract: a symbol, and an extension behind one at an end. Assumes nothing.
use Rattle.std.proofs.Common.{◌≡◌, ◌∙◌, ◌+◌, pos, negsuc, ◌-ℤ◌, to_z, of_z, w8, arith}
use borrow.Author.Rules.{sfits_of}
use borrow.Author.Tests.{eq-eqb, ne_eqb}
use mir.Facts.{to_z-of_z}
use Rattle.symbol_reader.proofs.AlongLaws.{along_done, along_ask, along_within}
use Rattle.silk.specs.IndexSyntax.{residual}
use Rattle.index_spectrum_read.proofs.residual_index.Goals as goal

pub returns-in-0 : goal.returns-in-0
unfolding residual
returns-in-0 c =
    let a = c.symbol_run in
    let x = c.symbol_run-in-0 in
    let l = c.lowered in
    let e : to_z w8 (of_z w8 l.result) ≡ negsuc (3 + x.result) = to_z-of_z {w = w8} (sfits_of l.type_inv) ∙ l.ensures in
    rw e
    (along_ask {n = 16} c.residual_row_run.ensures.is a.ensures
    (rw (eq-eqb _ _ c.in-0.is) (along_ask c.extension_row_run.ensures.is x.ensures (along_done _ _))))

pub returns-in-8 : goal.returns-in-8
unfolding residual
returns-in-8 c =
    let a = c.symbol_run in
    let x = c.symbol_run-in-8 in
    let l = c.raised in
    let e : to_z w8 (of_z w8 l.result) ≡ pos (4 + x.result) = to_z-of_z {w = w8} (sfits_of l.type_inv) ∙ l.ensures in
    rw e
    (along_ask {n = 16} c.residual_row_run.ensures.is a.ensures
    (rw (ne_eqb a.result 0 (λ q. omega (arith, c.in-8.is)), eq-eqb _ _ c.in-8.is)
    (along_ask c.extension_row_run-in-8.ensures.is x.ensures (along_done _ _))))

pub returns-in_default : goal.returns-in_default
unfolding residual
returns-in_default c =
    let a = c.symbol_run in
    let l = c.centred in
    let e : to_z w8 (of_z w8 l.result) ≡ pos a.result -ℤ pos 4 = to_z-of_z {w = w8} (sfits_of l.type_inv) ∙ l.ensures in
    rw e
    (along_within {n = 16} {m = 32} (omega arith)
    (along_ask {n = 0} c.residual_row_run.ensures.is a.ensures
    (rw (ne_eqb a.result 0 (λ q. omega arith), ne_eqb a.result 8 (λ q. omega arith))
    (along_done _ _))))
