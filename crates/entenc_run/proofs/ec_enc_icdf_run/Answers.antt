-- A symbol's part lies between two entries, times the unit.
use Rattle.std.proofs.Common.{ℕ, ◌*◌, ◌/◌, ◌^◌, ◌≤◌, List, get_or, ap₂, ◌∙◌, arith}
use Rattle.icdf.specs.Rule.{Icdf, Writable}
use Rattle.icdf.proofs.RuleLaws.{entry_below}
use Rattle.entcode.proofs.CoreLaws.{wrote}
use Rattle.entcode.specs.Flat.{out}
use Rattle.entcode.specs.Models.{tab, Allowed}
use Rattle.entcode.specs.Inner.Writing.{cut}
use Rattle.entenc_run.proofs.Parts.{entry_most, symbol_cut, symbol_is}
use Rattle.entenc_run.proofs.ec_enc_icdf_run.Goals as goal

allowed : (scale k : ℕ) (t : List ℕ) → Icdf scale t → Writable scale t k → Allowed (tab scale t) k
allowed scale k t i w = record { readable = i; fitting = w }

-- an entry times the unit fits
most : (R scale : ℕ) (t : List ℕ) → R ≤ 2 ^ 31 → Icdf scale t → (i : ℕ) → R / 2 ^ scale * get_or t i 0 ≤ 2 ^ 31
most R scale t h c i = omega (arith, entry_most R scale (get_or t i 0) (entry_below scale t c i))

pub overflow_mul-low : goal.overflow_mul-low
overflow_mul-low c =
    let a = c.args in
    let r = c.requires in
    rw c.from.ensures (omega (arith, most a.w.rng a.scale a.table.now r.core.most r.icdf.0 a.k))

pub symbol_top-top-requires-clause-by_index : goal.symbol_top-top-requires-clause-by_index
symbol_top-top-requires-clause-by_index c = most c.args.w.rng c.args.scale c.args.table.now c.requires.core.most c.requires.icdf.0

pub keep-requires-clause-cut_ok : goal.keep-requires-clause-cut_ok
keep-requires-clause-cut_ok c =
    let a = c.args in
    let r = c.requires in
    rw (c.symbol_top-top.ensures, c.from.ensures)
    (symbol_cut a.w.rng a.scale a.k a.table.now r.core.above (allowed a.scale a.k a.table.now r.icdf.0 r.icdf.1))

pub returns : goal.returns
returns c =
    let a = c.args in
    let r = c.requires in
    let o = out a.buf.now a.w in
    let t = a.table.now in
    let u = a.w.rng / 2 ^ a.scale in
    wrote o (record { model = tab a.scale t; value = a.k }) _ r.core r.total_bound (allowed a.scale a.k t r.icdf.0 r.icdf.1)
    (c.keep.ensures.is
    ∙ ap₂ (λ (x y : ℕ). cut o x (u * y)) c.symbol_top-top.ensures c.from.ensures
    ∙ symbol_is o a.scale a.k t r.icdf.0 r.core.used)
