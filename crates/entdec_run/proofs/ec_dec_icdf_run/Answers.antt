-- The part that the search finds is the picked one.
use Rattle.std.proofs.Common.{ℕ, ◌/◌, ◌^◌, List, refl, ap, ◌∙◌, arith}
use Rattle.icdf.specs.Rule.{Icdf}
use Rattle.icdf.proofs.SearchLaws.{search_found}
use Rattle.entcode.specs.declared.Dec.{Dec}
use Rattle.entcode.specs.Models.{tab}
use Rattle.entcode.specs.Reader.{cut_down, Bytes}
use Rattle.entcode.specs.Reading.{gives}
use Rattle.entcode.proofs.ReadLaws.{Cutting, cutting_holds, tab_cutting, tab_read, took}
use Rattle.entdec_search.specs.declared.Part.{Part}
use Rattle.entdec_search.specs.Inner.{part_of}
use Rattle.entdec_run.proofs.ec_dec_icdf_run.Goals as goal

abbrev part : Dec → ℕ → List ℕ → Part
part d scale t = part_of d.rng (d.rng / 2 ^ scale) d.val t

cutting : (d : Dec) (scale : ℕ) (t : List ℕ) → Icdf scale t
    → Cutting (tab scale t) d (part d scale t).symbol (part d scale t).top (part d scale t).low
cutting d scale t h = tab_cutting scale t d (part d scale t).symbol h refl

pub cut_run-state-requires-clause-s_bound : goal.cut_run-state-requires-clause-s_bound
cut_run-state-requires-clause-s_bound c =
    let a = c.args in
    let r = c.requires in
    let h = cutting_holds a.packet.now _ a.d _ _ _ r.core r.icdf (cutting a.d a.scale a.table.now r.icdf) in
    rw c.find_part_run-p.ensures (h.cut.some, h.cut.inside, h.low, h.high)

pub overflow_cast-p : goal.overflow_cast-p
overflow_cast-p c =
    let a = c.args in
    let f = search_found a.scale (a.d.rng / 2 ^ a.scale) a.d.val a.table.now c.requires.icdf in
    rw c.find_part_run-p.ensures (omega (arith, f.inside, c.requires.icdf.few))

pub returns : goal.returns
returns c =
    let a = c.args in
    let p = a.packet.now in
    let x = c.find_part_run-p in
    let y : Bytes p = λ i. omega (arith, c.type_inv.packet i) in
    took p (tab a.scale a.table.now) a.d _ y c.requires.icdf c.requires.core
    (c.of.ensures
    ∙ ap (gives x.result.symbol) c.cut_run-state.ensures
    ∙ ap (λ (q : Part). gives q.symbol (cut_down p a.d q.top q.low)) x.ensures
    ∙ tab_read p a.scale a.table.now a.d _ _ _ (cutting a.d a.scale a.table.now c.requires.icdf))
