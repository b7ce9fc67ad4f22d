-- The first refusal, or the first symbol of the type row. Assumes nothing.
use Rattle.std.proofs.Common.{ℕ, ◌≡◌, ◌∙◌, ◌+◌, ◌*◌, ◌-◌, sym, ap, arith, rules, List, take, drop, refl}
use Rattle.entcode.specs.declared.Decoded.{Decoded}
use Rattle.entcode.specs.Reader.{Bytes}
use Rattle.refusals.specs.Inner.{number_of, refusal_of}
use Rattle.refusals.proofs.RefusalLaws.{number_refuses}
use Rattle.sheet.specs.Directory.{row_of}
use Rattle.silk.specs.Inner.Indices.{Row}
use Rattle.silk.proofs.IndexRows.{index_rows_lem, type_row}
use Rattle.frame_type.specs.Kind.{types_of}
use Rattle.frame_type.proofs.KindLaws.{type_accepts, Types, first_types, refused_types}
use Rattle.frame_type.proofs.frame_type.Goals as goal

-- the part of the rows that is lent
abbrev lent : List ℕ → ℕ → List ℕ
lent l active = take (active * 2 + (2 + active * 2) - active * 2) (drop (active * 2) l)

pub overflow_mul-base : goal.overflow_mul-base
overflow_mul-base c =
    search (rules, (type_accepts c.args.packet.now c.args.active (sym c.type_rule.ensures ∙ ap refusal_of c.in-Ok.is)).1)

pub slice_bounds-first_symbol-end : goal.slice_bounds-first_symbol-end
slice_bounds-first_symbol-end c =
    omega (arith, (type_accepts c.args.packet.now c.args.active (sym c.type_rule.ensures ∙ ap refusal_of c.in-Ok.is)).1)

pub overflow_add-kind : goal.overflow_add-kind
overflow_add-kind c =
    let z = sym c.type_rule.ensures ∙ ap refusal_of c.in-Ok.is in
    let l = (type_accepts c.args.packet.now c.args.active z).1 in
    let rows = c.index_rows-rows in
    let row : Row (row_of (2 + c.args.active)) (2 + c.args.active * 2) (lent rows.result c.args.active) =
    type_row (index_rows_lem rows.result rows.ensures) c.args.active l in
    let y : Bytes c.args.packet.now = λ i. omega (arith, c.type_inv.packet i) in
    let t = first_types c.args.packet.now c.args.active (lent rows.result c.args.active) y row.good row.is z in
    search (rules, ap (λ (a : Decoded). a.value) c.first_symbol-a.ensures, t.inside, row.size, l)

pub returns-in-Ok : goal.returns-in-Ok
returns-in-Ok c =
    let z = sym c.type_rule.ensures ∙ ap refusal_of c.in-Ok.is in
    let l = (type_accepts c.args.packet.now c.args.active z).1 in
    let rows = c.index_rows-rows in
    let row : Row (row_of (2 + c.args.active)) (2 + c.args.active * 2) (lent rows.result c.args.active) =
    type_row (index_rows_lem rows.result rows.ensures) c.args.active l in
    let y : Bytes c.args.packet.now = λ i. omega (arith, c.type_inv.packet i) in
    let t = first_types c.args.packet.now c.args.active (lent rows.result c.args.active) y row.good row.is z in
    ap (λ (a : Decoded). types_of (a.value + c.args.active * 2)) c.first_symbol-a.ensures ∙ t.is

pub returns-in-Err : goal.returns-in-Err
returns-in-Err c =
    let n = c.in-Err.refusal in
    rw c.from.ensures
    (refused_types c.args.packet.now c.args.active (number_of n)
    (sym (ap refusal_of c.in-Err.is) ∙ c.type_rule.ensures) (number_refuses n))
