-- The last value stands before 256, a step of 47 at most away. Assumes nothing.
use Rattle.std.proofs.Common.{ℕ, ◌-◌, ◌/◌, arith, sym, ap₂, ◌∙◌, length}
use Rattle.nlsf_weights.proofs.Rising.{edge_before, edge_last, step_at}
use Rattle.nlsf_weights.proofs.last_share_run.Goals as goal

pub share-requires : goal.share-requires
share-requires c =
    let v = c.args.values.now in
    let t = step_at v c.requires.1.1 (length v) (omega arith) in
    let b = edge_before v c.requires.1.0 in
    (c.requires.0, (omega (arith, t.up, b, edge_last v), omega (arith, t.near, b, edge_last v)))

pub returns : goal.returns
returns c =
    let v = c.args.values.now in
    c.share.ensures
    ∙ ap₂ (λ (x a : ℕ). 1024 / (x - a)) (sym (edge_last v)) (c.from.ensures ∙ sym (edge_before v c.requires.1.0))
