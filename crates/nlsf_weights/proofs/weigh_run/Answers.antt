-- A value's step to the one before it has a share, and both shares together a root. Assumes nothing.
use Rattle.std.proofs.Common.{◌≡◌, ℕ, suc, ◌+◌, ◌-◌, ◌*◌, ◌/◌, ◌^◌, ◌<◌, List, get_or, arith, sym, ap, ap₂, ◌∙◌, length}
use Rattle.bitlen.specs.Length.{bit_length}
use Rattle.sheet.specs.Weights.{root_at}
use Rattle.nlsf_weights.specs.Inner.{edges, share_at}
use Rattle.nlsf_weights.proofs.Rising.{edge_value, step_at, share_some, weight_at}
use Rattle.nlsf_weights.proofs.weigh_run.Goals as goal

-- the share, by the code's two values
share_is : (v : List ℕ) (i : ℕ) {a x q : ℕ} → i < length v → a ≡ get_or (edges v) i 0 → x ≡ get_or v i 0 → q ≡ 1024 / (x - a) → q ≡ share_at v i
share_is v i h e f g = g ∙ ap₂ (λ (y b : ℕ). 1024 / (y - b)) (f ∙ sym (edge_value v i h)) e

pub share-q-requires : goal.share-q-requires
share-q-requires c =
    let v = c.args.values.now in
    let t = step_at v c.requires.rising c.args.i (omega (arith, c.requires.inside)) in
    let x = edge_value v c.args.i c.requires.inside in
    let a = c.value_before.ensures in
    (c.requires.shares, (omega (arith, t.up, a, x), omega (arith, t.near, a, x)))

pub root-requires : goal.root-requires
root-requires c =
    let v = c.args.values.now in
    let p = share_some v c.requires.rising in
    let q = p c.args.i (omega (arith, c.requires.inside)) in
    let r = p (suc c.args.i) c.requires.inside in
    let e = share_is _ c.args.i c.requires.inside c.value_before.ensures c.from.ensures c.share-q.ensures in
    (c.requires.roots, (omega (arith, e, q.0), omega (arith, e, q.1, r.1, c.requires.behind)))

pub returns-clause-weight_value : goal.returns-clause-weight_value
returns-clause-weight_value c =
    let v = c.args.values.now in
    let e = share_is _ c.args.i c.requires.inside c.value_before.ensures c.from.ensures c.share-q.ensures in
    c.root.ensures
    ∙ ap (λ (n : ℕ). root_at (n * 2 ^ 16) (bit_length (n * 2 ^ 16))) (ap₂ (λ (n m : ℕ). n + m) e c.requires.behind)
    ∙ sym (weight_at v c.args.i c.requires.inside)
