-- `bytes_run` meets its contract. Assumes nothing.
use Rattle.std.proofs.Common.{ℕ, ◌≡◌, ◌+◌, get_or, ap, ◌∙◌, arith}
use Rattle.packet_places.proofs.PlaceLaws.{none_yet, one_more, all_stand}
use Rattle.packet_places.proofs.ByteLaws.{listed, many, byte, behind}
use Rattle.packet_places.proofs.bytes_run.Goals as goal

pub loop-k-init : goal.loop-k-init
loop-k-init c = (omega arith, none_yet (listed c.args.s.now c.args.at c.args.n c.args.span.last) c.args.span.head)

pub returns-then-n-k : goal.returns-then-n-k
returns-then-n-k c =
    let a = c.args in
    let ns = listed a.s.now a.at a.n a.span.last in
    let m = many a.s.now a.at a.n a.span.last in
    let e : a.n ≡ c.loop-k.k = omega arith in
    let v : a.span.last ≡ get_or ns c.loop-k.k 0 = behind a.s.now a.at a.n a.span.last ∙ ap (λ (i : ℕ). get_or ns i 0) e in
    let i = one_more ns a.span.head _ _ _ _ _ c.loop-k.invariant.1 (omega (arith, m)) (omega (arith, m)) v (omega arith) in
    all_stand ns a.span.head _ _ _ i (omega (arith, m))

pub loop-k-preserved : goal.loop-k-preserved
loop-k-preserved c =
    let a = c.args in
    let k = c.loop-k.k in
    let m = many a.s.now a.at a.n a.span.last in
    let v = byte a.s.now a.at a.n a.span.last c.requires.4 k (omega arith) in
    let b = c.type_inv.s (a.at + k) in
    let ns = listed a.s.now a.at a.n a.span.last in
    let i = one_more ns a.span.head _ _ _ _ _ c.loop-k.invariant.1 (omega (arith, m)) (omega (arith, m)) v (omega (arith, b)) in
    (omega arith, rw (c.from.ensures, c.from-place.ensures) i)
