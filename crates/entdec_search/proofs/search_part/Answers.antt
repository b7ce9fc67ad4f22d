-- The next symbol of the search, and its end.
use Rattle.std.proofs.Common.{◌≡◌, ℕ, ◌+◌, ◌*◌, ◌<◌, ◌≤◌, refl, ap, ◌∙◌, get_or, add-one, arith}
use Rattle.icdf.specs.Search.{search}
use Rattle.icdf.proofs.SearchLaws.{search_on, search_stop}
use Rattle.entdec_search.proofs.Coming.{end_le, more}
use Rattle.entdec_search.proofs.search_part.Goals as goal

pub overflow_mul-low-in-loop-low : goal.overflow_mul-low-in-loop-low
overflow_mul-low-in-loop-low c =
    let a = c.args in
    let r = c.requires in
    rw c.from-in-loop-low.ensures (omega (arith, end_le a.scale a.unit a.table.now (c.loop-low.k + 1) r.icdf, r.scale_bound))

pub loop-low-preserved : goal.loop-low-preserved
loop-low-preserved c =
    let a = c.args in
    let l = c.loop-low in
    let i = l.invariant in
    let p : a.v < a.unit * get_or a.table.now l.k 0 = omega (arith, i.bottom, c.loop-low-test.true) in
    record {
      on = i.on ∙ rw (add-one, search_on a.unit a.v a.table.now l.k i.inside p) (omega arith);
      inside = more c.requires.icdf i c.loop-low-test.true;
      bottom = ap (λ (n : ℕ). a.unit * n) c.from-in-loop-low.ensures;
      above = rw add-one i.bottom;
    }

pub returns : goal.returns
returns c =
    let a = c.args in
    let l = c.loop-low in
    let i = l.invariant in
    let p : a.unit * get_or a.table.now l.k 0 ≤ a.v = omega (arith, i.bottom, c.loop-low-test.false) in
    let s = search_stop a.unit a.v a.table.now l.k i.inside p in
    let e : search a.unit a.v a.table.now ≡ l.k = omega (arith, i.on, s) in
    rw (e, i.bottom, i.above) refl
