-- Behind the last entry nothing is left to test but that it is 0. Assumes nothing.
use Rattle.std.proofs.Common.{ℕ, ◌≡◌, ◌∙◌, ◌-◌, sym, ap, arith, List, length, get_or, drop}
use mathlib.Core.Bool.{◌&&◌}
use lib.Seq.{drop-length}
use Rattle.icdf.proofs.Entries.{left, left_some}
use Rattle.icdf.proofs.falls.Goals as goal

pub returns : goal.returns
returns c =
    let l = c.loop-k in
    let t = c.args.table.now in
    let e : length t ≡ l.k = omega (arith, c.requires, l.auto.k-end) in
    ap (λ (r : List ℕ). l.ok && left (get_or t (length t - 1) 0) r) (sym (drop-length t))
    ∙ ap (λ (k : ℕ). l.ok && left (get_or t (k - 1) 0) (drop k t)) e
    ∙ l.invariant
    ∙ left_some c.args.top t c.requires
