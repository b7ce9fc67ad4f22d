-- What each part leaves is what the next asks for. Assumes nothing.
use Rattle.std.proofs.Common.{◌≡◌, suc, List, arith, sym, ap, subst, ◌∙◌, length, drop}
use lib.IntN.{ℤ}
use Rattle.spectrum.proofs.Kept.{length_sorted, length_raised}
use Rattle.spectrum.proofs.Results.{fallback_within}
use Rattle.spectrum.specs.Fallback.{sorted, raised, lowered, fallback}
use Rattle.spectrum.specs.Gaps.{Ruled}
use Rattle.spectrum.specs.Values.{Within}
use Rattle.nlsf_stabilize_fallback.proofs.Upward.{none_below}
use Rattle.nlsf_stabilize_fallback.proofs.fall_back_run.Goals as goal

same_within : (g v s u : List ℤ) → s ≡ sorted v → u ≡ raised g s → Ruled g → length g ≡ suc (length v)
    → Within 0 32767 (lowered (drop 1 g) u)
unfolding fallback
same_within g v s u e f r l =
    subst (λ (x : List ℤ). Within 0 32767 (lowered (drop 1 g) x)) (sym (f ∙ ap (raised g) e)) (fallback_within g v r l)

pub go_up-requires : goal.go_up-requires
go_up-requires c =
    let v = c.args.v.now in
    let n = ap length c.silk_insertion_sort_increasing_all_values_int16.ensures ∙ length_sorted v in (
      omega (arith, n, c.requires.0),
      (c.requires.1.0 ∙ ap suc (sym n), none_below c.args.g.now (length v) c.requires.1.1 c.requires.1.0 c.requires.0),
    )

pub go_down-requires : goal.go_down-requires
go_down-requires c =
    let v = c.args.v.now in
    let g = c.args.g.now in
    let s = c.silk_insertion_sort_increasing_all_values_int16 in
    let n = ap length c.go_up.ensures ∙ length_raised g s.new.v ∙ ap length s.ensures ∙ length_sorted v in
    (c.requires.1.0 ∙ ap suc (sym n), same_within g v s.new.v c.go_up.new.v s.ensures c.go_up.ensures c.requires.1.1 c.requires.1.0)

pub returns : goal.returns
unfolding fallback
returns c =
    let g = c.args.g.now in
    c.go_down.ensures ∙ ap (lowered (drop 1 g)) (c.go_up.ensures ∙ ap (raised g) c.silk_insertion_sort_increasing_all_values_int16.ensures)
