-- The byte stands where the part of the buffer stood. Assumes nothing.
use Rattle.std.proofs.Common.{◌≡◌, ◌+◌, ◌-◌, length, replicate, arith, ap, ◌∙◌}
use borrow.Rule.Slice.PartMut.{mid_of}
use lib.ListN.{length-replicate, length-take, length-drop}
use Rattle.numerals.proofs.Put.{put_part}
use Rattle.packet_padding.proofs.put_same_run.Goals as goal

pub returns : goal.returns
returns c =
    let a = c.args in
    let e : length (mid_of a.at (a.at + a.n - a.at) a.out.now) ≡ a.n = simp (length-take, length-drop) (omega arith) in
    put_part a.out.now a.at a.n (c.fill.ensures.after (λ y q. q) ∙ ap (λ k. replicate k a.b) e) (length-replicate a.n a.b) c.requires
