-- An accepted vector's lines in their order, or the refusal. Assumes nothing.
use Rattle.std.proofs.Common.{◌≡◌, [], ◌∷◌, ◌++◌, pos, arith}
use borrow.Author.Tests.{eq-eqb, ne_eqb}
use mir.Syntax.{w16}
use mir.Facts.{to_z_pos}
use Rattle.numerals.proofs.Put.{put_then, put_as}
use Rattle.listing.specs.Ascii.{ascii}
use Rattle.listing.specs.Lines.{line, counted}
use Rattle.spectrum.specs.Calls.{Called}
use Rattle.stabiliser_text_answer.specs.StabiliserAnswer.{answer_text}
use Rattle.stabiliser_text_answer.proofs.put_answer_run.Goals as goal

accepted : (c : Called) → c.answer.refusal ≡ 0
    → line (ascii "rounds") (pos c.answer.moves ∷ []) ++ counted (ascii "vector") c.vector ≡ answer_text c
unfolding answer_text
accepted c e = rw (eq-eqb c.answer.refusal 0 e)

pub returns-then-a-eq0 : goal.returns-then-a-eq0
unfolding ascii
returns-then-a-eq0 c =
    let a = c.args.a in
    let h = c.if-a-eq0.true in
    let small = c.requires.small in
    let few = small.values h in
    put_as (put_then c.put_line_run-place.ensures c.put_counted_run.ensures)
    (rw (to_z_pos w16 {n = a.moves} (omega arith)) (accepted (record { vector = c.args.vector.now; answer = a }) h))
    (omega arith)

pub put_counted_run-requires : goal.put_counted_run-requires
put_counted_run-requires c =
    let few = c.requires.small.values c.if-a-eq0.true in
    record { xs_in_bounds = omega arith; xs_len_bound = omega arith }

pub returns-else-a-eq0 : goal.returns-else-a-eq0
unfolding answer_text
returns-else-a-eq0 c = put_as c.put_refused_run.ensures (rw (ne_eqb _ _ c.if-a-eq0.false)) (omega arith)
