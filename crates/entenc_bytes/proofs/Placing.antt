-- A byte at the buffer's front or back, and what placing keeps. Assumes nothing.
use Prim.Native.Nat.{ℕ, suc, ◌+◌, ◌-◌, ◌≤◌, ◌<◌}
use mathlib.Core.Path.{◌≡◌, refl, sym, ap, ◌∙◌}
use mathlib.Core.List.{List, [], ◌∷◌}
use native.Mathlib.Omega.{arith}
use native.Mathlib.Numerals.{add-one}
use borrow.Author.Tests.{lt-ltb, le-ltb}
use lib.IntN.{negsuc}
use lib.ListN.{length, replicate, set, length-set}
use Rattle.entcode.specs.Room.{puts, back}
use Rattle.entcode.proofs.RoomLaws.{puts_kept}
use Rattle.entcode.specs.Flat.{Out, as_writer}
use Rattle.entcode.specs.Inner.Writing.{Fair, Roomy, with_room, put_all, backed}
use Rattle.entcode.proofs.FlatLaws.{flat_fair, arrive, put_none, put_more}
use Rattle.entcode.proofs.WriterFacts.{at_front, at_back}

pub put_roomy : (o : Out) (bs : List ℕ) → Roomy o → Roomy (put_all o bs)
unfolding put_all
put_roomy o bs h =
    let k = puts_kept bs (as_writer o).tail.room h.within in
    record {
      fair = flat_fair (with_room (as_writer o) (puts (as_writer o).tail.room bs));
      short = omega (arith, k.len, h.short);
      within = k.fit;
    }

-- ---- the front: where there is room, and where there is none

pub put_here : (o : Out) (b : ℕ) → Roomy o → o.state.offs + o.state.endoffs < length o.buf
    → at_front o (set o.buf o.state.offs b) (o.state.offs + 1) o.state.error ≡ put_all o (b ∷ [])
unfolding put_all
put_here o b h l =
    arrive (at_front o (set o.buf o.state.offs b) (o.state.offs + 1) o.state.error)
    (with_room (as_writer o) (puts (as_writer o).tail.room (b ∷ [])))
    (record { kept = h.fair.kept ∙ sym (length-set o.buf o.state.offs b); rem = h.fair.rem; error = h.fair.error })
    (rw (lt-ltb (o.state.offs + o.state.endoffs) (length o.buf) l, add-one))

pub put_full : (o : Out) (b : ℕ) → Roomy o → length o.buf ≤ o.state.offs + o.state.endoffs
    → at_front o o.buf o.state.offs (negsuc 0) ≡ put_all o (b ∷ [])
unfolding put_all
put_full o b h l =
    arrive (at_front o o.buf o.state.offs (negsuc 0))
    (with_room (as_writer o) (puts (as_writer o).tail.room (b ∷ [])))
    (record { kept = h.fair.kept; rem = h.fair.rem; error = refl })
    (rw (le-ltb (o.state.offs + o.state.endoffs) (length o.buf) l))

-- the same byte for the turns from k to n: one and the others, or none
pub many_one : (n k : ℕ) (o : Out) (b : ℕ) → k < n
    → put_all (put_all o (b ∷ [])) (replicate (n - (k + 1)) b) ≡ put_all o (replicate (n - k) b)
many_one n k o b h =
    let e : n - k ≡ suc (n - (k + 1)) = omega arith in
    put_more o b (replicate (n - (k + 1)) b) ∙ ap (λ (j : ℕ). put_all o (replicate j b)) (sym e)

pub many_none : (n k : ℕ) (o : Out) (b : ℕ) → Fair o → n ≤ k → put_all o (replicate (n - k) b) ≡ o
many_none n k o b f h =
    let e : n - k ≡ 0 = omega arith in
    ap (λ (j : ℕ). put_all o (replicate j b)) e ∙ put_none o f

-- ---- the back

pub back_here : (o : Out) (b : ℕ) → Roomy o → o.state.offs + o.state.endoffs < length o.buf
    → at_back o (set o.buf (o.state.storage - (o.state.endoffs + 1)) b) (o.state.endoffs + 1) o.state.error ≡ backed o b
unfolding backed
back_here o b h l =
    let k : o.state.storage - (o.state.endoffs + 1) ≡ length o.buf - suc o.state.endoffs = omega (arith, h.fair.kept) in
    ap (λ (i : ℕ). at_back o (set o.buf i b) (o.state.endoffs + 1) o.state.error) k
    ∙ arrive (at_back o (set o.buf (length o.buf - suc o.state.endoffs) b) (o.state.endoffs + 1) o.state.error)
    (with_room (as_writer o) (back (as_writer o).tail.room b))
    (record {
      kept = h.fair.kept ∙ sym (length-set o.buf (length o.buf - suc o.state.endoffs) b);
      rem = h.fair.rem;
      error = h.fair.error;
    })
    (rw (lt-ltb (o.state.offs + o.state.endoffs) (length o.buf) l, add-one))

pub back_full : (o : Out) (b : ℕ) → Roomy o → length o.buf ≤ o.state.offs + o.state.endoffs
    → at_back o o.buf o.state.endoffs (negsuc 0) ≡ backed o b
unfolding backed
back_full o b h l =
    arrive (at_back o o.buf o.state.endoffs (negsuc 0))
    (with_room (as_writer o) (back (as_writer o).tail.room b))
    (record { kept = h.fair.kept; rem = h.fair.rem; error = refl })
    (rw (le-ltb (o.state.offs + o.state.endoffs) (length o.buf) l))
