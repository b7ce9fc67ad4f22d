-- Finishing: what the code's steps make is the definitions' finished state. Assumes nothing.
use Prim.Native.Nat.{ℕ, zero, suc, ◌*◌, ◌/◌, ◌%◌, ◌^◌, ◌≤◌}
use mathlib.Core.Path.{◌≡◌, refl, sym, ap, ap₂, ◌∙◌}
use mathlib.Core.Bool.{Bool, true, false, cond}
use mathlib.Core.List.{List, [], ◌∷◌}
use native.Mathlib.Omega.{arith}
use lib.Dec.{eqb}
use lib.ListN.{length, length-append}
use Rattle.entcode.specs.Front.{Front, unstored, digit, shift, shift_out}
use Rattle.entcode.specs.Room.{Room, puts}
use Rattle.entcode.proofs.RoomLaws.{puts_kept, puts_error}
use Rattle.entcode.specs.Tail.{flush}
use Rattle.entcode.specs.Writer.{Writer, with_front}
use Rattle.entcode.specs.Finish.{bits_of, end_of, emits, spare_bits, fin_out, held_after, fin_bytes, close}
use Rattle.entcode.specs.Flat.{Out, as_writer, flat}
use Rattle.entcode.specs.Inner.Writing.{Windowed, Core, with_room, with_tail, carry_w, flushed, digits_w, digits_out, closed}
use Rattle.entcode.proofs.FlatLaws.{flat_fair, as_flat, err_error, puts_append}
use Rattle.entcode.proofs.WriterFacts.{at_window}
use Rattle.entcode.proofs.WriterSteps.{front_w, fronted}
use Rattle.entcode.specs.Writing.{finished}

-- ---- the digits are those that finishing puts out

-- a digit is held, or joins the run
shift_some : (t : Bool) (h x c : ℕ) → 1 ≤ length (unstored (cond t h (suc c)) (cond t (suc x) 0))
shift_some true zero x c = omega arith
shift_some true (suc b) x c = omega arith
shift_some false h x c = omega arith

fin_some : (c : ℕ) (f : Front) → 1 ≤ length (unstored f.held f.run) → 1 ≤ length (fin_out c f)
fin_some zero f h = h
fin_some (suc c) f h =
    let k : 1 ≤ length (fin_out c (shift f)) = fin_some c (shift f) (shift_some (eqb (digit f) 255) f.held f.run (digit f % 256)) in
    omega (arith, length-append (shift_out f) (fin_out c (shift f)))

after_some : (xs : List ℕ) → 1 ≤ length xs → held_after xs ≡ 1
after_some [] h = absurd (omega arith)
after_some (x ∷ xs) h = refl

after_later : (c : ℕ) (f : Front) → held_after (fin_out c (shift f)) ≡ held_after (fin_out (suc c) f)
after_later c f =
    let k : 1 ≤ length (fin_out c (shift f)) = fin_some c (shift f) (shift_some (eqb (digit f) 255) f.held f.run (digit f % 256)) in
    after_some (fin_out c (shift f)) k
    ∙ sym (after_some (fin_out (suc c) f) (omega (arith, length-append (shift_out f) (fin_out c (shift f)))))

abbrev end_w : Writer → ℕ → Room → Writer
end_w w k r = with_front w (record { rng = w.front.rng; val = w.front.val; held = k; run = 0 }) r w.total

abbrev from : ℕ → ℕ → Writer → Front
from r v w = record { rng = r; val = v; held = w.front.held; run = w.front.run }

digits_are : (c r v : ℕ) (w : Writer)
    → digits_w c v w ≡ end_w w (held_after (fin_out c (from r v w))) (puts w.tail.room (fin_out c (from r v w)))
digits_are zero r v w = refl
digits_are (suc c) r v w =
    let f = from r v w in
    digits_are c (256 * r) (256 * (v % 2 ^ 23)) (carry_w w (v / 2 ^ 23))
    ∙ ap₂ (end_w w) (after_later c f) (puts_append (shift_out f) (fin_out c (shift f)) w.tail.room)

pub digits_front : (o : Out)
    → digits_out o (end_of o.state.rng o.state.val) (emits (bits_of o.state.rng o.state.val)) ≡ fronted o
unfolding digits_out fronted
digits_front o =
    ap flat (digits_are (emits (bits_of o.state.rng o.state.val)) 1 (end_of o.state.rng o.state.val) (as_writer o))

pub front_windowed : (o : Out) → Core o → Windowed (fronted o)
unfolding fronted
front_windowed o c =
    let w = as_writer o in
    let k = puts_kept (fin_bytes w.front) w.tail.room c.roomy.within in
    record {
      roomy = record { fair = flat_fair (front_w w); short = omega (arith, k.len, c.roomy.short); within = k.fit };
      err =
          omega (arith, err_error (puts w.tail.room (fin_bytes w.front)).err, puts_error (fin_bytes w.front) w.tail.room c.err);
      used = c.used;
      slim = c.slim;
    }

-- ---- finishing: the front, the window's bytes, the rest; and the window as it was

abbrev restored : Out → ℕ → Writer → Out
restored o j v = at_window (flat (with_room v (close v.tail j))) o.state.window o.state.wbits v.total

pub finished_is : (o : Out)
    → at_window (closed (flushed (fronted o)) (spare_bits (bits_of o.state.rng o.state.val))) o.state.window o.state.wbits
    (closed (flushed (fronted o)) (spare_bits (bits_of o.state.rng o.state.val))).state.total
    ≡ finished o
unfolding closed flushed fronted finished
finished_is o =
    let j = spare_bits (bits_of o.state.rng o.state.val) in
    let v = as_writer (flat (front_w (as_writer o))) in
    ap (restored o j) (as_flat (with_tail v (flush (v.tail.used / 8) v.tail)))
    ∙ ap (λ (x : Writer). restored o j (with_tail x (flush (x.tail.used / 8) x.tail))) (as_flat (front_w (as_writer o)))
