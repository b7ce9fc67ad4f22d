-- Closing: the middle cleared, and what the code's steps make of it. Assumes nothing.
use Prim.Native.Nat.{ℕ, zero, suc, ◌-◌, ◌≤◌, ◌<◌}
use mathlib.Core.Path.{◌≡◌, refl, sym, ap, ◌∙◌}
use mathlib.Core.List.{List, ◌∷◌, ◌++◌, append_assoc}
use native.Mathlib.Omega.{arith}
use borrow.Author.Tests.{eq-eqb, ne_eqb}
use lib.IntN.{ℤ}
use lib.ListN.{length, get_or, take, drop, set, replicate, length-append, length-replicate, take-append-drop}
use lib.Seq.{drop-cons, set_at, length-take-le}
use mir.Facts.{to_z-of_z}
use mir.Syntax.{w32}
use mir.Val.{SFits, to_z, of_z}
use Rattle.entcode.specs.Finish.{clear, left_over, close}
use Rattle.entcode.specs.Flat.{err_of, error_of, Out, out, as_writer, flat}
use Rattle.entcode.specs.Inner.Writing.{Fair, with_room, stowed, closed}
use Rattle.entcode.proofs.FlatLaws.{flat_as, arrive}

-- ---- the middle

-- the bytes from first to i are 0
abbrev pub zeroed : List ℕ → ℕ → ℕ → List ℕ
zeroed b first i = take first b ++ (replicate (i - first) 0 ++ drop i b)

-- ---- closing

-- the error, tested as a machine number
pub error_none : (z : ℤ) → SFits w32 z → of_z w32 z ≡ 0 → err_of z ≡ 0
error_none z f e = ap err_of (sym (to_z-of_z f) ∙ ap (to_z w32) e)

pub error_some : (z : ℤ) → error_of (err_of z) ≡ z → (of_z w32 z ≡ 0 → ⊥) → err_of z ≡ 0 → ⊥
error_some z f h e = h (ap (of_z w32) (sym f ∙ ap error_of e))

pub close_failed : (o : Out) (j : ℕ) → Fair o → (err_of o.state.error ≡ 0 → ⊥) → o ≡ closed o j
unfolding closed
close_failed o j f h = rw (ne_eqb (err_of o.state.error) 0 h) (sym (flat_as o f))

-- the middle as the code clears it
pub middle : (o : Out) → Fair o
    → zeroed o.buf o.state.offs (o.state.storage - o.state.endoffs) ≡ (clear (as_writer o).tail.room).buf
middle o f = ap (λ (n : ℕ). zeroed o.buf o.state.offs (n - o.state.endoffs)) f.kept

pub close_whole : (o : Out) (j : ℕ) (b : List ℕ) → Fair o → length b ≡ length o.buf → b ≡ (clear (as_writer o).tail.room).buf
    → err_of o.state.error ≡ 0 → o.state.wbits ≡ 0 → out b o.state ≡ closed o j
unfolding closed
close_whole o j b f n e z u =
    arrive (out b o.state) (with_room (as_writer o) (close (as_writer o).tail j))
    (record { kept = f.kept ∙ sym n; rem = f.rem; error = f.error })
    (rw (eq-eqb (err_of o.state.error) 0 z, eq-eqb o.state.wbits 0 u) (ap (λ (x : List ℕ). as_writer (out x o.state)) e))

pub close_stowed : (o : Out) (j : ℕ) (b : List ℕ) → b ≡ (clear (as_writer o).tail.room).buf
    → err_of o.state.error ≡ 0 → (o.state.wbits ≡ 0 → ⊥) → stowed (out b o.state) j ≡ closed o j
unfolding closed stowed
close_stowed o j b e z u =
    rw (eq-eqb (err_of o.state.error) 0 z, ne_eqb o.state.wbits 0 u)
    (ap (λ (x : List ℕ). let w = as_writer (out x o.state) in
    flat (with_room w (left_over w.tail.room o.state.window o.state.wbits j))) e)
