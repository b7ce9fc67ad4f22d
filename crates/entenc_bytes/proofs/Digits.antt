-- A digit that goes out: what the code's updates make is the definitions' step. Assumes nothing.
use Prim.Native.Nat.{ℕ, ◌+◌, ◌/◌, ◌%◌, ◌^◌, ◌≤◌}
use mathlib.Core.Path.{◌≡◌, refl}
use mathlib.Core.Bool.{true, false}
use mathlib.Core.List.{[], ◌∷◌, ◌++◌}
use native.Mathlib.Omega.{arith}
use native.Mathlib.Numerals.{add-one}
use borrow.Author.Tests.{ne_eqb}
use lib.Dec.{T, leb-zero}
use lib.IntN.{ℤ, pos, negsuc, nat_abs}
use lib.ListN.{replicate}
use lib.Signed.{le_z, non_neg, nat_abs-le}
use mir.Syntax.{w32}
use mir.Val.{Fits, SFits}
use Rattle.entcode.specs.Front.{stored}
use Rattle.entcode.specs.Flat.{held_of, Out, as_writer}
use Rattle.entcode.specs.Inner.Writing.{Fair, carry_w, put_all, carried}
use Rattle.entcode.proofs.FlatLaws.{arrive}
use Rattle.entcode.proofs.WriterFacts.{at_run, hold}

-- ---- the held byte, as a number: one that is there, and none

pub held_nat : (z : ℤ) → SFits w32 z → le_z (pos 0) z ≡ true → T (non_neg z) × Fits w32 (nat_abs z)
held_nat (pos n) h e = (tt, record { fits = let q = h.sfits in omega arith })
held_nat (negsuc n) h e = absurd (let q : ◌≡◌ {A = ℕ} 0 1 = cc in omega arith)

pub nat_most : (z : ℤ) → SFits w32 z → nat_abs z ≤ 2 ^ 31
nat_most z h = nat_abs-le z h.sfits

pub held_some : (z : ℤ) (k : ℕ) → le_z (pos 0) z ≡ true → stored (held_of z) k ≡ (nat_abs z + k) % 256 ∷ []
held_some (pos n) k e = refl
held_some (negsuc n) k e = absurd (let q : ◌≡◌ {A = ℕ} 0 1 = cc in omega arith)

pub held_none : (z : ℤ) (k : ℕ) → le_z (pos 0) z ≡ false → stored (held_of z) k ≡ []
held_none (pos n) k e = absurd (let l = leb-zero n in let q : ◌≡◌ {A = ℕ} 0 1 = cc in omega arith)
held_none (negsuc n) k e = refl

-- ---- a digit: 255 waits, any other is held

pub wait_is : (o : Out) (n : ℕ) → Fair o → n ≡ o.state.ext + 1 → at_run o n ≡ carried o 255
unfolding carried
wait_is o n f e =
    arrive (at_run o n) (carry_w (as_writer o) 255) (record { kept = f.kept; rem = f.rem; error = f.error }) (rw (e, add-one))

pub hold_is : (o : Out) (c : ℕ) → (c ≡ 255 → ⊥)
    → hold (put_all o (stored (held_of o.state.rem) (c / 256) ++ replicate o.state.ext ((255 + c / 256) % 256))) (c % 256) ≡ carried o c
unfolding carried put_all
hold_is o c n = rw (ne_eqb c 255 n)
