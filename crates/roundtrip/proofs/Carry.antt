-- The writer's front: a digit of nine bits goes out, and no carry is lost. What makes it so is local: while no byte is held, or the byte 255 is,
-- value + range is at most 2^31, so that the next digit has no carry (`Tame`). Part 2 of the argument. Assumes nothing.
use Prim.Native.Nat.{ℕ, zero, suc, ◌+◌, ◌-◌, ◌*◌, ◌/◌, ◌%◌, ◌^◌, ◌≤◌, ◌<◌}
use mathlib.Core.Path.{◌≡◌, refl, sym, ap, ◌∙◌}
use mathlib.Core.Bool.{Bool, true, false, cond}
use mathlib.Core.List.{List, [], ◌++◌}
use native.Mathlib.Omega.{arith}
use borrow.Author.Tests.{eqb-true, eqb-false}
use lib.Dec.{eqb}
use lib.ListN.{length, replicate, length-replicate}
use Rattle.deciding.proofs.Choice.{by_lt, chosen}
use Rattle.entcode.specs.Front.{Front, unstored, stored, bytes_out, held_next, run_next, digit, shift, shift_out, cut_to}
use Rattle.entcode.proofs.WriterLaws.{held_most}
use Rattle.roundtrip.proofs.Digits.{number, run_carry, run_more}

-- the whole number of a front: what is stored (P), what is held, and the value below
abbrev pub front_number : ℕ → Front → ℕ
front_number P f = number P (unstored f.held f.run) * 2 ^ 31 + f.val

-- a carry that may still come has a place to go: a held byte below 255
pub record Tame (f : Front) : Type 0 where
  pub some : 1 ≤ f.rng
  pub fits : f.val + f.rng < 2 ^ 32
  pub byte : f.held ≤ 256
  pub room : 2 ^ 31 < f.val + f.rng → (1 ≤ f.held) × (f.held ≤ 255)

-- what the digit c has stored: the held byte and the run, with its carry
abbrev swept : ℕ → ℕ → ℕ → List ℕ
swept h x c = stored h (c / 256) ++ replicate x ((255 + c / 256) % 256)

-- ---- a digit goes out

swept_plain : (P h x c : ℕ) → h ≤ 256 → c < 256 → number P (swept h x c) ≡ number P (unstored h x)
swept_plain P zero x c hb cb = ap (λ (d : ℕ). number P (replicate x d)) (omega arith)
swept_plain P (suc b) x c hb cb =
    ap (λ (d : ℕ). number (256 * P + d) (replicate x ((255 + c / 256) % 256))) (omega arith)
    ∙ ap (λ (d : ℕ). number (256 * P + b) (replicate x d)) (omega arith)

swept_carry : (P h x c : ℕ) → 1 ≤ h → h ≤ 255 → 256 ≤ c → c < 512 → number P (swept h x c) ≡ number P (unstored h x) + 1
swept_carry P zero x c h1 h2 c1 c2 = absurd (omega arith)
swept_carry P (suc b) x c h1 h2 c1 c2 =
    ap (λ (d : ℕ). number (256 * P + d) (replicate x ((255 + c / 256) % 256))) (omega arith)
    ∙ ap (λ (d : ℕ). number (256 * P + (b + 1)) (replicate x d)) (omega arith)
    ∙ ap (λ (d : ℕ). number d (replicate x 0)) (omega arith)
    ∙ sym (run_carry x (256 * P + b))

run_held : (P h x : ℕ) → number P (unstored h (suc x)) ≡ 256 * number P (unstored h x) + 255
run_held P zero x = run_more x P
run_held P (suc b) x = run_more x (256 * P + b)

carry_by : (t : Bool) (P h x c : ℕ) → eqb c 255 ≡ t → h ≤ 256 → c < 512 → (256 ≤ c → (1 ≤ h) × (h ≤ 255))
    → number (number P (cond t [] (swept h x c))) (unstored (cond t h (suc (c % 256))) (cond t (suc x) 0))
    ≡ 256 * number P (unstored h x) + c
carry_by true P h x c e hb cb ok =
    run_held P h x ∙ ap (λ (d : ℕ). 256 * number P (unstored h x) + d) (sym (eqb-true c 255 e))
carry_by false P h x c e hb cb ok =
    by_lt c 256
    (λ l. ap (λ (d : ℕ). 256 * d + c % 256) (swept_plain P h x c hb l) ∙ omega arith)
    (λ l. ap (λ (d : ℕ). 256 * d + c % 256) (swept_carry P h x c (ok l).0 (ok l).1 l cb) ∙ omega arith)

-- stored and held digits together are the old ones and the new digit
carry_number : (P h x c : ℕ) → h ≤ 256 → c < 512 → (256 ≤ c → (1 ≤ h) × (h ≤ 255))
    → number (number P (bytes_out h x c)) (unstored (held_next h c) (run_next x c)) ≡ 256 * number P (unstored h x) + c
carry_number P h x c hb cb ok = carry_by (eqb c 255) P h x c refl hb cb ok

length_by : (t : Bool) (h x c : ℕ)
    → length (cond t [] (swept h x c)) + length (unstored (cond t h (suc (c % 256))) (cond t (suc x) 0)) ≡ suc (length (unstored h x))
length_by true zero x c = omega arith
length_by true (suc b) x c = omega arith
length_by false zero x c = simp length-replicate (omega arith)
length_by false (suc b) x c = simp length-replicate (omega arith)

-- and there is one more of them
pub carry_length : (f : Front) → length (shift_out f) + length (unstored (shift f).held (shift f).run) ≡ suc (length (unstored f.held f.run))
carry_length f = length_by (eqb (digit f) 255) f.held f.run (digit f)

held_by : (t : Bool) (h x c : ℕ) → 1 ≤ length (unstored (cond t h (suc (c % 256))) (cond t (suc x) 0))
held_by true zero x c = omega arith
held_by true (suc b) x c = omega arith
held_by false h x c = omega arith

-- one at the least is held afterwards
pub shift_holds : (f : Front) → 1 ≤ length (unstored (shift f).held (shift f).run)
shift_holds f = held_by (eqb (digit f) 255) f.held f.run (digit f)

-- ---- a turn of renormalising

pub shift_number : (P : ℕ) (f : Front) → Tame f → front_number (number P (shift_out f)) (shift f) ≡ 256 * front_number P f
shift_number P f t =
    let e : number (number P (shift_out f)) (unstored (shift f).held (shift f).run) ≡ 256 * number P (unstored f.held f.run) + digit f
    = carry_number P f.held f.run (digit f) t.byte (omega (arith, t.fits)) (λ l. t.room (omega (arith, t.some))) in
    omega arith

-- v is what the digit c leaves of the value, r the range
tame_held : (h c v r : ℕ) → (2 ^ 31 < c * 2 ^ 23 + v + r → (1 ≤ h) × (h ≤ 255)) → c * 2 ^ 23 + v + r < 2 ^ 32 → 2 ^ 23 < v + r
    → (1 ≤ held_next h c) × (held_next h c ≤ 255)
tame_held h c v r ok fit l =
    chosen (λ (x : ℕ). (1 ≤ x) × (x ≤ 255)) (eqb c 255)
    (λ e. ok (omega (arith, eqb-true c 255 e)))
    (λ e. (omega arith, omega (arith, eqb-false c 255 e)))

pub tame_shift : (f : Front) → Tame f → f.rng ≤ 2 ^ 23 → Tame (shift f)
tame_shift f t l =
    record {
      some = omega (arith, t.some);
      fits = omega arith;
      byte = held_most f.held (digit f) t.byte;
      room = λ m.
          tame_held f.held (digit f) (f.val % 2 ^ 23) f.rng (λ g. t.room (omega arith)) (omega (arith, t.fits)) (omega arith);
    }

-- ---- a cut

pub tame_cut : (f : Front) (t s : ℕ) → Tame f → s < t → t ≤ f.rng → Tame (cut_to f t s)
tame_cut f t s y a b =
    record { some = omega arith; fits = omega (arith, y.fits); byte = y.byte; room = λ m. y.room (omega arith) }

pub cut_number : (P : ℕ) (f : Front) (t s : ℕ) → front_number P (cut_to f t s) ≡ front_number P f + (f.rng - t)
cut_number P f t s = omega arith
