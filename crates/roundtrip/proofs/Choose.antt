-- Finishing fixes top bits, at most one more than the range has leading zeros, so that what follows cannot leave the interval, and carries them out in
-- bytes. Part 8 of the argument. Assumes nothing.
use Prim.Native.Nat.{ℕ, zero, suc, ◌+◌, ◌-◌, ◌*◌, ◌/◌, ◌%◌, ◌^◌, ◌≤◌, ◌<◌}
use mathlib.Core.Path.{◌≡◌, refl, sym, ap, ◌∙◌, subst}
use mathlib.Core.List.{List, ◌++◌}
use native.Mathlib.Omega.{arith}
use native.Mathlib.Nat.{add-zero, mul-add-mod_self_left, div-add-mod', mod-lt}
use lib.Count.{count_leading_zeros, leading_top}
use lib.ListN.{length, length-append}
use lib.Pow.{pow-add, pow_pos, pow_mono}
use Rattle.deciding.proofs.Choice.{by_lt, chosen_lt}
use Rattle.entcode.specs.Front.{Front, unstored, shift, shift_out}
use Rattle.entcode.specs.Finish.{cell, round_up, bits_of, emits, spare_bits, fin_out, fin_bytes}
use Rattle.entcode.proofs.FinishLaws.{Enough, bits_enough}
use Rattle.entcode.specs.Reader.{Bytes}
use Rattle.roundtrip.proofs.Digits.{number, number_append, pow_split}
use Rattle.roundtrip.proofs.Carry.{Tame, front_number, shift_number, tame_shift, carry_length}
use Rattle.roundtrip.proofs.Within.{In, in_part, in_shift}

-- the number E of all front bytes, those stored (P) and those of finishing: a multiple of what the spare bits hold, and every packet that begins with
-- these bytes, but for the spare bits, lies within the front's interval
pub record Ended (P : ℕ) (f : Front) (l E : ℕ) : Type 0 where
  pub whole : ℕ
  pub multiple : E ≡ whole * 2 ^ spare_bits l
  pub inside : (b : List ℕ) → Bytes b → (j : ℕ) → In b (emits l + j) (E * 2 ^ 31) (2 ^ spare_bits l * 2 ^ 31) → In b j (front_number P f) f.rng

-- the front that is carried out: the value e in place of the old one
abbrev end_at : Front → ℕ → Front
end_at f e = record { rng = 1; val = e; held = f.held; run = f.run }

-- ---- the bytes

pub fin_length : (c : ℕ) (f : Front) → length (fin_out c f) ≡ length (unstored f.held f.run) + c
fin_length zero f = omega arith
fin_length (suc c) f = length-append (shift_out f) (fin_out c (shift f)) ∙ omega (arith, carry_length f, fin_length c (shift f))

tame_end : (f : Front) (e p : ℕ) → Tame f → 1 ≤ p → f.val ≤ e → e + p ≤ f.val + f.rng → Tame (end_at f e)
tame_end f e p t h x y = record { some = omega arith; fits = omega (arith, t.fits); byte = t.byte; room = λ m. t.room (omega arith) }

-- no digit more: the value is 0 and the range whole
ended_zero : (P : ℕ) (f : Front) → Tame f → (n : ℕ) → f.val ≤ n * 2 ^ 31 → n * 2 ^ 31 + 2 ^ 31 ≤ f.val + f.rng
    → Ended P f 0 (number P (unstored f.held f.run))
ended_zero P f t n a c =
    record {
      whole = number P (unstored f.held f.run);
      multiple = omega arith;
      inside = λ b bytes j i.
          let e : 0 + j ≡ j = omega arith in
          let i0 : In b j (number P (unstored f.held f.run) * 2 ^ 31) (1 * 2 ^ 31) = rw e at i in
          in_part b j (front_number P f) _ f.rng _ (omega (arith, t.fits)) (omega (arith, t.fits)) i0;
    }

-- one digit more: the bits end in that byte
ended_one : (P : ℕ) (f : Front) → Tame f → (l g : ℕ) → 1 ≤ l → l ≤ 8 → f.val ≤ g * cell l → g * cell l + cell l ≤ f.val + f.rng
    → Ended P f l (number P (fin_out 1 (end_at f (g * cell l))))
ended_one P f t l g l1 l8 a c =
    let f1 : Front = end_at f (g * cell l) in
    let ex : 31 - l ≡ 23 + (8 - l) = omega arith in
    let pc : cell l ≡ 2 ^ 23 * 2 ^ (8 - l) = ap (λ (m : ℕ). 2 ^ m) ex ∙ pow-add 2 23 (8 - l) in
    let pg : g * cell l ≡ 2 ^ 23 * (g * 2 ^ (8 - l)) = ap (λ (m : ℕ). g * m) pc ∙ omega arith in
    let em : emits l ≡ 1 = omega arith in
    let sp : spare_bits l ≡ 8 - l = omega arith in
    let E : ℕ = number P (fin_out 1 f1) in
    let ea : E ≡ number (number P (shift_out f1)) (unstored (shift f1).held (shift f1).run)
    = number_append P (shift_out f1) (unstored (shift f1).held (shift f1).run) in
    let D : ℕ = number P (unstored f.held f.run) in
    let sn : number (number P (shift_out f1)) (unstored (shift f1).held (shift f1).run) * 2 ^ 31 + 256 * (g * cell l % 2 ^ 23) ≡ 256 * (D * 2 ^ 31 + g * cell l)
    = shift_number P f1 (tame_end f (g * cell l) (cell l) t (pow_pos (31 - l)) a c) in
    let z : g * cell l % 2 ^ 23 ≡ 0
    = ap (λ (m : ℕ). m % 2 ^ 23) (pg ∙ sym (add-zero (2 ^ 23 * (g * 2 ^ (8 - l))))) ∙ mul-add-mod_self_left (2 ^ 23) (g * 2 ^ (8 - l)) 0 in
    let eq : E * 2 ^ 31 ≡ 256 * (D * 2 ^ 31 + g * cell l) = omega arith in
    let val : E ≡ 256 * D + g * 2 ^ (8 - l) = omega arith in
    record {
      whole = 2 ^ l * D + g;
      multiple = rw sp (val ∙ (parts (2 ^ l) (2 ^ (8 - l)) D g (pow_split 8 l l8)));
      inside = λ b bytes j i.
          let i1 : In b (suc j) (E * 2 ^ 31) (2 ^ (8 - l) * 2 ^ 31) = rw (em, one_more j) at i in
          let i2 : In b (suc j) (256 * (D * 2 ^ 31 + g * cell l)) (256 * cell l) = rw (← eq, ← (cells l pc)) i1 in
          in_part b j (front_number P f) (D * 2 ^ 31 + g * cell l) f.rng (cell l) (omega arith) (omega arith) (in_shift b bytes j _ _ i2);
    }
  where
    one_more : (j : ℕ) → 1 + j ≡ suc j
    one_more j = omega arith

    parts : (a y D g : ℕ) → 256 ≡ a * y → 256 * D + g * y ≡ (a * D + g) * y
    parts a y D g e = ap (λ (m : ℕ). m * D + g * y) e ∙ omega arith

    cells : (l : ℕ) → cell l ≡ 2 ^ 23 * 2 ^ (8 - l) → 2 ^ (8 - l) * 2 ^ 31 ≡ 256 * cell l
    cells l e = omega arith

-- nine bits, so that two digits more leave nothing of the value
nine_bits : (g : ℕ) → 256 * (g * 2 ^ 22 % 2 ^ 23) % 2 ^ 23 ≡ 0
nine_bits g =
    let two : g * 2 ^ 22 ≡ 2 ^ 23 * (g / 2) + g % 2 * 2 ^ 22 = omega arith in
    let small : g % 2 * 2 ^ 22 % 2 ^ 23 ≡ g % 2 * 2 ^ 22 = omega arith in
    let m : g * 2 ^ 22 % 2 ^ 23 ≡ g % 2 * 2 ^ 22 = ap (λ (x : ℕ). x % 2 ^ 23) two ∙ mul-add-mod_self_left (2 ^ 23) (g / 2) (g % 2 * 2 ^ 22) ∙ small in
    rw m (by_lt (g % 2) 1
    (λ h. let e : g % 2 ≡ 0 = omega arith in rw e)
    (λ h. let e : g % 2 ≡ 1 = omega arith in rw e))

-- two digits more
ended_two : (P : ℕ) (f : Front) → Tame f → (g : ℕ) → f.val ≤ g * 2 ^ 22 → g * 2 ^ 22 + 2 ^ 22 ≤ f.val + f.rng
    → Ended P f 9 (number P (fin_out 2 (end_at f (g * 2 ^ 22))))
ended_two P f t g a c =
    let f1 : Front = end_at f (g * 2 ^ 22) in
    let f2 : Front = shift f1 in
    let t1 : Tame f1 = tame_end f (g * 2 ^ 22) (2 ^ 22) t (omega arith) a c in
    let P1 : ℕ = number P (shift_out f1) in
    let E : ℕ = number P (fin_out 2 f1) in
    let D : ℕ = number P (unstored f.held f.run) in
    let ea : E ≡ number (number P1 (shift_out f2)) (unstored (shift f2).held (shift f2).run)
    = number_append P (shift_out f1) (shift_out f2 ++ unstored (shift f2).held (shift f2).run)
    ∙ number_append P1 (shift_out f2) (unstored (shift f2).held (shift f2).run) in
    let s1 : number P1 (unstored f2.held f2.run) * 2 ^ 31 + f2.val ≡ 256 * (D * 2 ^ 31 + g * 2 ^ 22) = shift_number P f1 t1 in
    let s2 : number (number P1 (shift_out f2)) (unstored (shift f2).held (shift f2).run) * 2 ^ 31 + 256 * (f2.val % 2 ^ 23)
    ≡ 256 * (number P1 (unstored f2.held f2.run) * 2 ^ 31 + f2.val)
    = shift_number P1 f2 (tame_shift f1 t1 (omega arith)) in
    let z : f2.val % 2 ^ 23 ≡ 0 = nine_bits g in
    let eq : E * 2 ^ 31 ≡ 256 * (256 * (D * 2 ^ 31 + g * 2 ^ 22)) = omega arith in
    let val : E ≡ 65536 * D + g * 128 = omega arith in
    record {
      whole = 512 * D + g;
      multiple = omega arith;
      inside = λ b bytes j i.
          let e2 : 2 + j ≡ suc (suc j) = omega arith in
          let i1 : In b (suc (suc j)) (E * 2 ^ 31) (128 * 2 ^ 31) = rw e2 at i in
          let i2 : In b (suc (suc j)) (256 * (256 * (D * 2 ^ 31 + g * 2 ^ 22))) (256 * (256 * 2 ^ 22)) = rw (← eq) i1 in
          in_part b j (front_number P f) (D * 2 ^ 31 + g * 2 ^ 22) f.rng (2 ^ 22) (omega arith) (omega arith)
          (in_shift b bytes j _ _ (in_shift b bytes (suc j) _ _ i2));
    }

ended_at : (P : ℕ) (f : Front) (l : ℕ) → Tame f → Enough f.rng f.val l
    → Ended P f l (number P (fin_out (emits l) (end_at f (round_up f.val (cell l)))))
ended_at P f zero t c = ended_zero P f t ((f.val + (2 ^ 31 - 1)) / 2 ^ 31) c.low c.high
ended_at P f (suc m) t c =
    by_lt (suc m) 9
    (λ h. let e : emits (suc m) ≡ 1 = omega arith in
    subst (λ (x : ℕ). Ended P f (suc m) (number P (fin_out x (end_at f (round_up f.val (cell (suc m))))))) (sym e)
    (ended_one P f t (suc m) ((f.val + (cell (suc m) - 1)) / cell (suc m)) (omega arith) (omega arith) c.low c.high))
    (λ h. let e : 9 ≡ suc m = omega (arith, c.few) in
    let c9 : Enough f.rng f.val 9 = subst (λ (x : ℕ). Enough f.rng f.val x) (sym e) c in
    subst (λ (x : ℕ). Ended P f x (number P (fin_out (emits x) (end_at f (round_up f.val (cell x)))))) e
    (ended_two P f t ((f.val + (2 ^ 22 - 1)) / 2 ^ 22) c9.low c9.high))

pub ended : (P : ℕ) (f : Front) → Tame f → 2 ^ 23 < f.rng → f.rng ≤ 2 ^ 31 → Ended P f (bits_of f.rng f.val) (number P (fin_bytes f))
ended P f t h m = ended_at P f (bits_of f.rng f.val) t (bits_enough f.rng f.val h m)
