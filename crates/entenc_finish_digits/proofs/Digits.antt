-- What is held back and the digits that go out are the definitions'. Assumes nothing.
use Rattle.std.proofs.Common.{◌≡◌, ℕ, zero, suc, ◌+◌, ◌-◌, ◌*◌, ◌/◌, ◌%◌, ◌^◌, ◌<◌, ◌≤◌, true, false, eqb, List, ◌∷◌, replicate, ℤ, pos, negsuc, sym, refl, ap, ◌∙◌, ap₂, arith}
use lib.Dec.{leb-zero}
use lib.Signed.{le_z}
use Rattle.deciding.proofs.Choice.{chosen}
use Rattle.entcode.specs.Front.{unstored, bytes_out, held_next}
use Rattle.entcode.specs.Room.{Room, puts}
use Rattle.entcode.proofs.RoomLaws.{puts_kept}
use Rattle.entcode.specs.Writer.{Writer, with_front}
use Rattle.entcode.proofs.WriterLaws.{held_most}
use Rattle.entcode.specs.Finish.{held_after}
use Rattle.entcode.specs.Flat.{held_of, Out, as_writer, flat}
use Rattle.entcode.specs.Inner.Writing.{Fair, Roomy, carry_w, carried, rested, digits_w, digits_out}
use Rattle.entcode.proofs.FlatLaws.{flat_fair, as_flat, flat_as, held_rem}

-- ---- what is held back

rest_bytes : (h x : ℕ) → h ≤ 256 → bytes_out h x 0 ≡ unstored h x
rest_bytes zero x l = refl
rest_bytes (suc b) x l = let e : (b + 0) % 256 ≡ b = omega arith in ap (λ (y : ℕ). y ∷ replicate x 255) e

rest_held : (h x : ℕ) → 1 ≤ h + x → held_after (unstored h x) ≡ 1
rest_held (suc b) x l = refl
rest_held zero (suc x) l = refl
rest_held zero zero l = absurd (omega arith)

-- a writer that holds h with a run of x behind it, and has another room
abbrev front : Writer → ℕ → ℕ → Room → Out
front w h x r = flat (with_front w (record { rng = w.front.rng; val = w.front.val; held = h; run = x }) r w.total)

-- something is held back: the digit 0 sends it out
pub rest_some : (o : Out) → held_of o.state.rem ≤ 256 → 1 ≤ held_of o.state.rem + o.state.ext → carried o 0 ≡ rested o
unfolding carried rested
rest_some o l s =
    let w = as_writer o in
    ap₂ (λ (bs : List ℕ) (k : ℕ). front w k 0 (puts w.tail.room bs))
    (rest_bytes w.front.held w.front.run l)
    (sym (rest_held w.front.held w.front.run s))

-- nothing is
pub rest_none : (o : Out) → Fair o → held_of o.state.rem ≡ 0 → o.state.ext ≡ 0 → o ≡ rested o
unfolding rested
rest_none o f h x =
    let w = as_writer o in
    sym
    (ap₂ (λ (a b : ℕ). front w (held_after (unstored a b)) 0 (puts w.tail.room (unstored a b))) h x
    ∙ ap₂ (λ (a b : ℕ). front w a b w.tail.room) (sym h) (sym x)
    ∙ flat_as o f)

-- the sign of the held byte
pub held_there : (z : ℤ) (x : ℕ) → le_z (pos 0) z ≡ true → 1 ≤ held_of z + x
held_there (pos n) x e = omega arith
held_there (negsuc n) x e = absurd (let q : ◌≡◌ {A = ℕ} 0 1 = cc in omega arith)

pub held_gone : (z : ℤ) → le_z (pos 0) z ≡ false → held_of z ≡ 0
held_gone (pos n) e = absurd (let l = leb-zero n in let q : ◌≡◌ {A = ℕ} 0 1 = cc in omega arith)
held_gone (negsuc n) e = refl

-- ---- digits

-- the digits of the turns from k to n: one and the others, or none
pub digits_more : (o : Out) (v n k : ℕ) → k < n
    → digits_out (carried o (v / 2 ^ 23)) (256 * (v % 2 ^ 23)) (n - (k + 1)) ≡ digits_out o v (n - k)
unfolding digits_out carried
digits_more o v n k h =
    let e : n - k ≡ suc (n - (k + 1)) = omega arith in
    rw e
    (ap (λ (w : Writer). flat (digits_w (n - (k + 1)) (256 * (v % 2 ^ 23)) w)) (as_flat (carry_w (as_writer o) (v / 2 ^ 23))))

pub digits_none : (o : Out) (v n k : ℕ) → n ≤ k → rested o ≡ digits_out o v (n - k)
unfolding digits_out rested
digits_none o v n k h = let e : n - k ≡ 0 = omega arith in rw e refl

-- what a digit keeps
pub record Carried (o q : Out) : Type 0 where
  pub roomy : Roomy q
  pub held : held_of q.state.rem ≤ 256
  pub run : q.state.ext ≤ suc o.state.ext

pub carried_kept : (o : Out) (c : ℕ) → Roomy o → held_of o.state.rem ≤ 256 → Carried o (carried o c)
unfolding carried
carried_kept o c h l =
    let w = as_writer o in
    let k = puts_kept (bytes_out w.front.held w.front.run c) w.tail.room h.within in
    record {
      roomy = record { fair = flat_fair (carry_w w c); short = omega (arith, k.len, h.short); within = k.fit };
      held = omega (arith, held_rem (held_next w.front.held c), held_most w.front.held c l);
      run = chosen (λ (y : ℕ). y ≤ suc o.state.ext) (eqb c 255) (λ e. omega arith) (λ e. omega arith);
    }
