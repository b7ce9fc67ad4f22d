-- Laws of the call that reads pulses: what its accepted numbers are, and its two outcomes. Assumes nothing.
use Prim.Native.Nat.{ℕ, ◌+◌, ◌*◌, ◌≤◌}
use mathlib.Core.Path.{◌≡◌, refl, sym, ◌∙◌}
use mathlib.Core.List.{List, [], ◌∷◌, flatten}
use mathlib.Core.Bool.{Bool, true, false, ◌&&◌, ◌||◌, cond}
use native.Mathlib.Nat.{mul-le-mul}
use native.Mathlib.Omega.{arith}
use borrow.Author.Tests.{eqb-true, eqb-false, leb-true, eq-eqb, ne_eqb}
use lib.Dec.{eqb, leb}
use lib.IntN.{ℤ}
use lib.ListN.{length}
use Rattle.deciding.proofs.Both.{and_both}
use Rattle.deciding.proofs.Choice.{chosen}
use Rattle.lists.specs.Inner.{All}
use Rattle.lists.proofs.All.{all_append}
use Rattle.refusals.proofs.FirstLaws.{first_none}
use Rattle.entcode.specs.declared.Dec.{Dec}
use Rattle.entcode.specs.Sound.{gate_r}
use Rattle.entcode.specs.Reader.{Bytes}
use Rattle.entcode.specs.Reading.{gives, refuses}
use Rattle.entcode.proofs.ReadingLaws.{Sound, gate_open}
use Rattle.tree.specs.Asks.{got, run}
use Rattle.tree.proofs.Always.{always_run, always_core}
use Rattle.silk.specs.PulseSyntax.{Excitation, excitation}
use Rattle.silk.specs.FrameCalls.{khz_ok, subframes_ok, blocks_of, pulse_numbers_ok, pulse_rule, pulses_rule, Pulsed, pulsed, decode_pulses}
use Rattle.silk.proofs.PulseLaws.{Within, Fine, excitation_within}

-- what follows from each of two tests follows from their disjunction
either {ℓ} : {A : Type ℓ} (a b : Bool) → a || b ≡ true → (a ≡ true → A) → (b ≡ true → A) → A
either true b e f g = f refl
either false b e f g = g e

khz_most : (khz : ℕ) → khz_ok khz ≡ true → khz ≤ 16
khz_most khz e =
    either (eqb khz 8) (eqb khz 12 || eqb khz 16) e (λ t. omega (arith, eqb-true khz 8 t))
    (λ s. either (eqb khz 12) (eqb khz 16) s (λ t. omega (arith, eqb-true khz 12 t)) (λ t. omega (arith, eqb-true khz 16 t)))

subframes_most : (n : ℕ) → subframes_ok n ≡ true → n ≤ 4
subframes_most n e = either (eqb n 2) (eqb n 4) e (λ t. omega (arith, eqb-true n 2 t)) (λ t. omega (arith, eqb-true n 4 t))

pub record PulseNumbers (khz subframes signal offset : ℕ) : Type 0 where
  pub khz16 : khz ≤ 16
  pub subframes4 : subframes ≤ 4
  pub signal2 : signal ≤ 2
  pub offset1 : offset ≤ 1

pub pulse_numbers : (khz subframes signal offset : ℕ) → pulse_numbers_ok khz subframes signal offset ≡ true → PulseNumbers khz subframes signal offset
unfolding pulse_numbers_ok
pulse_numbers khz subframes signal offset e =
    let p = and_both (khz_ok khz) (subframes_ok subframes && (leb signal 2 && leb offset 1)) e in
    let q = and_both (subframes_ok subframes) (leb signal 2 && leb offset 1) p.1 in
    let r = and_both (leb signal 2) (leb offset 1) q.1 in
    record {
      khz16 = khz_most khz p.0;
      subframes4 = subframes_most subframes q.0;
      signal2 = leb-true signal 2 r.0;
      offset1 = leb-true offset 1 r.1;
    }

-- a frame has at most 320 places, and 20 blocks
pub places_most : (khz subframes : ℕ) → khz ≤ 16 → subframes ≤ 4 → 5 * khz * subframes ≤ 320
places_most khz subframes h k = mul-le-mul {n₁ = 5 * khz} {m₁ = subframes} {n₂ = 80} {m₂ = 4} (omega arith) k

pub blocks_most : (khz subframes : ℕ) → khz ≤ 16 → subframes ≤ 4 → blocks_of khz subframes ≤ 20
blocks_most khz subframes h k = omega (arith, places_most khz subframes h k)

-- a call whose own numbers are not refused
pub record PulseOpen (n khz subframes signal offset : ℕ) : Type 0 where
  pub numbers : PulseNumbers khz subframes signal offset
  pub length16 : n ≡ 16 * blocks_of khz subframes

pub pulse_open : (n khz subframes signal offset : ℕ) → pulse_rule n khz subframes signal offset ≡ 0 → PulseOpen n khz subframes signal offset
unfolding pulse_rule
pulse_open n khz subframes signal offset e =
    let p = parts (pulse_numbers_ok khz subframes signal offset) (eqb n (16 * blocks_of khz subframes)) e in
    record { numbers = pulse_numbers khz subframes signal offset p.0; length16 = eqb-true n (16 * blocks_of khz subframes) p.1 }
  where
    parts : (a b : Bool) → ◌≡◌ {A = ℕ} (cond a (cond b 0 6) 4) 0 → (a ≡ true) × (b ≡ true)
    parts true true e = (refl, refl)
    parts true false e = absurd (omega arith)
    parts false b e = absurd (omega arith)

-- ---- the two outcomes

module _ (b : List ℕ) (d : Dec) (p : List ℤ) (khz subframes signal offset n : ℕ) (e : n ≡ pulses_rule b d p khz subframes signal offset) where
  pub pulses_read : n ≡ 0 → (s : List ℤ) (z : Dec) (x : Excitation) → run b d (excitation signal offset (blocks_of khz subframes)) ≡ got x z → s ≡ flatten x.pulses
      → pulsed s (gives 0 z) ≡ decode_pulses b d p khz subframes signal offset
  unfolding decode_pulses
  pulses_read q s z x r i = rw (eq-eqb (pulses_rule b d p khz subframes signal offset) 0 (sym e ∙ q), r, i)

  pub pulses_refused : (n ≡ 0 → ⊥) → pulsed p (refuses n d) ≡ decode_pulses b d p khz subframes signal offset
  unfolding decode_pulses
  pulses_refused h = rw (ne_eqb (pulses_rule b d p khz subframes signal offset) 0 (λ q. h (e ∙ q)), e)

-- ---- what an accepted call hands back

-- a sound reader whose total grew by at most 100,000, and pulses within -17,407 to 17,407
pub record PulsesRead (b : List ℕ) (d : Dec) (q : Pulsed) : Type 0 where
  pub sound : Sound b q.answer.state
  pub most : q.answer.state.total ≤ d.total + 100000
  pub within : All Within q.pulses

all_flatten : {A : Type 0} (P : A → Type 0) (xs : List (List A)) → All (All P) xs → All P (flatten xs)
unfolding flatten
all_flatten P [] h = tt
all_flatten P (x ∷ xs) h = all_append P x (flatten xs) h.0 (all_flatten P xs h.1)

pub pulses_accepted : (b : List ℕ) (d : Dec) (p : List ℤ) (khz subframes signal offset : ℕ) → Bytes b
    → (decode_pulses b d p khz subframes signal offset).answer.refusal ≡ 0 → PulsesRead b d (decode_pulses b d p khz subframes signal offset)
unfolding decode_pulses
pulses_accepted b d p khz subframes signal offset y =
    chosen (λ (q : Pulsed). q.answer.refusal ≡ 0 → PulsesRead b d q) (eqb (pulses_rule b d p khz subframes signal offset) 0)
    (λ t e.
    let f = first_none (gate_r b d) (pulse_rule (length p) khz subframes signal offset) (eqb-true (pulses_rule b d p khz subframes signal offset) 0 t) in
    let o = gate_open b d f.0 in
    let w = (pulse_open (length p) khz subframes signal offset f.1).numbers in
    let tree = excitation signal offset (blocks_of khz subframes) in
    let a = excitation_within signal offset (blocks_of khz subframes) w.signal2 w.offset1 (blocks_most khz subframes w.khz16 w.subframes4) in
    let c = always_core Fine 64656 b d tree a y o.sound.core in
    record {
      sound = record { core = c.core; least = omega (arith, c.least, o.sound.least); most = omega (arith, c.most, o.low) };
      most = omega (arith, c.most);
      within = all_flatten Within (run b d tree).value.pulses (always_run Fine 64656 b d tree a);
    })
    (λ t e. absurd (eqb-false (pulses_rule b d p khz subframes signal offset) 0 t e))
