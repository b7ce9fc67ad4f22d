-- What a pulse writer says means the same pulses to a reader: each part of the syntax, said by what it is to give,
-- gives that. Assumes nothing.
use Prim.Native.Nat.{ℕ, zero, suc, ◌+◌, ◌-◌, ◌*◌, ◌/◌, ◌%◌, ◌^◌, ◌<◌, ◌≤◌}
use mathlib.Core.Path.{◌≡◌, refl, sym, ap, ◌∙◌}
use mathlib.Core.Bool.{Bool, true, false}
use mathlib.Core.List.{List, [], ◌∷◌, ◌++◌, map}
use native.Mathlib.Nat.{pow-suc, div-one, div-div-eq-div-mul}
use native.Mathlib.Omega.{arith}
use borrow.Author.Tests.{lt-ltb, le-ltb, ne_eqb, leb-true}
use lib.Dec.{leb, ltb}
use lib.IntN.{ℤ, pos, negsuc, nat_abs}
use lib.ListN.{length, take, drop, length-drop, length-map, take-append-drop}
use lib.Seq.{length-take-le}
use Rattle.deciding.proofs.Both.{and_both}
use Rattle.deciding.proofs.Choice.{chosen, by_lt}
use Rattle.lists.specs.Every.{every}
use Rattle.lists.specs.Inner.{All}
use Rattle.entcode.specs.declared.Dec.{Dec}
use Rattle.tree.specs.Asks.{Asks, done, then, of, Got, got, run, meant}
use Rattle.tree.proofs.AsksLaws.{Gives, meant_then, meant_of, written_reads_back}
use Rattle.silk.specs.PulseSyntax.{Block, Excitation, head_of, tail_of, each, count_said, low_counts, count, counts, total, split, shell, low_bits, block_lows, sign_row_of, sign, block_signs, magnitudes, shifted, excitation}
use Rattle.silk.specs.Inner.Pulses.{Sixteen, Suits, AllSuit, whole}
use Rattle.silk.specs.PulseWriting.{shifted_by, block_by, shift_ok, first_from, smallest, blocks_by, excited, pulses_say, shifts_of}

-- ---- counts

low_counts_meant : (n j : ℕ) (b : Block) → n + j ≡ 10 → j ≤ b.lows → b.lows ≤ 10 → b.count ≤ 16 → meant b (low_counts n j (count_said j b)) ≡ b
unfolding low_counts meant
low_counts_meant zero j b e l m h =
    let q : b.lows ≡ j = omega arith in
    rw (le-ltb j b.lows (omega arith)) (ap {B = Block} (λ (k : ℕ). record { count = b.count; lows = k }) (sym q))
low_counts_meant (suc n) j b e l m h =
    by_lt j b.lows
    (λ p. rw (lt-ltb j b.lows p) (low_counts_meant n (suc j) b (omega arith) p m h))
    (λ p.
    let q : b.lows ≡ j = omega arith in
    rw (le-ltb j b.lows p, ne_eqb b.count 17 (λ r. omega arith)) (ap {B = Block} (λ (k : ℕ). record { count = b.count; lows = k }) (sym q)))

pub count_meant : (level : ℕ) (b : Block) → b.lows ≤ 10 → b.count ≤ 16 → meant b (count level) ≡ b
unfolding count meant
count_meant level b m h = low_counts_meant 10 0 b refl (omega arith) m h

-- ---- splits

pub total_parts : (n : ℕ) (v : List ℕ) → total (take n v) + total (drop n v) ≡ total v
unfolding total
total_parts zero v = omega arith
total_parts (suc n) [] = refl
total_parts (suc n) (x ∷ v) = omega (arith, total_parts n v)

pub split_meant : (k c : ℕ) (v : List ℕ) → total v ≡ c → meant v (split k c) ≡ total (take (2 ^ k) v)
unfolding split meant
split_meant k zero v e = omega (arith, total_parts (2 ^ k) v)
split_meant k (suc c) v e = refl

pub one_value : (c : ℕ) (v : List ℕ) → length v ≡ 1 → total v ≡ c → c ∷ [] ≡ v
unfolding total
one_value c [] l e = absurd (omega arith)
one_value c (x ∷ []) l e = let q : c ≡ x = omega arith in rw q
one_value c (x ∷ (y ∷ v)) l e = absurd (omega arith)

pub shell_meant : (k c : ℕ) (v : List ℕ) → length v ≡ 2 ^ k → total v ≡ c → meant v (shell k c) ≡ v
unfolding shell meant
shell_meant zero c v l e = one_value c v l e
shell_meant (suc k) c v l e =
    let n = 2 ^ k in
    let w : 2 ^ suc k ≡ n + n = omega (arith, pow-suc 2 k) in
    let s = total (take n v) in
    let a = shell_meant k s (take n v) (length-take-le n v (omega arith)) refl in
    let b = shell_meant k (c - s) (drop n v) (length-drop n v ∙ omega arith) (omega (arith, total_parts n v)) in
    meant_then v (split k c) _
    ∙ ap (λ (x : ℕ). meant v (then (of (take n) (shell k x)) (λ p. then (of (drop n) (shell k (c - x))) (λ q. done (p ++ q))))) (split_meant k c v e)
    ∙ meant_then v (of (take n) (shell k s)) _
    ∙ ap (λ (p : List ℕ). meant v (then (of (drop n) (shell k (c - s))) (λ q. done (p ++ q)))) (meant_of v (take n) (shell k s) ∙ a)
    ∙ meant_then v (of (drop n) (shell k (c - s))) _
    ∙ ap (λ (q : List ℕ). take n v ++ q) (meant_of v (drop n) (shell k (c - s)) ∙ b)
    ∙ take-append-drop n v

-- ---- signs

pub sign_meant : (r : List ℕ) (z : ℤ) → meant z (sign r (nat_abs z)) ≡ z
unfolding sign meant
sign_meant r (pos zero) = refl
sign_meant r (pos (suc n)) = let e : ltb (suc n) 0 ≡ false = le-ltb (suc n) 0 (omega arith) in rw e
sign_meant r (negsuc n) = refl

-- ---- low bits

-- one more low bit is the next digit of y
pub next_bit : (n y : ℕ) → y / 2 ^ n ≡ 2 * (y / 2 ^ suc n) + y / 2 ^ n % 2
next_bit n y =
    let q : y / 2 ^ suc n ≡ y / 2 ^ n / 2 = ap (λ (m : ℕ). y / m) (pow-suc 2 n) ∙ sym (div-div-eq-div-mul y (2 ^ n) 2) in
    omega arith

pub low_bits_meant : (n y : ℕ) → meant y (low_bits n (y / 2 ^ n)) ≡ y
unfolding low_bits meant
low_bits_meant zero y = div-one y
low_bits_meant (suc n) y = ap (λ (v : ℕ). meant y (low_bits n v)) (sym (next_bit n y)) ∙ low_bits_meant n y

-- ---- lists of trees

cons_meant : {A : Type 0} (e y : A) (ys : List A) (t : Asks A A) (u : Asks (List A) (List A)) → meant y t ≡ y → meant ys u ≡ ys
    → meant (y ∷ ys) (then (of (head_of e) t) (λ a. then (of tail_of u) (λ l. done (a ∷ l)))) ≡ y ∷ ys
unfolding meant
cons_meant {A = A} e y ys t u p q =
    meant_then (y ∷ ys) (of (head_of e) t) (λ a. then (of tail_of u) (λ l. done (a ∷ l)))
    ∙ ap (λ (a : A). meant (y ∷ ys) (then (of tail_of u) (λ l. done (a ∷ l)))) (meant_of (y ∷ ys) (head_of e) t ∙ p)
    ∙ meant_then (y ∷ ys) (of tail_of u) (λ l. done (y ∷ l))
    ∙ ap {B = List A} (λ (l : List A). y ∷ l) (meant_of (y ∷ ys) tail_of u ∙ q)

each_meant : {S A : Type 0} (e : A) (f : S → Asks A A) (g : A → S) → ((y : A) → meant y (f (g y)) ≡ y) → (ys : List A) → meant ys (each e f (map g ys)) ≡ ys
unfolding each meant
each_meant e f g h [] = refl
each_meant e f g h (y ∷ ys) = cons_meant e y ys (f (g y)) (each e f (map g ys)) (h y) (each_meant e f g h ys)

-- ---- a frame

pub counts_meant : (level : ℕ) (js : List ℕ) (ps : List (List ℤ)) → AllSuit js ps → meant (blocks_by js ps) (counts level (length ps)) ≡ blocks_by js ps
unfolding counts blocks_by meant
counts_meant level [] [] a = refl
counts_meant level [] (p ∷ ps) a = absurd a
counts_meant level (j ∷ js) [] a = absurd a
counts_meant level (j ∷ js) (p ∷ ps) a =
    cons_meant (record { count = 0; lows = 0 }) (block_by j p) (blocks_by js ps) (count level) (counts level (length ps)) (count_meant level (block_by j p) a.0.few a.0.most)
    (counts_meant level js ps a.1)

pub splits_meant : (js : List ℕ) (ps : List (List ℤ)) → AllSuit js ps
    → meant (shifted (blocks_by js ps) (whole ps)) (each [] (λ (b : Block). shell 4 b.count) (blocks_by js ps)) ≡ shifted (blocks_by js ps) (whole ps)
unfolding each blocks_by shifted meant
splits_meant [] [] a = refl
splits_meant [] (p ∷ ps) a = absurd a
splits_meant (j ∷ js) [] a = absurd a
splits_meant (j ∷ js) (p ∷ ps) a =
    cons_meant [] (shifted_by j p) (shifted (blocks_by js ps) (whole ps)) (shell 4 (total (shifted_by j p))) (each [] (λ (b : Block). shell 4 b.count) (blocks_by js ps))
    (shell_meant 4 (total (shifted_by j p)) (shifted_by j p) (length-map (map nat_abs p) (λ m. m / 2 ^ j) ∙ length-map p nat_abs ∙ a.0.size) refl) (splits_meant js ps a.1)

pub lows_meant : (js : List ℕ) (ps : List (List ℤ)) → AllSuit js ps → meant (whole ps) (block_lows (blocks_by js ps) (shifted (blocks_by js ps) (whole ps))) ≡ whole ps
unfolding block_lows blocks_by shifted meant
lows_meant [] [] a = refl
lows_meant [] (p ∷ ps) a = absurd a
lows_meant (j ∷ js) [] a = absurd a
lows_meant (j ∷ js) (p ∷ ps) a =
    cons_meant [] (map nat_abs p) (whole ps) (each 0 (low_bits j) (shifted_by j p)) (block_lows (blocks_by js ps) (shifted (blocks_by js ps) (whole ps)))
    (each_meant 0 (low_bits j) (λ m. m / 2 ^ j) (low_bits_meant j) (map nat_abs p)) (lows_meant js ps a.1)

signs_meant : (signal offset : ℕ) (js : List ℕ) (ps : List (List ℤ)) → AllSuit js ps → meant ps (block_signs signal offset (blocks_by js ps) (whole ps)) ≡ ps
unfolding block_signs blocks_by meant
signs_meant signal offset [] [] a = refl
signs_meant signal offset [] (p ∷ ps) a = absurd a
signs_meant signal offset (j ∷ js) [] a = absurd a
signs_meant signal offset (j ∷ js) (p ∷ ps) a =
    cons_meant [] p ps (each (pos 0) (sign (sign_row_of signal offset (total (shifted_by j p)))) (map nat_abs p)) (block_signs signal offset (blocks_by js ps) (whole ps))
    (each_meant (pos 0) (sign (sign_row_of signal offset (total (shifted_by j p)))) nat_abs (sign_meant (sign_row_of signal offset (total (shifted_by j p)))) p) (signs_meant signal offset js ps a.1)

-- the first number that passes a test passes it, and none before it does
pub first_passes : (ok : ℕ → Bool) (n j : ℕ) → first_from ok n j < n + j → ok (first_from ok n j) ≡ true
unfolding first_from
first_passes ok zero j = λ h. absurd (omega arith)
first_passes ok (suc n) j =
    chosen (λ (k : ℕ). k < suc n + j → ok k ≡ true) (ok j) (λ t h. t) (λ t h. first_passes ok n (suc j) (omega arith))

pub first_least_lem : (ok : ℕ → Bool) (n j i : ℕ) → j ≤ i → i < first_from ok n j → ok i ≡ false
unfolding first_from
first_least_lem ok zero j i l = λ h. absurd (omega arith)
first_least_lem ok (suc n) j i l =
    chosen (λ (k : ℕ). i < k → ok i ≡ false) (ok j) (λ t h. absurd (omega arith))
    (λ t h. by_lt j i (λ p. first_least_lem ok n (suc j) i p h) (λ p. let e : i ≡ j = omega arith in rw e t))

-- a shift of at most 10 that was found suits its block
smallest_suits : (rate signal offset : ℕ) (p : List ℤ) → length p ≡ 16 → smallest rate signal offset p ≤ 10 → Suits (smallest rate signal offset p) p
unfolding shift_ok
smallest_suits rate signal offset p e h =
    let t = first_passes (shift_ok rate signal offset p) 11 0 (omega arith) in
    record { size = e; few = h; most = leb-true _ _ (and_both (leb (total (shifted_by (smallest rate signal offset p) p)) 16) _ t).0 }

pub shifts_suit : (rate signal offset : ℕ) (ps : List (List ℤ)) → All Sixteen ps → every (λ p. leb (smallest rate signal offset p) 10) ps ≡ true
    → AllSuit (shifts_of rate signal offset ps) ps
shifts_suit rate signal offset [] w t = tt
shifts_suit rate signal offset (p ∷ ps) w t =
    let q = and_both (leb (smallest rate signal offset p) 10) (every (λ p. leb (smallest rate signal offset p) 10) ps) t in
    (smallest_suits rate signal offset p w.0 (leb-true _ _ q.0), shifts_suit rate signal offset ps w.1 q.1)

-- what the writer says of pulses means these pulses, at the rate level and with the shifts given
module _ (signal offset rate : ℕ) (js : List ℕ) (ps : List (List ℤ)) (a : AllSuit js ps) where
  abbrev hand : Excitation
  hand = excited rate js ps

  abbrev to_signs : List Block → List (List ℕ) → Asks Excitation Excitation
  to_signs bs vs = then (of (λ y. y.pulses) (block_signs signal offset bs vs)) (λ qs. done (record { rate = rate; blocks = bs; pulses = qs }))

  abbrev to_lows : List Block → List (List ℕ) → Asks Excitation Excitation
  to_lows bs ms = then (of magnitudes (block_lows bs ms)) (λ vs. to_signs bs vs)

  abbrev to_splits : List Block → Asks Excitation Excitation
  to_splits bs = then (of (λ y. shifted y.blocks (magnitudes y)) (each [] (λ (b : Block). shell 4 b.count) bs)) (λ ms. to_lows bs ms)

  pub excitation_meant : meant hand (excitation signal offset (length ps)) ≡ hand
  unfolding excitation meant
  excitation_meant =
      let bs = blocks_by js ps in
      meant_then hand (of (λ (y : Excitation). y.blocks) (counts rate (length ps))) (λ b. to_splits b)
      ∙ ap (λ (b : List Block). meant hand (to_splits b)) (meant_of hand (λ (y : Excitation). y.blocks) (counts rate (length ps)) ∙ counts_meant rate js ps a)
      ∙ meant_then hand (of (λ (y : Excitation). shifted y.blocks (magnitudes y)) (each [] (λ (b : Block). shell 4 b.count) bs)) (λ ms. to_lows bs ms)
      ∙ ap (λ (ms : List (List ℕ)). meant hand (to_lows bs ms)) (meant_of hand (λ (y : Excitation). shifted y.blocks (magnitudes y)) (each [] (λ (b : Block). shell 4 b.count) bs) ∙ splits_meant js ps a)
      ∙ meant_then hand (of magnitudes (block_lows bs (shifted bs (whole ps)))) (λ vs. to_signs bs vs)
      ∙ ap (λ (vs : List (List ℕ)). meant hand (to_signs bs vs)) (meant_of hand magnitudes (block_lows bs (shifted bs (whole ps))) ∙ lows_meant js ps a)
      ∙ meant_then hand (of (λ (y : Excitation). y.pulses) (block_signs signal offset bs (whole ps))) (λ qs. done (record { rate = rate; blocks = bs; pulses = qs }))
      ∙ ap {B = Excitation} (λ (qs : List (List ℤ)). record { rate = rate; blocks = bs; pulses = qs }) (meant_of hand (λ (y : Excitation). y.pulses) (block_signs signal offset bs (whole ps)) ∙ signs_meant signal offset js ps a)

  -- a reader that gives the symbols written has read the pulses
  pub pulses_read_back : (b : List ℕ) (d z : Dec) → Gives b d (pulses_say signal offset (length ps) rate js ps) z
      → run b d (excitation signal offset (length ps)) ≡ got hand z
  pulses_read_back b d z g =
      written_reads_back b d z hand (excitation signal offset (length ps)) g ∙ ap {B = Got Excitation} (λ (x : Excitation). got x z) excitation_meant
