-- Every symbol of a block that a shift suits has a probability, at every rate level of a frame (RFC 6716, section
-- 4.2.7.8; document 01, "Pulses"). So the smallest shift is the first of 0 to 10 at which the shifted magnitudes
-- total at most 16. Assumes nothing.
use Prim.Native.Nat.{ℕ, zero, suc, ◌+◌, ◌-◌, ◌*◌, ◌/◌, ◌^◌, ◌≤◌, ◌<◌, min}
use mathlib.Core.Path.{◌≡◌, refl, sym, subst, ◌∙◌}
use mathlib.Core.Bool.{Bool, true, false, cond}
use mathlib.Core.List.{List, [], ◌∷◌, ◌++◌, map}
use native.Mathlib.Nat.{pow-suc, div-one}
use native.Mathlib.Omega.{arith}
use borrow.Author.Tests.{lt-ltb, le-ltb, eq-eqb, ne_eqb, le-leb, lt-leb}
use lib.Dec.{leb, ltb}
use lib.IntN.{ℤ, pos, negsuc, nat_abs}
use lib.ListN.{length, take, drop, length-drop, length-map, take-append-drop}
use lib.Seq.{length-take-le}
use Rattle.deciding.proofs.Choice.{by_lt}
use Rattle.lists.specs.Every.{every}
use Rattle.lists.specs.Inner.{All}
use Rattle.icdf.proofs.RuleLaws.{symbol_accepts}
use Rattle.sheet.specs.Directory.{row_of, rate_row}
use Rattle.sheet.proofs.Places.{sizes, row_size}
use Rattle.sheet.proofs.Families.{rate_stands, count_stands, shell_stands, sign_stands}
use Rattle.entcode.specs.Rules.{say_rule}
use Rattle.tree.specs.Asks.{Asks, done, ask, then, of}
use Rattle.tree.proofs.Says.{Says, means, says, says_then, says_of, says_all_lem}
use Rattle.tree.specs.Telling.{all_said}
use Rattle.tree.proofs.TellingLaws.{said_both}
use Rattle.silk.proofs.PulseRowLaws.{later, later_writable}
use Rattle.silk.proofs.RowSays.{row_says, says_row}
use Rattle.silk.specs.PulseSyntax.{row, Block, head_of, tail_of, each, later_row, count_said, low_counts, count, counts, total, split, shell, low_bits, block_lows, sign_row_of, sign, block_signs, shifted, excitation}
use Rattle.silk.proofs.PulseTold.{said_most}
use Rattle.silk.specs.Inner.Pulses.{Sixteen, Suits, AllSuit, whole, least_shift}
use Rattle.silk.specs.PulseWriting.{shifted_by, block_by, block_says, shift_ok, first_from, smallest, blocks_by, excited, shifts_of, write_rule}
use Rattle.silk.proofs.PulseWritten.{total_parts, one_value, next_bit}

-- ---- counts

-- a symbol after j low bits: after ten, 17 is none
later_says : {R A : Type 0} {y : R} {r : A} (j : ℕ) {w : R → ℕ} {f : ℕ → Asks R A} → w y ≤ 17 → (j ≡ 10 → w y ≤ 16) → Says y r (f (w y))
    → Says y r (ask (row (later_row j)) w f)
later_says {y = y} j {w = w} h k p = says (symbol_accepts 8 (later_row j) (w y) (later j).good (later_writable j (w y) h k)) p

said_last : (j : ℕ) (b : Block) → b.lows ≤ j → b.count ≤ 16 → count_said j b ≤ 16
said_last j b l h = rw (le-ltb j b.lows l) h

block_means : (j v : ℕ) (b : Block) → v ≡ b.count → j ≡ b.lows → Says b b (done (record { count = v; lows = j }))
block_means j v b e f = rw (e, f) means

low_counts_says : (n j : ℕ) (b : Block) → n + j ≡ 10 → j ≤ b.lows → b.lows ≤ 10 → b.count ≤ 16 → Says b b (low_counts n j (count_said j b))
unfolding low_counts
low_counts_says zero j b e l m h = block_means j (count_said j b) b (rw (le-ltb j b.lows (omega arith))) (omega arith)
low_counts_says (suc n) j b e l m h =
    by_lt j b.lows
    (λ p.
    rw (lt-ltb j b.lows p)
    (later_says (suc j) (said_most b (suc j) h) (λ t. said_last (suc j) b (omega arith) h) (low_counts_says n (suc j) b (omega arith) p m h)))
    (λ p. rw (le-ltb j b.lows p, ne_eqb b.count 17 (λ r. omega arith)) (block_means j b.count b refl (omega arith)))

count_says : (level : ℕ) (b : Block) → level ≤ 8 → b.lows ≤ 10 → b.count ≤ 16 → Says b b (count level)
unfolding count
count_says level b g m h =
    says_row (48 + level) (omega arith) (omega (arith, said_most b 0 h, (count_stands level (omega arith)).size)) (low_counts_says 10 0 b refl (omega arith) m h)

-- ---- splits

split_says : (k c : ℕ) (v : List ℕ) → k < 4 → c ≤ 16 → total v ≡ c → Says v (total (take (2 ^ k) v)) (split k c)
unfolding split
split_says k zero v h m e = let z : total (take (2 ^ k) v) ≡ 0 = omega (arith, total_parts (2 ^ k) v) in rw z means
split_says k (suc c) v h m e =
    says_row (58 + k * 16 + suc c) (omega arith) (omega (arith, total_parts (2 ^ k) v, (shell_stands k (suc c) h (omega arith) m).size)) means

shell_says : (k c : ℕ) (v : List ℕ) → k ≤ 4 → c ≤ 16 → length v ≡ 2 ^ k → total v ≡ c → Says v v (shell k c)
unfolding shell
shell_says zero c v h m l e = subst (λ (u : List ℕ). Says v u (done (c ∷ []))) (one_value c v l e) means
shell_says (suc k) c v h m l e =
    let n = 2 ^ k in
    let w : 2 ^ suc k ≡ n + n = omega (arith, pow-suc 2 k) in
    let s = total (take n v) in
    let t : s + total (drop n v) ≡ c = total_parts n v ∙ e in
    says_then _ (split_says k c v h m e)
    (says_then _ (says_of (take n) (shell_says k s (take n v) (omega arith) (omega arith) (length-take-le n v (omega arith)) refl))
    (says_then _ (says_of (drop n) (shell_says k (c - s) (drop n v) (omega arith) (omega arith) (length-drop n v ∙ omega arith) (omega arith)))
    (subst (λ (u : List ℕ). Says v u (done (take n v ++ drop n v))) (take-append-drop n v) means)))

-- ---- low bits

low_bits_says : (n y : ℕ) → Says y y (low_bits n (y / 2 ^ n))
unfolding low_bits sizes
low_bits_says zero y = subst (λ (v : ℕ). Says y y (done v)) (sym (div-one y)) means
low_bits_says (suc n) y =
    says_row 123 (omega arith) (omega (arith, row_size 123))
    (subst (λ (v : ℕ). Says y y (low_bits n v)) (next_bit n y) (low_bits_says n y))

-- ---- signs

sign_says : (k : ℕ) (z : ℤ) → k < 42 → Says z z (sign (row_of (124 + k)) (nat_abs z))
unfolding sign
sign_says k (pos zero) h = means
sign_says k (pos (suc n)) h =
    let e : ltb (suc n) 0 ≡ false = le-ltb (suc n) 0 (omega arith) in
    says_row (124 + k) (omega arith) (rw e (omega (arith, (sign_stands k h).size))) (rw e means)
sign_says k (negsuc n) h = says_row (124 + k) (omega arith) (omega (arith, (sign_stands k h).size)) means

-- ---- a block

cons_says : {A : Type 0} (e : A) {y : A} {ys : List A} {t : Asks A A} {u : Asks (List A) (List A)} → Says y y t → Says ys ys u
    → Says (y ∷ ys) (y ∷ ys) (then (of (head_of e) t) (λ a. then (of tail_of u) (λ l. done (a ∷ l))))
cons_says e p q = says_then _ (says_of (head_of e) p) (says_then _ (says_of tail_of q) means)

each_says : {S A : Type 0} (e : A) (f : S → Asks A A) (g : A → S) → ((y : A) → Says y y (f (g y))) → (ys : List A) → Says ys ys (each e f (map g ys))
unfolding each
each_says e f g h [] = means
each_says e f g h (y ∷ ys) = cons_says e (h y) (each_says e f g h ys)

module _ (level signal offset : ℕ) (a : level ≤ 8) (b : signal ≤ 2) (c : offset ≤ 1) where
  -- the parts of a block that a shift suits
  module _ (j : ℕ) (p : List ℤ) (s : Suits j p) where
    shifted_size : length (shifted_by j p) ≡ 16
    shifted_size = length-map (map nat_abs p) (λ m. m / 2 ^ j) ∙ length-map p nat_abs ∙ s.size

    block_count : Says (block_by j p) (block_by j p) (count level)
    block_count = count_says level (block_by j p) a s.few s.most

    block_splits : Says (shifted_by j p) (shifted_by j p) (shell 4 (total (shifted_by j p)))
    block_splits = shell_says 4 (total (shifted_by j p)) (shifted_by j p) (omega arith) s.most shifted_size refl

    block_lows_lem : Says (map nat_abs p) (map nat_abs p) (each 0 (low_bits j) (shifted_by j p))
    block_lows_lem = each_says 0 (low_bits j) (λ m. m / 2 ^ j) (low_bits_says j) (map nat_abs p)

    block_signs_lem : Says p p (each (pos 0) (sign (sign_row_of signal offset (total (shifted_by j p)))) (map nat_abs p))
    block_signs_lem =
        each_says (pos 0) (sign (sign_row_of signal offset (total (shifted_by j p)))) nat_abs
        (λ z. sign_says (7 * (offset + 2 * signal) + min (total (shifted_by j p)) 6) z (omega arith)) p

    pub block_sayable : all_said (block_says level signal offset j p) ≡ true
    unfolding block_says
    block_sayable =
        said_both _ _ (says_all_lem block_count) (said_both _ _ (says_all_lem block_splits) (said_both _ _ (says_all_lem block_lows_lem) (says_all_lem block_signs_lem)))

  -- the parts of a frame, block after block
  counts_says : (js : List ℕ) (ps : List (List ℤ)) → AllSuit js ps → Says (blocks_by js ps) (blocks_by js ps) (counts level (length ps))
  unfolding counts blocks_by
  counts_says [] [] h = means
  counts_says [] (p ∷ ps) h = absurd h
  counts_says (j ∷ js) [] h = absurd h
  counts_says (j ∷ js) (p ∷ ps) h = cons_says (record { count = 0; lows = 0 }) (block_count j p h.0) (counts_says js ps h.1)

  splits_says : (js : List ℕ) (ps : List (List ℤ)) → AllSuit js ps
      → Says (shifted (blocks_by js ps) (whole ps)) (shifted (blocks_by js ps) (whole ps)) (each [] (λ (k : Block). shell 4 k.count) (blocks_by js ps))
  unfolding each blocks_by shifted
  splits_says [] [] h = means
  splits_says [] (p ∷ ps) h = absurd h
  splits_says (j ∷ js) [] h = absurd h
  splits_says (j ∷ js) (p ∷ ps) h = cons_says [] (block_splits j p h.0) (splits_says js ps h.1)

  lows_says : (js : List ℕ) (ps : List (List ℤ)) → AllSuit js ps → Says (whole ps) (whole ps) (block_lows (blocks_by js ps) (shifted (blocks_by js ps) (whole ps)))
  unfolding block_lows blocks_by shifted
  lows_says [] [] h = means
  lows_says [] (p ∷ ps) h = absurd h
  lows_says (j ∷ js) [] h = absurd h
  lows_says (j ∷ js) (p ∷ ps) h = cons_says [] (block_lows_lem j p h.0) (lows_says js ps h.1)

  signs_says : (js : List ℕ) (ps : List (List ℤ)) → AllSuit js ps → Says ps ps (block_signs signal offset (blocks_by js ps) (whole ps))
  unfolding block_signs blocks_by
  signs_says [] [] h = means
  signs_says [] (p ∷ ps) h = absurd h
  signs_says (j ∷ js) [] h = absurd h
  signs_says (j ∷ js) (p ∷ ps) h = cons_says [] (block_signs_lem j p h.0) (signs_says js ps h.1)

  -- all of them
  pub frame_says : (js : List ℕ) (ps : List (List ℤ)) → AllSuit js ps → Says (excited level js ps) (excited level js ps) (excitation signal offset (length ps))
  unfolding excitation
  frame_says js ps h =
      let k : signal / 2 < 2 = omega arith in
      says_row (46 + signal / 2) (omega arith) (omega (arith, (rate_stands (signal / 2) k).size))
      (says_then _ (says_of _ (counts_says js ps h))
      (says_then _ (says_of _ (splits_says js ps h)) (says_then _ (says_of _ (lows_says js ps h)) (says_then _ (says_of _ (signs_says js ps h)) means))))

-- ---- the smallest shift

-- so a shift's test is that of the total alone
pub shift_test : (level signal offset j : ℕ) (p : List ℤ) → level ≤ 8 → signal ≤ 2 → offset ≤ 1 → length p ≡ 16 → j ≤ 10
    → shift_ok level signal offset p j ≡ leb (total (shifted_by j p)) 16
unfolding shift_ok
shift_test level signal offset j p a b c s f =
    by_lt 16 (total (shifted_by j p)) (λ l. rw (lt-leb (total (shifted_by j p)) 16 l))
    (λ l. rw (le-leb (total (shifted_by j p)) 16 l, block_sayable level signal offset a b c j p (record { size = s; few = f; most = l })))

first_same : (f g : ℕ → Bool) (n j : ℕ) → ((i : ℕ) → i < n + j → f i ≡ g i) → first_from f n j ≡ first_from g n j
unfolding first_from
first_same f g zero j h = refl
first_same f g (suc n) j h = rw (h j (omega arith), first_same f g n (suc j) (λ i l. h i (omega arith)))

module _ (rate signal offset : ℕ) (a : rate ≤ 8) (b : signal ≤ 2) (c : offset ≤ 1) where
  smallest_least : (p : List ℤ) → length p ≡ 16 → smallest rate signal offset p ≡ least_shift p
  smallest_least p s =
      first_same (shift_ok rate signal offset p) (λ j. leb (total (shifted_by j p)) 16) 11 0 (λ i l. shift_test rate signal offset i p a b c s (omega arith))

  -- so the shifts of a frame depend on its pulses alone
  pub shifts_least : (ps : List (List ℤ)) → All Sixteen ps → shifts_of rate signal offset ps ≡ map least_shift ps
  shifts_least [] w = refl
  shifts_least (p ∷ ps) w = rw (smallest_least p w.0, shifts_least ps w.1)

  every_least : (ps : List (List ℤ)) → All Sixteen ps → every (λ p. leb (smallest rate signal offset p) 10) ps ≡ every (λ p. leb (least_shift p) 10) ps
  every_least [] w = refl
  every_least (p ∷ ps) w = rw (smallest_least p w.0, every_least ps w.1)

  -- every rate level has a probability, so 8 is refused exactly where some block has no shift
  pub rule_least : (ps : List (List ℤ)) → All Sixteen ps → write_rule signal offset rate ps ≡ cond (every (λ p. leb (least_shift p) 10) ps) 0 8
  unfolding write_rule
  rule_least ps w =
      let k : signal / 2 < 2 = omega arith in
      let e : say_rule (row (rate_row signal)) rate ≡ 0 = row_says (46 + signal / 2) rate (omega arith) (omega (arith, (rate_stands (signal / 2) k).size)) in
      rw (eq-eqb _ _ e, every_least ps w)
