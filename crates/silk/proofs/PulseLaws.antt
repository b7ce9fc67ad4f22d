-- What every excitation that is read has, whatever the packet (RFC 6716, section 4.2.7.8): a block's magnitudes
-- before low bits total its count, no pulse lies beyond 17,407, and reading adds at most 64,656 to the total. Assumes
-- nothing.
use Prim.Native.Nat.{ℕ, zero, suc, ◌+◌, ◌-◌, ◌*◌, ◌/◌, ◌^◌, ◌<◌, ◌≤◌, min}
use mathlib.Core.Path.{◌≡◌, refl, ap, ◌∙◌}
use mathlib.Core.List.{List, [], ◌∷◌, ◌++◌}
use native.Mathlib.Nat.{pow-suc, mul-le-mul, suc-mul}
use native.Mathlib.Omega.{arith}
use borrow.Author.Tests.{eqb-false}
use lib.Dec.{eqb}
use lib.IntN.{ℤ, pos, nat_abs}
use lib.ListN.{length, take, drop, length-append}
use lib.Pow.{pow_mono}
use Rattle.deciding.proofs.Choice.{chosen, by_lt}
use Rattle.lists.specs.AtMost.{AtMost}
use Rattle.lists.specs.Inner.{All}
use Rattle.icdf.specs.Rule.{Icdf}
use Rattle.sheet.proofs.Families.{rate_stands, shell_stands}
use Rattle.sheet.proofs.SheetRule.{row_good}
use Rattle.entcode.specs.declared.Dec.{Dec}
use Rattle.tree.specs.Asks.{Asks, done, then, of}
use Rattle.tree.specs.Inner.Ran.{Ran}
use Rattle.tree.proofs.Always.{Always, ran_always, always_more, always_weaker, always_then, always_of}
use Rattle.silk.specs.PulseSyntax.{Block, Excitation, head_of, tail_of, each, low_counts, count, counts, total, split, shell, low_bits, block_lows, sign_row_of, sign, block_signs, magnitudes, shifted, excitation}
use Rattle.silk.proofs.PulseRowLaws.{count_size, later, low_bit_size}
use Rattle.silk.specs.Inner.Pulses.{Small}

-- ---- lists of trees

-- n elements, each of which has P
pub record Every {A : Type 0} (P : A → Type 0) (n : ℕ) (l : List A) : Type 0 where
  pub all : All P l
  pub count : length l ≡ n

cons_always : {S Q R A : Type 0} (P : A → Type 0) (n w m k : ℕ) (h : R → S) (t : Asks S A) (g : R → Q) (u : Asks Q (List A)) → w + m ≤ k → Always P w t → Always (Every P n) m u
    → Always (Every P (suc n)) k (then (of h t) (λ a. then (of g u) (λ l. done (a ∷ l))))
cons_always P n w m k h t g u e p q =
    always_more (Every P (suc n)) (w + (m + 0)) k (then (of h t) (λ a. then (of g u) (λ l. done (a ∷ l)))) (omega arith)
    (always_then P (Every P (suc n)) w (m + 0) (of h t) (λ a. then (of g u) (λ l. done (a ∷ l))) (always_of P w h t p) (λ a r.
    always_then (Every P n) (Every P (suc n)) m 0 (of g u) (λ l. done (a ∷ l)) (always_of (Every P n) m g u q) (λ l s.
    record { all = (r, s.all); count = ap suc s.count })))

-- each part takes at most w bits, and its result has P
module _ {S Q A : Type 0} (e : Q) (f : S → Asks Q A) (O : S → Type 0) (P : A → Type 0) (w : ℕ) (h : (p : S) → O p → Always P w (f p)) where
  pub each_always : (ps : List S) → All O ps → Always (Every P (length ps)) (length ps * w) (each e f ps)
  unfolding each
  each_always [] o = record { all = tt; count = refl }
  each_always (p ∷ ps) o =
      cons_always P (length ps) w (length ps * w) (suc (length ps) * w) (head_of e) (f p) tail_of (each e f ps) (omega (arith, suc-mul (length ps) w)) (h p o.0) (each_always ps o.1)

-- ---- counts

pub record SmallBlock (b : Block) : Type 0 where
  pub count16 : b.count ≤ 16
  pub lows10 : b.lows ≤ 10

low_counts_small : (n j v : ℕ) → n + j ≡ 10 → v ≤ 17 → (j ≡ 10 → v ≤ 16) → Always SmallBlock (16 * n) (low_counts n j v)
unfolding low_counts
low_counts_small zero j v e m t = record { count16 = t (omega arith); lows10 = omega arith }
low_counts_small (suc n) j v e m t =
    chosen (Always SmallBlock (16 * suc n)) (eqb v 17)
    (λ q. (
      (later (suc j)).good,
      omega arith,
      λ w i. always_more SmallBlock (16 * n) (16 * suc n - 16) (low_counts n (suc j) w) (omega arith)
          (low_counts_small n (suc j) w (omega arith) (omega (arith, i, (later (suc j)).most)) (λ p. omega (arith, i, (later (suc j)).tenth p))),
    ))
    (λ q. record { count16 = not17 v m (eqb-false v 17 q); lows10 = omega arith })
  where
    not17 : (v : ℕ) → v ≤ 17 → (v ≡ 17 → ⊥) → v ≤ 16
    not17 v m h = by_lt v 17 (λ p. omega arith) (λ p. absurd (h (omega arith)))

pub count_small : (level : ℕ) → level < 10 → Always SmallBlock 176 (count level)
unfolding count
count_small level h = (
  row_good (48 + level) (omega arith),
  omega arith,
  λ v i. low_counts_small 10 0 v refl (omega (arith, i, count_size level h)) (λ p. omega arith),
)

counts_small : (level n : ℕ) → level < 10 → Always (Every SmallBlock n) (n * 176) (counts level n)
unfolding counts
counts_small level zero h = record { all = tt; count = refl }
counts_small level (suc n) h =
    cons_always SmallBlock n 176 (n * 176) (suc n * 176) (head_of (record { count = 0; lows = 0 })) (count level) tail_of (counts level n) (omega arith) (count_small level h)
    (counts_small level n h)

-- ---- splits

pub total_append : (a b : List ℕ) → total (a ++ b) ≡ total a + total b
unfolding total
total_append [] b = omega arith
total_append (x ∷ a) b = omega (arith, total_append a b)

pub at_most_total : (v : List ℕ) → AtMost (total v) v
unfolding total
at_most_total [] i = omega arith
at_most_total (x ∷ v) zero = omega arith
at_most_total (x ∷ v) (suc i) = omega (arith, at_most_total v i)

split_most : (k c : ℕ) → k < 4 → c ≤ 16 → Always (λ (l : ℕ). l ≤ c) 16 (split k c)
unfolding split
split_most k zero h m = omega arith
split_most k (suc c) h m =
    (row_good (58 + k * 16 + suc c) (omega arith), omega arith, λ v i. omega (arith, i, (shell_stands k (suc c) h (omega arith) m).size))

-- 2^k magnitudes whose total is c
pub record Spread (k c : ℕ) (v : List ℕ) : Type 0 where
  pub size : length v ≡ 2 ^ k
  pub sum : total v ≡ c

-- a bound of the bits of 2^k places' splits
abbrev shell_bits : ℕ → ℕ
shell_bits zero = 0
shell_bits (suc k) = 16 + (shell_bits k + (shell_bits k + 0))

pub shell_spread : (k c : ℕ) → k ≤ 4 → c ≤ 16 → Always (Spread k c) (shell_bits k) (shell k c)
unfolding shell total
shell_spread zero c h m = record { size = refl; sum = omega arith }
shell_spread (suc k) c h m =
    always_then (λ (l : ℕ). l ≤ c) (Spread (suc k) c) 16 (shell_bits k + (shell_bits k + 0)) (split k c) _ (split_most k c (omega arith) m) (λ l lo.
    always_then (Spread k l) (Spread (suc k) c) (shell_bits k) (shell_bits k + 0) (of (take (2 ^ k)) (shell k l)) _
    (always_of (Spread k l) (shell_bits k) (take (2 ^ k)) (shell k l) (shell_spread k l (omega arith) (omega arith))) (λ a p.
    always_then (Spread k (c - l)) (Spread (suc k) c) (shell_bits k) 0 (of (drop (2 ^ k)) (shell k (c - l))) _
    (always_of (Spread k (c - l)) (shell_bits k) (drop (2 ^ k)) (shell k (c - l)) (shell_spread k (c - l) (omega arith) (omega arith))) (λ b q.
    record {
      size = length-append a b ∙ omega (arith, p.size, q.size, pow-suc 2 k);
      sum = total_append a b ∙ omega (arith, p.sum, q.sum);
    })))

small_of : (c : ℕ) → c ≤ 16 → (v : List ℕ) → Spread 4 c v → Small v
small_of c h v s = record { size = s.size; most = λ i. omega (arith, at_most_total v i, s.sum) }

-- a block's magnitudes are at most its count
pub shell_small : {b : List ℕ} {d z : Dec} {n : ℕ} {v : List ℕ} (c : ℕ) → c ≤ 16 → Ran b d (shell 4 c) n v z → Small v
shell_small {v = v} c h r = small_of c h v (ran_always (Spread 4 c) 240 (shell_spread 4 c (omega arith) h) r)

-- ---- low bits

low_bits_below : (n v : ℕ) → Always (λ (r : ℕ). r < (v + 1) * 2 ^ n) (16 * n) (low_bits n v)
unfolding low_bits
low_bits_below zero v = omega arith
low_bits_below (suc n) v = (
  row_good 123 (omega arith),
  omega arith,
  λ b i. always_more _ (16 * n) (16 * suc n - 16) (low_bits n (2 * v + b)) (omega arith) (always_weaker _ _ (16 * n) (low_bits n (2 * v + b)) (λ r q. step n v b r (omega (arith, i, low_bit_size)) q) (low_bits_below n (2 * v + b))),
)
  where
    step : (n v b r : ℕ) → b ≤ 1 → r < (2 * v + b + 1) * 2 ^ n → r < (v + 1) * 2 ^ suc n
    step n v b r h q =
        let m : (2 * v + b + 1) * 2 ^ n ≤ (2 * v + 2) * 2 ^ n = mul-le-mul {n₁ = 2 * v + b + 1} {m₁ = 2 ^ n} {n₂ = 2 * v + 2} {m₂ = 2 ^ n} (omega arith) (omega arith) in
        omega (arith, m, ap (λ (x : ℕ). (v + 1) * x) (pow-suc 2 n))

-- magnitudes with their low bits
abbrev pub Whole : ℕ → Type 0
Whole r = r ≤ 17407

whole_bits : (n v : ℕ) → n ≤ 10 → v ≤ 16 → Always Whole 160 (low_bits n v)
whole_bits n v h m =
    always_more Whole (16 * n) 160 (low_bits n v) (omega arith)
    (always_weaker _ Whole (16 * n) (low_bits n v) (λ r q. within r q) (low_bits_below n v))
  where
    within : (r : ℕ) → r < (v + 1) * 2 ^ n → r ≤ 17407
    within r q =
        let k : (v + 1) * 2 ^ n ≤ 17 * 1024 = mul-le-mul {n₁ = v + 1} {m₁ = 2 ^ n} {n₂ = 17} {m₂ = 1024} (omega arith) (pow_mono {i = n} {j = 10} h) in
        omega arith

-- a block of 16 such magnitudes
pub record WholeBlock (v : List ℕ) : Type 0 where
  pub size : length v ≡ 16
  pub most : All Whole v

all_at_most : (m : ℕ) (v : List ℕ) → AtMost m v → All (λ (x : ℕ). x ≤ m) v
all_at_most m [] h = tt
all_at_most m (x ∷ v) h = (h zero, all_at_most m v (λ i. h (suc i)))

lows_whole : (n : ℕ) (v : List ℕ) → n ≤ 10 → Small v → Always WholeBlock 2560 (each 0 (low_bits n) v)
lows_whole n v h s =
    always_more WholeBlock (length v * 160) 2560 (each 0 (low_bits n) v) (omega (arith, s.size))
    (always_weaker _ WholeBlock (length v * 160) (each 0 (low_bits n) v) (λ l q. record { size = q.count ∙ s.size; most = q.all })
    (each_always 0 (low_bits n) (λ (x : ℕ). x ≤ 16) Whole 160 (λ x m. whole_bits n x h m) v (all_at_most 16 v s.most)))

block_lows_whole : (bs : List Block) (vs : List (List ℕ)) → All SmallBlock bs → All Small vs → length vs ≡ length bs
    → Always (Every WholeBlock (length bs)) (length bs * 2560) (block_lows bs vs)
unfolding block_lows
block_lows_whole [] vs p q e = record { all = tt; count = refl }
block_lows_whole (b ∷ bs) [] p q e = absurd (omega arith)
block_lows_whole (b ∷ bs) (v ∷ vs) p q e =
    cons_always WholeBlock (length bs) 2560 (length bs * 2560) (suc (length bs) * 2560) (head_of []) (each 0 (low_bits b.lows) v) tail_of (block_lows bs vs) (omega arith)
    (lows_whole b.lows v p.0.lows10 q.0) (block_lows_whole bs vs p.1 q.1 (omega arith))

-- ---- signs

-- a pulse lies within -17,407 to 17,407
abbrev pub Within : ℤ → Type 0
Within z = nat_abs z ≤ 17407

sign_within : (r : List ℕ) → Icdf 8 r → (m : ℕ) → m ≤ 17407 → Always Within 16 (sign r m)
unfolding sign
sign_within r g zero h = omega arith
sign_within r g (suc m) h = (g, omega arith, λ v i. chosen Within (eqb v 0) (λ t. h) (λ t. h))

sign_good : (signal offset c : ℕ) → signal ≤ 2 → offset ≤ 1 → Icdf 8 (sign_row_of signal offset c)
sign_good signal offset c h k = row_good (124 + (7 * (offset + 2 * signal) + min c 6)) (omega arith)

block_signs_within : (signal offset : ℕ) → signal ≤ 2 → offset ≤ 1 → (bs : List Block) (vs : List (List ℕ)) → All WholeBlock vs → length vs ≡ length bs
    → Always (Every (All Within) (length bs)) (length bs * 256) (block_signs signal offset bs vs)
unfolding block_signs
block_signs_within signal offset h k [] vs q e = record { all = tt; count = refl }
block_signs_within signal offset h k (b ∷ bs) [] q e = absurd (omega arith)
block_signs_within signal offset h k (b ∷ bs) (v ∷ vs) q e =
    let t = each (pos 0) (sign (sign_row_of signal offset b.count)) v in
    let one : Always (All Within) 256 t =
    always_more (All Within) (length v * 16) 256 t (omega (arith, q.0.size))
    (always_weaker _ (All Within) (length v * 16) t (λ l r. r.all)
    (each_always (pos 0) (sign (sign_row_of signal offset b.count)) Whole Within 16 (λ m w. sign_within (sign_row_of signal offset b.count) (sign_good signal offset b.count h k) m w) v q.0.most)) in
    cons_always (All Within) (length bs) 256 (length bs * 256) (suc (length bs) * 256) (head_of []) t tail_of (block_signs signal offset bs vs) (omega arith) one
    (block_signs_within signal offset h k bs vs q.1 (omega arith))

-- ---- all of it

abbrev splits : Block → Asks (List ℕ) (List ℕ)
splits b = shell 4 b.count

splits_small : (b : Block) → SmallBlock b → Always Small 240 (splits b)
splits_small b q = always_weaker (Spread 4 b.count) Small 240 (splits b) (small_of b.count q.count16) (shell_spread 4 b.count (omega arith) q.count16)

-- every pulse lies within -17,407 to 17,407
abbrev pub Fine : Excitation → Type 0
Fine x = All (All Within) x.pulses

-- the tree from the signs on, from the low bits on, from the splits on, from the counts on
module _ (signal offset : ℕ) (h : signal ≤ 2) (k : offset ≤ 1) (r n : ℕ) (m : n ≤ 20) where
  abbrev from_signs : List Block → List (List ℕ) → Asks Excitation Excitation
  from_signs bs vs = then (of (λ y. y.pulses) (block_signs signal offset bs vs)) (λ ps. done (record { rate = r; blocks = bs; pulses = ps }))

  abbrev from_lows : List Block → List (List ℕ) → Asks Excitation Excitation
  from_lows bs ms = then (of magnitudes (block_lows bs ms)) (λ vs. from_signs bs vs)

  abbrev from_splits : List Block → Asks Excitation Excitation
  from_splits bs = then (of (λ y. shifted y.blocks (magnitudes y)) (each [] splits bs)) (λ ms. from_lows bs ms)

  abbrev from_counts : Asks Excitation Excitation
  from_counts = then (of (λ y. y.blocks) (counts r n)) (λ bs. from_splits bs)

  signs_fine : (bs : List Block) (vs : List (List ℕ)) → length bs ≡ n → Every WholeBlock (length bs) vs → Always Fine 5120 (from_signs bs vs)
  signs_fine bs vs e u =
      always_more Fine (length bs * 256 + 0) 5120 (from_signs bs vs) (omega arith)
      (always_then (Every (All Within) (length bs)) Fine (length bs * 256) 0 (of (λ y. y.pulses) (block_signs signal offset bs vs)) (λ ps. done (record { rate = r; blocks = bs; pulses = ps }))
      (always_of (Every (All Within) (length bs)) (length bs * 256) (λ y. y.pulses) (block_signs signal offset bs vs) (block_signs_within signal offset h k bs vs u.all u.count)) (λ ps w. w.all))

  lows_fine : (bs : List Block) (ms : List (List ℕ)) → length bs ≡ n → All SmallBlock bs → Every Small (length bs) ms → Always Fine 56320 (from_lows bs ms)
  lows_fine bs ms e p q =
      always_more Fine (length bs * 2560 + 5120) 56320 (from_lows bs ms) (omega arith)
      (always_then (Every WholeBlock (length bs)) Fine (length bs * 2560) 5120 (of magnitudes (block_lows bs ms)) (λ vs. from_signs bs vs)
      (always_of (Every WholeBlock (length bs)) (length bs * 2560) magnitudes (block_lows bs ms) (block_lows_whole bs ms p q.all q.count)) (λ vs u. signs_fine bs vs e u))

  splits_fine : (bs : List Block) → Every SmallBlock n bs → Always Fine 61120 (from_splits bs)
  splits_fine bs p =
      let e = p.count in
      always_more Fine (length bs * 240 + 56320) 61120 (from_splits bs) (omega arith)
      (always_then (Every Small (length bs)) Fine (length bs * 240) 56320 (of (λ y. shifted y.blocks (magnitudes y)) (each [] splits bs)) (λ ms. from_lows bs ms)
      (always_of (Every Small (length bs)) (length bs * 240) (λ y. shifted y.blocks (magnitudes y)) (each [] splits bs) (each_always [] splits SmallBlock Small 240 splits_small bs p.all))
      (λ ms q. lows_fine bs ms e p.all q))

  counts_fine : r < 10 → Always Fine 64640 from_counts
  counts_fine l =
      always_more Fine (n * 176 + 61120) 64640 from_counts (omega arith)
      (always_then (Every SmallBlock n) Fine (n * 176) 61120 (of (λ y. y.blocks) (counts r n)) (λ bs. from_splits bs)
      (always_of (Every SmallBlock n) (n * 176) (λ y. y.blocks) (counts r n) (counts_small r n l)) (λ bs p. splits_fine bs p))

pub excitation_within : (signal offset n : ℕ) → signal ≤ 2 → offset ≤ 1 → n ≤ 20 → Always Fine 64656 (excitation signal offset n)
unfolding excitation
excitation_within signal offset n h k m = (
  row_good (46 + signal / 2) (omega arith),
  omega arith,
  λ r i. counts_fine signal offset h k r n m (omega (arith, i, (rate_stands (signal / 2) (omega arith)).size)),
)
