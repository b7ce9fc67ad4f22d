-- One turn of each loop of the pulse writer: what is said along a tree of `PulseSyntax` before and behind one more
-- symbol, place or block. Assumes nothing.
use Prim.Native.Nat.{ℕ, zero, suc, ◌+◌, ◌-◌, ◌*◌, ◌/◌, ◌%◌, ◌^◌, ◌<◌, ◌≤◌}
use mathlib.Core.Path.{◌≡◌, refl, sym, subst, ◌∙◌}
use mathlib.Core.List.{List, [], ◌∷◌, ◌++◌, map}
use native.Mathlib.Numerals.{add-one}
use native.Mathlib.Omega.{arith}
use borrow.Author.Tests.{lt-ltb, le-ltb, ne_eqb}
use lib.Dec.{ltb}
use lib.ListN.{length, get_or, take, drop, drop_of_length-le}
use lib.Seq.{drop-cons}
use Rattle.deciding.proofs.Choice.{chosen}
use Rattle.icdf.specs.Rule.{Writable}
use Rattle.sheet.specs.Directory.{count_row, shell_row, low_bit_row}
use Rattle.entcode.specs.Models.{tab}
use Rattle.entcode.specs.Flat.{Out}
use Rattle.entcode.specs.Inner.Writing.{Core, Wrote}
use Rattle.tree.specs.Asks.{Asks, ask, symbols}
use Rattle.tree.proofs.AsksLaws.{symbols_cons}
use Rattle.tree.specs.Inner.Told.{Told, Midway}
use Rattle.tree.proofs.Told.{told_done, told_ask, told_within, midway_start, midway_next, midway_asked, midway_end}
use Rattle.silk.specs.PulseSyntax.{row, Block, head_of, tail_of, each, later_row, count_said, low_counts, count, counts, total, split, low_bits}
use Rattle.silk.proofs.PulseSteps.{less_suc}
use Rattle.silk.specs.Inner.Pulses.{block_at, blocks_from}
use Rattle.silk.proofs.PulseRowLaws.{count_writable, later_writable}
use Rattle.silk.proofs.PulseWritten.{next_bit}

-- ---- lists of trees

pub each_said : {P Q A : Type 0} (e : Q) (f : P → Asks Q A) (y : Q) (ys : List Q) (p : P) (ps : List P)
    → symbols (y ∷ ys) (each e f (p ∷ ps)) ≡ symbols y (f p) ++ symbols ys (each e f ps)
unfolding each
each_said e f y ys p ps = symbols_cons (y ∷ ys) (head_of e) (f p) tail_of (each e f ps)

-- a loop over the places ys, which tells a tree of at most m bits for each
module _ {P Q A : Type 0} (e : Q) (f : P → Asks Q A) (h : Q → P) (m : ℕ) (o : Out) (ys : List Q) where
  -- k places are told
  abbrev pub ToldTo : Out → ℕ → Type 0
  ToldTo p k = Midway o ys (each e f (map h ys)) (m * k) p (drop k ys) (each e f (map h (drop k ys)))

  pub place_told : {p q : Out} {y : Q} (k : ℕ) → ToldTo p k → k < length ys → y ≡ get_or ys k e → Told p y (f (h y)) m q → ToldTo q (k + 1)
  place_told {y = y} k g l i t =
      midway_next g t (rw (add-one, drop-cons ys k e l, sym i) (each_said e f y (drop (suc k) ys) (h y) (map h (drop (suc k) ys)))) (omega arith)

  pub places_told : {p : Out} (k : ℕ) → ToldTo p k → length ys ≤ k → Told o ys (each e f (map h ys)) (m * k) p
  unfolding each symbols
  places_told k g l = midway_end g (rw (drop_of_length-le ys {i = k} l))

-- ---- counts

pub said_most : (b : Block) (j : ℕ) → b.count ≤ 16 → count_said j b ≤ 17
said_most b j h = chosen (λ (v : ℕ). v ≤ 17) (ltb j b.lows) (λ t. omega arith) (λ t. omega arith)

pub first_writable : (b : Block) (level : ℕ) → b.count ≤ 16 → level < 10 → Writable 8 (count_row level) (count_said 0 b)
first_writable b level h l = count_writable level (count_said 0 b) l (said_most b 0 h)

pub said_writable : (b : Block) (j : ℕ) → b.count ≤ 16 → b.lows ≤ 10 → Writable 8 (later_row j) (count_said j b)
said_writable b j h l = later_writable j (count_said j b) (said_most b j h) (λ e. rw (le-ltb j b.lows (omega arith)) h)

-- after j of a block's low bits: one more of them, or the count
pub lows_left : (b : Block) (n j : ℕ) → j < n → j < b.lows
    → low_counts (n - j) j (count_said j b) ≡ ask (row (later_row (j + 1))) (count_said (j + 1)) (λ v. low_counts (n - (j + 1)) (j + 1) v)
unfolding low_counts
lows_left b n j h l = rw (add-one, less_suc n j h, lt-ltb j b.lows l)

pub lows_said : (b : Block) (n j : ℕ) → b.lows ≤ j → b.count ≤ 16 → symbols b (low_counts n j (count_said j b)) ≡ []
unfolding low_counts symbols
lows_said b zero j l h = refl
lows_said b (suc n) j l h = rw (le-ltb j b.lows l, ne_eqb b.count 17 (λ e. omega arith))

pub counts_said : (c l : List ℕ) (level n i : ℕ) → i < n
    → symbols (blocks_from c l i (n - i)) (counts level (n - i))
    ≡ symbols (block_at c l i) (count level) ++ symbols (blocks_from c l (i + 1) (n - (i + 1))) (counts level (n - (i + 1)))
unfolding counts blocks_from
counts_said c l level n i h =
    rw (add-one, less_suc n i h)
    (symbols_cons (block_at c l i ∷ blocks_from c l (suc i) (n - suc i)) (head_of (record { count = 0; lows = 0 })) (count level) tail_of (counts level (n - suc i)))

pub counts_silent : (c l : List ℕ) (level n i : ℕ) → n ≤ i → symbols (blocks_from c l i (n - i)) (counts level (n - i)) ≡ []
unfolding counts symbols
counts_silent c l level n i h = let e : n - i ≡ 0 = omega arith in rw e

-- ---- splits

pub split_told : {o q : Out} {y r : List ℕ} {v : ℕ} (k c : ℕ) → 1 ≤ c → r ≡ shell_row k c → v ≡ total (take (2 ^ k) y)
    → Wrote o (record { model = tab 8 r; value = v }) q → Told o y (split k c) 16 q
unfolding split
split_told k zero l e f h = absurd (omega arith)
split_told k (suc c) l e f h = told_ask e f h (told_done h.core)

-- ---- low bits

-- k low bits are left of y, and the highest of them is written
pub bit_told : {R A : Type 0} {o p q : Out} {z : R} {whole : Asks R A} {n m : ℕ} {r : List ℕ} (k j y : ℕ) → k ≡ suc j
    → Midway o z whole n p y (low_bits k (y / 2 ^ k)) → r ≡ low_bit_row → Wrote p (record { model = tab 8 r; value = y / 2 ^ j % 2 }) q → n + 16 ≤ m
    → Midway o z whole m q y (low_bits j (y / 2 ^ j))
unfolding low_bits
bit_told {o = o} {p = p} {q = q} {z = z} {whole = whole} {n = n} {m = m} k j y s h e w l =
    subst (λ (v : ℕ). Midway o z whole m q y (low_bits j v)) (sym (next_bit j y))
    (midway_asked (subst (λ (i : ℕ). Midway o z whole n p y (low_bits i (y / 2 ^ i))) s h) e refl w l)

pub bits_silent : (y v : ℕ) → symbols y (low_bits 0 v) ≡ []
unfolding low_bits symbols
bits_silent y v = refl

no_lows_said : (ys vs : List ℕ) → symbols ys (each 0 (low_bits 0) vs) ≡ []
unfolding each low_bits symbols
no_lows_said ys [] = refl
no_lows_said ys (v ∷ vs) = symbols_cons ys (head_of 0) (low_bits 0 v) tail_of (each 0 (low_bits 0) vs) ∙ no_lows_said (tail_of ys) vs

-- a block with no low bits says none
pub no_lows_told : {o : Out} {m : ℕ} (n : ℕ) (ys vs : List ℕ) → n ≡ 0 → Core o → Told o ys (each 0 (low_bits n) vs) m o
no_lows_told n ys vs e h = rw e (midway_end (midway_start h) (no_lows_said ys vs))
