-- One turn of each loop of the pulse reader: how the rest of a tree of `PulseSyntax` runs after one more symbol,
-- place or block. Assumes nothing.
use Prim.Native.Nat.{ℕ, zero, suc, ◌+◌, ◌-◌, ◌*◌, ◌<◌, ◌≤◌}
use mathlib.Core.Path.{◌≡◌, refl, sym, ap, ◌∙◌}
use mathlib.Core.List.{List, [], ◌∷◌, ◌++◌, map-append}
use native.Mathlib.Numerals.{add-one}
use native.Mathlib.Omega.{arith}
use borrow.Author.Tests.{eq-eqb, ne_eqb}
use lib.IntN.{ℤ, pos, neg_ℤ}
use lib.ListN.{length, set}
use lib.Seq.{get_or-set_same, get_or-set_other}
use Rattle.sheet.specs.Directory.{shell_row, low_bit_row}
use Rattle.entcode.specs.declared.Dec.{Dec}
use Rattle.entcode.specs.declared.Decoded.{Decoded}
use Rattle.entcode.specs.Models.{tab}
use Rattle.entcode.specs.Inner.Reading.{Core, Took}
use Rattle.tree.specs.Asks.{Asks, got, run}
use Rattle.tree.specs.Inner.Ran.{Ran}
use Rattle.tree.proofs.Ran.{asked, ran_ask, ran_bind, ran_done, ran_within}
use Rattle.tree.proofs.Through.{before, run_cons, ran_of}
use Rattle.silk.specs.PulseSyntax.{Block, head_of, tail_of, each, later_row, count_said, low_counts, count, counts, split, shell, low_bits, block_lows, sign_row_of, sign, block_signs}
use Rattle.silk.specs.Inner.Pulses.{block_at, blocks_from, Placed}

-- ---- lists of trees

pub each_next : {P Q A : Type 0} (b : List ℕ) (d z : Dec) (e : Q) (f : P → Asks Q A) (p : P) (ps : List P) (x : A) → run b d (f p) ≡ got x z
    → run b d (each e f (p ∷ ps)) ≡ before (x ∷ []) (run b z (each e f ps))
unfolding each
each_next b d z e f p ps x h = run_cons b d z (head_of e) (f p) tail_of (each e f ps) x h

pub each_end : {P Q A : Type 0} (b : List ℕ) (d : Dec) (e : Q) (f : P → Asks Q A) → run b d (each e f []) ≡ got [] d
unfolding each run
each_end b d e f = refl

-- ---- counts

-- a number that is not yet reached has a step to it
pub less_suc : (n k : ℕ) → k < n → n - k ≡ suc (n - suc k)
less_suc n k h = omega arith

pub lows_end : (b : List ℕ) (d : Dec) (n j v : ℕ) → (v ≡ 17 → ⊥) → run b d (low_counts n j v) ≡ got (record { count = v; lows = j }) d
unfolding run low_counts
lows_end b d zero j v h = refl
lows_end b d (suc n) j v h = rw (ne_eqb v 17 h)

pub lows_next : (b : List ℕ) (d : Dec) (r : List ℕ) (n j v : ℕ) (a : Decoded) → r ≡ later_row (j + 1) → Took b (tab 8 r) d a → j < n → v ≡ 17
    → run b a.state (low_counts (n - (j + 1)) (j + 1) a.value) ≡ run b d (low_counts (n - j) j v)
unfolding low_counts
lows_next b d r n j v a e h l p =
    rw (add-one, less_suc n j l, eq-eqb v 17 p)
    (asked b d r (later_row (suc j)) (count_said (suc j)) (λ w. low_counts (n - suc j) (suc j) w) a (rw add-one at e) h)

pub counts_end : (b : List ℕ) (d : Dec) (level n i : ℕ) → n ≤ i → run b d (counts level (n - i)) ≡ got [] d
unfolding run counts
counts_end b d level n i h = let e : n - i ≡ 0 = omega arith in rw e

pub counts_next : (b : List ℕ) (d z : Dec) (level n i : ℕ) (x : Block) → i < n → run b d (count level) ≡ got x z
    → run b d (counts level (n - i)) ≡ before (x ∷ []) (run b z (counts level (n - (i + 1))))
unfolding counts
counts_next b d z level n i x h e =
    rw (add-one, less_suc n i h)
    (run_cons b d z (head_of (record { count = 0; lows = 0 })) (count level) tail_of (counts level (n - suc i)) x e)

-- ---- blocks in arrays

pub blocks_end : (c l : List ℕ) (n i : ℕ) → n ≤ i → blocks_from c l i (n - i) ≡ []
unfolding blocks_from
blocks_end c l n i h = let e : n - i ≡ 0 = omega arith in rw e

pub blocks_left : (c l : List ℕ) (n i : ℕ) → i < n → blocks_from c l i (n - i) ≡ block_at c l i ∷ blocks_from c l (i + 1) (n - (i + 1))
unfolding blocks_from
blocks_left c l n i h = rw (add-one, less_suc n i h)

blocks_snoc : (c l : List ℕ) (i n : ℕ) → blocks_from c l i (suc n) ≡ blocks_from c l i n ++ (block_at c l (i + n) ∷ [])
unfolding blocks_from
blocks_snoc c l i zero = let e : i + zero ≡ i = omega arith in rw e
blocks_snoc c l i (suc n) =
    let e : i + suc n ≡ suc i + n = omega arith in
    rw e (ap {B = List Block} (λ (x : List Block). block_at c l i ∷ x) (blocks_snoc c l (suc i) n))

blocks_kept : (c l : List ℕ) (k v w i n : ℕ) → i + n ≤ k → blocks_from (set c k v) (set l k w) i n ≡ blocks_from c l i n
unfolding blocks_from
blocks_kept c l k v w i zero h = refl
blocks_kept c l k v w i (suc n) h =
    let o : i ≡ k → ⊥ = λ e. omega arith in
    let f : block_at (set c k v) (set l k w) i ≡ block_at c l i = rw (get_or-set_other c k i v 0 o, get_or-set_other l k i w 0 o) in
    rw (f, blocks_kept c l k v w (suc i) n (omega arith))

-- one more block is stored
pub blocks_stored : (c l : List ℕ) (k v w : ℕ) → k < length c → k < length l
    → blocks_from (set c k v) (set l k w) 0 (k + 1) ≡ blocks_from c l 0 k ++ (record { count = v; lows = w } ∷ [])
blocks_stored c l k v w p q =
    let e : 0 + k ≡ k = omega arith in
    rw add-one
    (blocks_snoc (set c k v) (set l k w) 0 k
    ∙ rw (e, blocks_kept c l k v w 0 k (omega arith), get_or-set_same c k v 0 p, get_or-set_same l k w 0 q))

-- ---- splits

pub split_none : {b : List ℕ} {d : Dec} (k c : ℕ) → c ≡ 0 → Core b d → Ran b d (split k c) 16 0 d
unfolding split
split_none k c e h = rw e (ran_within (omega arith) (ran_done h))

pub split_some : {b r : List ℕ} {d : Dec} {a : Decoded} (k c : ℕ) → 1 ≤ c → r ≡ shell_row k c → Took b (tab 8 r) d a → Ran b d (split k c) 16 a.value a.state
unfolding split
split_some k zero l e h = absurd (omega arith)
split_some k (suc c) l e h = ran_ask e h (ran_done h.core)

pub one_place : {b : List ℕ} {d : Dec} (c : ℕ) → Core b d → Placed b d (shell 0 c) 0 (pos c ∷ []) d
unfolding shell
one_place c h = record { values = c ∷ []; ran = ran_done h; is = refl }

-- a split, then its left half, then its right half
pub halves : {b : List ℕ} {d q r z : Dec} {l n : ℕ} {s t : List ℤ} (k c : ℕ) → Ran b d (split k c) 16 l q → Placed b q (shell k l) n s r → Placed b r (shell k (c - l)) n t z
    → Placed b d (shell (suc k) c) (16 + (n + (n + 0))) (s ++ t) z
unfolding shell
halves k c a f g =
    record {
      values = f.values ++ g.values;
      ran = ran_bind _ a (ran_bind _ (ran_of _ f.ran) (ran_bind _ (ran_of _ g.ran) (ran_done g.ran.core)));
      is = rw (f.is, g.is) (sym (map-append pos f.values g.values));
    }

-- ---- low bits

pub bits_end : (b : List ℕ) (d : Dec) (n j v : ℕ) → n ≤ j → run b d (low_bits (n - j) v) ≡ got v d
unfolding run low_bits
bits_end b d n j v h = let e : n - j ≡ 0 = omega arith in rw e

pub bits_next : (b : List ℕ) (d : Dec) (r : List ℕ) (n j v : ℕ) (a : Decoded) → r ≡ low_bit_row → Took b (tab 8 r) d a → j < n
    → run b a.state (low_bits (n - (j + 1)) (2 * v + a.value)) ≡ run b d (low_bits (n - j) v)
unfolding low_bits
bits_next b d r n j v a e h l = rw (add-one, less_suc n j l) (asked b d r low_bit_row _ (λ x. low_bits (n - suc j) (2 * v + x)) a e h)

pub block_lows_end : (b : List ℕ) (d : Dec) (vs : List (List ℕ)) → run b d (block_lows [] vs) ≡ got [] d
unfolding block_lows run
block_lows_end b d vs = refl

pub block_lows_next : (b : List ℕ) (d z : Dec) (k : Block) (bs : List Block) (v : List ℕ) (vs : List (List ℕ)) (x : List ℕ)
    → run b d (each 0 (low_bits k.lows) v) ≡ got x z → run b d (block_lows (k ∷ bs) (v ∷ vs)) ≡ before (x ∷ []) (run b z (block_lows bs vs))
unfolding block_lows
block_lows_next b d z k bs v vs x h = run_cons b d z (head_of []) (each 0 (low_bits k.lows) v) tail_of (block_lows bs vs) x h

-- a block with no low bits keeps its magnitudes
pub no_lows : (b : List ℕ) (d : Dec) (v : List ℕ) → run b d (each 0 (low_bits 0) v) ≡ got v d
unfolding each run low_bits
no_lows b d [] = refl
no_lows b d (x ∷ v) = each_next b d d 0 (low_bits 0) x v x refl ∙ ap (λ g. before (x ∷ []) g) (no_lows b d v)

-- ---- signs

pub sign_none : {b : List ℕ} {d : Dec} (r : List ℕ) (n : ℕ) → n ≡ 0 → Core b d → Ran b d (sign r n) 16 (pos 0) d
unfolding sign
sign_none r n e h = rw e (ran_within (omega arith) (ran_done h))

pub sign_minus : {b : List ℕ} {d : Dec} {a : Decoded} (r : List ℕ) (n : ℕ) → 1 ≤ n → Took b (tab 8 r) d a → a.value ≡ 0
    → Ran b d (sign r n) 16 (neg_ℤ (pos n)) a.state
unfolding sign
sign_minus r zero l h e = absurd (omega arith)
sign_minus {a = a} r (suc n) l h e = ran_ask {n = 0} refl h (rw (eq-eqb a.value 0 e) (ran_done h.core))

pub sign_plus : {b : List ℕ} {d : Dec} {a : Decoded} (r : List ℕ) (n : ℕ) → 1 ≤ n → Took b (tab 8 r) d a → (a.value ≡ 0 → ⊥)
    → Ran b d (sign r n) 16 (pos n) a.state
unfolding sign
sign_plus r zero l h e = absurd (omega arith)
sign_plus {a = a} r (suc n) l h e = ran_ask {n = 0} refl h (rw (ne_eqb a.value 0 e) (ran_done h.core))

pub block_signs_end : (b : List ℕ) (d : Dec) (signal offset : ℕ) (vs : List (List ℕ)) → run b d (block_signs signal offset [] vs) ≡ got [] d
unfolding block_signs run
block_signs_end b d signal offset vs = refl

pub block_signs_next : (b : List ℕ) (d z : Dec) (signal offset : ℕ) (k : Block) (bs : List Block) (v : List ℕ) (vs : List (List ℕ)) (x : List ℤ)
    → run b d (each (pos 0) (sign (sign_row_of signal offset k.count)) v) ≡ got x z
    → run b d (block_signs signal offset (k ∷ bs) (v ∷ vs)) ≡ before (x ∷ []) (run b z (block_signs signal offset bs vs))
unfolding block_signs
block_signs_next b d z signal offset k bs v vs x h =
    run_cons b d z (head_of []) (each (pos 0) (sign (sign_row_of signal offset k.count)) v) tail_of (block_signs signal offset bs vs) x h
