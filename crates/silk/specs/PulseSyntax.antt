-- The syntax of a frame's excitation (RFC 6716, section 4.2.7.8), as a tree of questions. Blocks of 16 places; all
-- counts stand before all splits, these before all low bits, these before all signs. Assumes nothing.
use Rattle.std.specs.Prelude.{ℕ, zero, suc, ◌+◌, ◌-◌, ◌*◌, ◌/◌, ◌%◌, ◌^◌, min, cond, List, [], ◌∷◌, ◌++◌, map, eqb, ltb, ℤ, pos, negsuc, nat_abs, take, drop}
use Rattle.std.specs.Int.Signed.{lt_z}
use Rattle.sheet.specs.Directory.{rate_row, count_row, last_count_row, shell_row, low_bit_row, sign_row}
use Rattle.entcode.specs.Models.{Model, tab}
use Rattle.tree.specs.Asks.{Asks, done, ask, then, of}

abbrev pub row : List ℕ → Model
row r = tab 8 r

-- a block's count before low bits, and the number of its low bits (its shift)
pub record Block : Type 0 where
  pub count : ℕ
  pub lows : ℕ

-- what a frame's pulses are coded as
pub record Excitation : Type 0 where
  pub rate : ℕ
  pub blocks : List Block
  pub pulses : List (List ℤ)

-- the tree f for each part of a list, one after the other; what the writer has in hand is a list too
abbrev pub head_of : {Q : Type 0} → Q → List Q → Q
head_of e [] = e
head_of e (x ∷ xs) = x

abbrev pub tail_of : {Q : Type 0} → List Q → List Q
tail_of [] = []
tail_of (x ∷ xs) = xs

unfoldable pub each : {P Q A : Type 0} → Q → (P → Asks Q A) → List P → Asks (List Q) (List A)
each e f [] = done []
each e f (p ∷ ps) = then (of (head_of e) (f p)) (λ a. then (of tail_of (each e f ps)) (λ l. done (a ∷ l)))

-- ---- counts (section 4.2.7.8.2)

-- the row of a count that follows j low bits, 1 to 10; after ten, one in which 17 cannot recur
abbrev pub later_row : ℕ → List ℕ
later_row j = cond (eqb j 10) last_count_row (count_row 9)

-- what the writer of a block says after j low bits: 17 for one more, else the count
abbrev pub count_said : ℕ → Block → ℕ
count_said j b = cond (ltb j b.lows) 17 b.count

-- from a count v after j low bits, with at most n more: 17 is no count but one more low bit and a fresh count
unfoldable pub low_counts : ℕ → ℕ → ℕ → Asks Block Block
low_counts zero j v = done (record { count = v; lows = j })
low_counts (suc n) j v =
    cond (eqb v 17) (ask (row (later_row (suc j))) (count_said (suc j)) (λ w. low_counts n (suc j) w)) (done (record { count = v; lows = j }))

-- a block's count at a rate level
unfoldable pub count : ℕ → Asks Block Block
count level = ask (row (count_row level)) (count_said 0) (λ v. low_counts 10 0 v)

-- n more counts
unfoldable pub counts : ℕ → ℕ → Asks (List Block) (List Block)
counts level zero = done []
counts level (suc n) =
    then (of (head_of (record { count = 0; lows = 0 })) (count level)) (λ b. then (of tail_of (counts level n)) (λ l. done (b ∷ l)))

-- ---- splits (section 4.2.7.8.3): 16 to 8 to 4 to 2 to 1, left half first, depth first; a count of 0 codes nothing

unfoldable pub total : List ℕ → ℕ
total [] = 0
total (x ∷ xs) = x + total xs

-- how many of c pulses in 2^(k + 1) places lie in the left half
unfoldable pub split : ℕ → ℕ → Asks (List ℕ) ℕ
split k zero = done 0
split k (suc c) = ask (row (shell_row k (suc c))) (λ y. total (take (2 ^ k) y)) (λ v. done v)

-- the c pulses of 2^k places
unfoldable pub shell : ℕ → ℕ → Asks (List ℕ) (List ℕ)
shell zero c = done (c ∷ [])
shell (suc k) c =
    then (split k c) (λ l.
    then (of (take (2 ^ k)) (shell k l)) (λ a.
    then (of (drop (2 ^ k)) (shell k (c - l))) (λ b.
    done (a ++ b))))

-- ---- low bits (section 4.2.7.8.4): for each place all of them, highest first

-- n more low bits behind the magnitude v
unfoldable pub low_bits : ℕ → ℕ → Asks ℕ ℕ
low_bits zero v = done v
low_bits (suc n) v = ask (row low_bit_row) (λ y. y / 2 ^ n % 2) (λ b. low_bits n (2 * v + b))

unfoldable pub block_lows : List Block → List (List ℕ) → Asks (List (List ℕ)) (List (List ℕ))
block_lows [] vs = done []
block_lows (b ∷ bs) [] = done []
block_lows (b ∷ bs) (v ∷ vs) =
    then (of (head_of []) (each 0 (low_bits b.lows) v)) (λ a. then (of tail_of (block_lows bs vs)) (λ l. done (a ∷ l)))

-- ---- signs (section 4.2.7.8.5): one for each place that is not 0; symbol 0 is minus

-- the row by signal type, offset type and the lesser of 6 and the count before low bits
abbrev pub sign_row_of : ℕ → ℕ → ℕ → List ℕ
sign_row_of signal offset count = sign_row (7 * (offset + 2 * signal) + min count 6)

unfoldable pub sign : List ℕ → ℕ → Asks ℤ ℤ
sign r zero = done (pos 0)
sign r (suc m) = ask (row r) (λ z. cond (lt_z z (pos 0)) 0 1) (λ v. done (cond (eqb v 0) (negsuc m) (pos (suc m))))

unfoldable pub block_signs : ℕ → ℕ → List Block → List (List ℕ) → Asks (List (List ℤ)) (List (List ℤ))
block_signs signal offset [] vs = done []
block_signs signal offset (b ∷ bs) [] = done []
block_signs signal offset (b ∷ bs) (v ∷ vs) =
    then (of (head_of []) (each (pos 0) (sign (sign_row_of signal offset b.count)) v))
    (λ a. then (of tail_of (block_signs signal offset bs vs)) (λ l. done (a ∷ l)))

-- ---- all of it, in order

-- what the writer of a frame has in hand at each part: magnitudes before low bits, whole magnitudes, pulses
abbrev pub magnitudes : Excitation → List (List ℕ)
magnitudes y = map (map nat_abs) y.pulses

unfoldable pub shifted : List Block → List (List ℕ) → List (List ℕ)
shifted [] vs = []
shifted (b ∷ bs) [] = []
shifted (b ∷ bs) (v ∷ vs) = map (λ m. m / 2 ^ b.lows) v ∷ shifted bs vs

unfoldable pub excitation : ℕ → ℕ → ℕ → Asks Excitation Excitation
excitation signal offset n =
    ask (row (rate_row signal)) (λ y. y.rate) (λ r.
    then (of (λ y. y.blocks) (counts r n)) (λ bs.
    then (of (λ y. shifted y.blocks (magnitudes y)) (each [] (λ b. shell 4 b.count) bs)) (λ ms.
    then (of magnitudes (block_lows bs ms)) (λ vs.
    then (of (λ y. y.pulses) (block_signs signal offset bs vs)) (λ ps.
    done (record { rate = r; blocks = bs; pulses = ps }))))))

-- ---- a slice of n blocks

unfoldable pub rows16 : {A : Type 0} → ℕ → List A → List (List A)
rows16 zero v = []
rows16 (suc n) v = take 16 v ∷ rows16 n (drop 16 v)
