-- What inner contracts on pulses say: blocks in slices, what the loops over blocks leave, and shifts that suit. No public
-- contract says it. Assumes nothing.
use Rattle.std.specs.Prelude.{ℕ, zero, suc, ◌*◌, ◌≤◌, ◌≡◌, refl, ℤ, pos, nat_abs, length, get_or, leb, Bool, true}
use Rattle.std.proofs.Common.{sym, ap}
use mathlib.Core.List.{List, [], ◌∷◌, map, flatten}
use Rattle.sheet.specs.Rows.{pulse_rows}
use Rattle.entcode.specs.declared.Dec.{Dec}
use Rattle.tree.specs.Asks.{Asks}
use Rattle.tree.specs.Inner.Growth.{of_symbols}
use Rattle.tree.specs.Inner.Ran.{Ran}
use Rattle.silk.specs.PulseSyntax.{Block, count, each, shell, block_lows, block_signs, rows16, total, shifted}
use Rattle.lists.specs.AtMost.{AtMost}
use Rattle.lists.specs.Inner.{All}
use Rattle.silk.specs.PulseWriting.{shifted_by, first_from, blocks_by}
use Rattle.lists.specs.Every.{every}
use Rattle.entcode.specs.Flat.{Out}
use Rattle.tree.specs.Inner.Told.{Told}

-- ---- what code lends and keeps

-- the slice of the pulses' rows that a call lends down
pub record PulseRows (l : List ℕ) : Type 0 where
  pub is : l ≡ flatten pulse_rows
  pub size : length l ≡ 909

-- block i of an array of counts and an array of low bits, and n blocks from i on
abbrev pub block_at : List ℕ → List ℕ → ℕ → Block
block_at c l i = record { count = get_or c i 0; lows = get_or l i 0 }

unfoldable pub blocks_from : List ℕ → List ℕ → ℕ → ℕ → List Block
blocks_from c l i zero = []
blocks_from c l i (suc n) = block_at c l i ∷ blocks_from c l (suc i) n

-- a tree read magnitudes, which stand in the places s
pub record Placed {R : Type 0} (b : List ℕ) (d : Dec) (t : Asks R (List ℕ)) (n : ℕ) (s : List ℤ) (z : Dec) : Type 0 where
  pub values : List ℕ
  pub ran : Ran b d t n values z
  pub is : s ≡ map pos values

-- magnitudes in a slice, and what stands there as magnitudes
abbrev pub mags : List ℤ → List ℕ
mags s = map nat_abs s

pub mags_pos : (vs : List ℕ) → mags (map pos vs) ≡ vs
mags_pos [] = refl
mags_pos (v ∷ vs) = ap {B = List ℕ} (λ (l : List ℕ). v ∷ l) (mags_pos vs)

-- a slice of magnitudes: nothing in it is negative
abbrev pub Natural : List ℤ → Type 0
Natural s = s ≡ map pos (mags s)

pub natural : {s : List ℤ} (vs : List ℕ) → s ≡ map pos vs → Natural s
natural vs e = rw e (ap (map pos) (sym (mags_pos vs)))

-- a block, and a block of magnitudes before low bits
abbrev pub Sixteen : {A : Type 0} → List A → Type 0
Sixteen v = length v ≡ 16

pub record Small (v : List ℕ) : Type 0 where
  pub size : length v ≡ 16
  pub most : AtMost 16 v

module _ {Q A : Type 0} (f : A → ℤ) (P : List A → Type 0) (b : List ℕ) (d₀ : Dec) (whole : Asks Q (List (List A))) (w : ℕ) where
  -- all blocks are done
  pub record Turned (s : List ℤ) (d : Dec) (i : ℕ) : Type 0 where
    pub results : List (List A)
    pub is : s ≡ map f (flatten results)
    pub count : length results ≡ i
    pub all : All P results
    pub ran : Ran b d₀ whole (w * i) results d

-- ---- a slice of n blocks

-- n blocks of magnitudes that have P
pub record Held (P : List ℕ → Type 0) (n : ℕ) (s : List ℤ) : Type 0 where
  pub natural : Natural s
  pub size : length s ≡ n * 16
  pub all : All P (rows16 n (mags s))

-- ---- what the three loops over blocks leave

-- splits, low bits, signs
abbrev pub Split : List ℕ → Dec → List ℕ → List ℕ → ℕ → List ℤ → Dec → Type 0
Split b d c l n s z = Turned pos Small b d (each [] (λ (k : Block). shell 4 k.count) (blocks_from c l 0 n)) (of_symbols 15) s z n

abbrev pub Lowered : List ℕ → Dec → List ℕ → List ℕ → List (List ℕ) → ℕ → List ℤ → Dec → Type 0
Lowered b d c l ms n s z = Turned pos Sixteen b d (block_lows (blocks_from c l 0 n) ms) (of_symbols 160) s z n

abbrev pub Signed : List ℕ → Dec → ℕ → ℕ → List ℕ → List ℕ → List (List ℕ) → ℕ → List ℤ → Dec → Type 0
Signed b d signal offset c l vs n s z =
    Turned (λ (x : ℤ). x) Sixteen b d (block_signs signal offset (blocks_from c l 0 n) vs) (of_symbols 16) s z n

-- ---- splits

abbrev pub shell_of : Block → Asks (List ℕ) (List ℕ)
shell_of k = shell 4 k.count

-- ---- a frame

-- a block that a shift suits
pub record Suits (j : ℕ) (p : List ℤ) : Type 0 where
  pub size : length p ≡ 16
  pub few : j ≤ 10
  pub most : total (shifted_by j p) ≤ 16

-- a shift for each block
abbrev pub AllSuit : List ℕ → List (List ℤ) → Type 0
AllSuit [] [] = Unit {0}
AllSuit [] (p ∷ ps) = ⊥
AllSuit (j ∷ js) [] = ⊥
AllSuit (j ∷ js) (p ∷ ps) = Suits j p × AllSuit js ps

abbrev pub whole : List (List ℤ) → List (List ℕ)
whole ps = map (map nat_abs) ps

-- ---- the smallest shift

-- the first of 0 to 10 at which the shifted magnitudes total at most 16, and 11 where there is none
abbrev pub least_shift : List ℤ → ℕ
least_shift p = first_from (λ j. leb (total (shifted_by j p)) 16) 11 0

-- a block's smallest shift, and its count there
pub record Shift (p : List ℤ) (count shift : ℕ) : Type 0 where
  pub is : shift ≡ least_shift p
  pub counted : shift ≤ 10 → count ≡ total (shifted_by shift p)
  pub most : count ≤ 16
  pub upto : shift ≤ 11

-- the blocks ps, with the shifts js, which suit them
pub record Suited (js : List ℕ) (ps : List (List ℤ)) (counts lows : List ℕ) : Type 0 where
  pub suits : AllSuit js ps
  pub blocks : blocks_from counts lows 0 (length ps) ≡ blocks_by js ps
  pub most : AtMost 16 counts
  pub few : AtMost 10 lows

-- whether each block has a shift, and if so the smallest
pub record Planned (ps : List (List ℤ)) (counts lows : List ℕ) (fits : Bool) : Type 0 where
  pub is : fits ≡ every (λ p. leb (least_shift p) 10) ps
  pub suited : fits ≡ true → Suited (map least_shift ps) ps counts lows

-- ---- splits, low bits, signs

-- i blocks of n, whose counts c, shifts l and pulses v are at hand, from the writer o on
module _ (o : Out) (c l : List ℕ) (v : List ℤ) (n : ℕ) where
  -- all of them
  abbrev pub SplitsTold : Out → Type 0
  SplitsTold q =
      Told o (shifted (blocks_from c l 0 n) (whole (rows16 n v))) (each [] shell_of (blocks_from c l 0 n)) (of_symbols 15 * n) q

  abbrev pub LowsTold : Out → Type 0
  LowsTold q =
      Told o (whole (rows16 n v))
      (block_lows (blocks_from c l 0 n) (shifted (blocks_from c l 0 n) (whole (rows16 n v)))) (of_symbols 160 * n) q

  abbrev pub SignsTold : ℕ → ℕ → Out → Type 0
  SignsTold signal offset q =
      Told o (rows16 n v) (block_signs signal offset (blocks_from c l 0 n) (whole (rows16 n v))) (of_symbols 16 * n) q
