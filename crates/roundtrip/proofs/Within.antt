-- A packet lies within an interval: the number of its first bits does. If it lies within the interval after a step of the writer, it lay within the one
-- before: no powers of 256 are needed, one goes back step by step. Part 7 of the argument. Assumes nothing.
use Prim.Native.Nat.{ℕ, suc, ◌+◌, ◌-◌, ◌*◌, ◌/◌, ◌%◌, ◌^◌, ◌≤◌, ◌<◌}
use mathlib.Core.Path.{◌≡◌}
use mathlib.Core.Bool.{Bool, true, false, cond}
use mathlib.Core.List.{List, [], ◌∷◌}
use native.Mathlib.Omega.{arith}
use lib.Dec.{leb}
use lib.ListN.{get_or}
use Rattle.entcode.specs.Models.{Sym}
use Rattle.entcode.specs.Cuts.{upper, lower}
use Rattle.entcode.proofs.CutLaws.{Proper, cut_ok}
use Rattle.entcode.specs.Inner.Reading.{CutOk}
use Rattle.entcode.proofs.ModelLaws.{proper}
use Rattle.entcode.specs.Reader.{Bytes}
use Rattle.roundtrip.specs.Statement.{AllAllowed}
use Rattle.roundtrip.proofs.Digits.{prefix, code, code_step}
use Rattle.roundtrip.proofs.Interval.{Interval, shift_i, norm_i, cut_i, code_i, sym_i, run_i, sym_size}

-- the packet's first j + 1 bytes, but for their last bit, are a number from L on, one of R
pub record In (b : List ℕ) (j L R : ℕ) : Type 0 where
  pub low : L ≤ code b (suc j)
  pub high : code b (suc j) < L + R

-- an interval's digits are followed by 31 bits: three bytes and seven bits
abbrev pub Within : List ℕ → Interval → Type 0
Within b a = In b (suc (suc (suc a.digits))) a.low a.size

-- ---- single steps backwards

pub in_part : (b : List ℕ) (j L M R p : ℕ) → L ≤ M → M + p ≤ L + R → In b j M p → In b j L R
in_part b j L M R p x y i = record { low = omega (arith, i.low); high = omega (arith, i.high) }

pub in_shift : (b : List ℕ) → Bytes b → (j L R : ℕ) → In b (suc j) (256 * L) (256 * R) → In b j L R
in_shift b bytes j L R i =
    let s : ℕ = (256 * get_or b j 0 + get_or b (suc j) 0) / 2 % 256 in
    let e : code b (suc (suc j)) ≡ 256 * code b (suc j) + s = code_step b j (bytes (suc j)) in
    let l : s < 256 = omega arith in
    record { low = low (code b (suc j)) (code b (suc (suc j))) s e l i.low; high = high (code b (suc j)) (code b (suc (suc j))) s e i.high }
  where
    low : (c d s : ℕ) → d ≡ 256 * c + s → s < 256 → 256 * L ≤ d → L ≤ c
    low c d s e l h = omega arith

    high : (c d s : ℕ) → d ≡ 256 * c + s → d < 256 * L + 256 * R → c < L + R
    high c d s e h = omega arith

-- four more bytes, whatever they are, keep what the first m decide
pub in_four : (b : List ℕ) → Bytes b → (m E p : ℕ) → E ≤ prefix b m → prefix b m < E + p
    → In b (suc (suc (suc m))) (E * 2 ^ 31) (p * 2 ^ 31)
in_four b bytes m E p x y =
    let b0 : get_or b m 0 < 256 = bytes m in
    let b1 : get_or b (suc m) 0 < 256 = bytes (suc m) in
    let b2 : get_or b (suc (suc m)) 0 < 256 = bytes (suc (suc m)) in
    let b3 : get_or b (suc (suc (suc m))) 0 < 256 = bytes (suc (suc (suc m))) in
    record { low = omega arith; high = omega arith }

-- ---- back through a symbol, and through a list of them

module _ (b : List ℕ) (bytes : Bytes b) where
  pub norm_back : (t : Bool) (a : Interval) → Within b (cond t (shift_i a) a) → Within b a
  norm_back true a i = in_shift b bytes (suc (suc (suc a.digits))) a.low a.size i
  norm_back false a i = i

  -- back to the cut of a symbol
  pub code_cut : (a : Interval) (fl fh ft : ℕ) → Within b (code_i a fl fh ft) → Within b (cut_i a (upper a.size fl ft) (lower a.size fh ft))
  code_cut a fl fh ft i =
      let c = cut_i a (upper a.size fl ft) (lower a.size fh ft) in
      norm_back (leb c.size (2 ^ 23)) c (norm_back (leb (norm_i c).size (2 ^ 23)) (norm_i c) i)

  -- and over it
  code_back : (a : Interval) (fl fh ft : ℕ) → 2 ^ 23 < a.size → Proper fl fh ft → Within b (code_i a fl fh ft) → Within b a
  code_back a fl fh ft h p i =
      let c : CutOk a.size (upper a.size fl ft) (lower a.size fh ft) = cut_ok a.size fl fh ft h p in
      in_part b _ a.low _ a.size _ (omega arith) (omega (arith, c.some, c.inside)) (code_cut a fl fh ft i)

  pub run_back : (ss : List Sym) (a : Interval) → AllAllowed ss → 2 ^ 23 < a.size → Within b (run_i a ss) → Within b a
  run_back [] a ok h i = i
  run_back (s ∷ ss) a ok h i =
      code_back a _ _ _ h (proper s.model s.value ok.0) (run_back ss (sym_i a s) ok.1 (sym_size a s ok.0 h) i)
