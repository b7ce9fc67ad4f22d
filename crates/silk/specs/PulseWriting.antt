-- What the pulse writer writes (document 01): pulses, a rate level and each block's shift make an excitation, whose
-- symbols along the syntax are written; the shift of a block is the smallest that its symbols allow. Assumes nothing.
use Rattle.std.specs.Prelude.{ℕ, zero, suc, ◌*◌, ◌/◌, ◌^◌, Bool, ◌&&◌, cond, List, [], ◌∷◌, ◌++◌, map, eqb, leb, ℤ, pos, nat_abs, length}
use Rattle.lists.specs.Every.{every}
use Rattle.refusals.specs.First.{first_of}
use Rattle.sheet.specs.Directory.{rate_row}
use Rattle.entcode.specs.Models.{Sym}
use Rattle.entcode.specs.Flat.{Out}
use Rattle.entcode.specs.Sound.{gate_w}
use Rattle.entcode.specs.Rules.{say_rule}
use Rattle.entcode.specs.Writing.{Sent, answered}
use Rattle.tree.specs.Asks.{symbols}
use Rattle.tree.specs.Telling.{written_all, all_said}
use Rattle.silk.specs.PulseSyntax.{row, Block, Excitation, each, count, total, shell, low_bits, sign_row_of, sign, excitation, rows16}
use Rattle.silk.specs.FrameCalls.{pulse_numbers_ok, blocks_of}

-- ---- a block with j low bits

abbrev pub shifted_by : ℕ → List ℤ → List ℕ
shifted_by j p = map (λ m. m / 2 ^ j) (map nat_abs p)

-- its count before low bits
abbrev pub block_by : ℕ → List ℤ → Block
block_by j p = record { count = total (shifted_by j p); lows = j }

-- its symbols, in each of the four parts
unfoldable pub block_says : ℕ → ℕ → ℕ → ℕ → List ℤ → List Sym
block_says level signal offset j p =
    symbols (block_by j p) (count level)
    ++ (symbols (shifted_by j p) (shell 4 (total (shifted_by j p)))
    ++ (symbols (map nat_abs p) (each 0 (low_bits j) (shifted_by j p))
    ++ symbols p (each (pos 0) (sign (sign_row_of signal offset (total (shifted_by j p)))) (map nat_abs p))))

-- the shifted magnitudes total at most 16, and every symbol has a probability
unfoldable pub shift_ok : ℕ → ℕ → ℕ → List ℤ → ℕ → Bool
shift_ok level signal offset p j = leb (total (shifted_by j p)) 16 && all_said (block_says level signal offset j p)

-- the first of n numbers from j on that passes a test, or the one behind them
unfoldable pub first_from : (ℕ → Bool) → ℕ → ℕ → ℕ
first_from ok zero j = j
first_from ok (suc n) j = cond (ok j) j (first_from ok n (suc j))

-- a block's smallest shift from 0 to 10, and 11 where there is none
abbrev pub smallest : ℕ → ℕ → ℕ → List ℤ → ℕ
smallest level signal offset p = first_from (shift_ok level signal offset p) 11 0

-- ---- a frame

-- the excitation of pulses in blocks, at a rate level and with a shift for each block
unfoldable pub blocks_by : List ℕ → List (List ℤ) → List Block
blocks_by [] ps = []
blocks_by (j ∷ js) [] = []
blocks_by (j ∷ js) (p ∷ ps) = block_by j p ∷ blocks_by js ps

abbrev pub excited : ℕ → List ℕ → List (List ℤ) → Excitation
excited rate shifts ps = record { rate = rate; blocks = blocks_by shifts ps; pulses = ps }

-- what is written
abbrev pub pulses_say : ℕ → ℕ → ℕ → ℕ → List ℕ → List (List ℤ) → List Sym
pulses_say signal offset n rate shifts ps = symbols (excited rate shifts ps) (excitation signal offset n)

-- each block's smallest shift
abbrev pub shifts_of : ℕ → ℕ → ℕ → List (List ℤ) → List ℕ
shifts_of rate signal offset ps = map (smallest rate signal offset) ps

-- 8 exactly if some block has no shift or the rate level no probability
unfoldable pub write_rule : ℕ → ℕ → ℕ → List (List ℤ) → ℕ
write_rule signal offset rate ps =
    cond (eqb (say_rule (row (rate_row signal)) rate) 0 && every (λ p. leb (smallest rate signal offset p) 10) ps) 0 8

-- ---- the call

-- 4 for a number, the rate level among them, then 6 for a slice that is not exactly 16 x blocks long
unfoldable pub write_numbers : ℕ → ℕ → ℕ → ℕ → ℕ → ℕ → ℕ
write_numbers n khz subframes signal offset rate =
    cond (pulse_numbers_ok khz subframes signal offset && leb rate 8) (cond (eqb n (16 * blocks_of khz subframes)) 0 6) 4

abbrev pub pulse_blocks : List ℤ → ℕ → ℕ → List (List ℤ)
pulse_blocks p khz subframes = rows16 (blocks_of khz subframes) p

abbrev pub encode_rule : Out → List ℤ → ℕ → ℕ → ℕ → ℕ → ℕ → ℕ
encode_rule o p khz subframes signal offset rate =
    first_of (gate_w o.buf o.state)
    (first_of (write_numbers (length p) khz subframes signal offset rate)
    (write_rule signal offset rate (pulse_blocks p khz subframes)))

unfoldable pub encode_pulses : Out → List ℤ → ℕ → ℕ → ℕ → ℕ → ℕ → Sent
encode_pulses o p khz subframes signal offset rate =
    answered (encode_rule o p khz subframes signal offset rate) o 0
    (written_all o
    (pulses_say signal offset (blocks_of khz subframes) rate
    (shifts_of rate signal offset (pulse_blocks p khz subframes)) (pulse_blocks p khz subframes)))
