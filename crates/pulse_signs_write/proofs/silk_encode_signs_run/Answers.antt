-- Each symbol that was gathered is told.
use Rattle.std.proofs.Common.{◌≡◌, ◌≤◌, ◌∙◌, ℕ, List, length, get_or, take, sym, ap, arith}
use Prim.Native.Nat.{zero, suc}
use lib.IntN.{ℤ}
use lib.Seq.{length-take-le}
use Rattle.icdf.specs.Rule.{Writable}
use Rattle.tree.proofs.Told.{told_within}
use Rattle.pulse_signs_write.specs.Inner.{signs_said}
use Rattle.pulse_signs_write.proofs.SaidLaws.{signs_bits, signs_start, sign_more, signs_end}
use Rattle.pulse_signs_write.proofs.silk_encode_signs_run.Goals as goal

bit_writable : {r : List ℕ} (v : ℕ) → v ≤ 1 → Writable 8 r 0 × Writable 8 r 1 → Writable 8 r v
bit_writable zero l h = h.0
bit_writable (suc zero) l h = h.1
bit_writable (suc (suc v)) l h = absurd (omega arith)

-- the symbols at hand are those of the pulses
symbol : (zs : List ℤ) (n k x : ℕ) (s : List ℕ) → take n s ≡ signs_said zs → x ≡ get_or (take n s) k 0 → x ≡ get_or (signs_said zs) k 0
symbol zs n k x s e h = h ∙ ap (λ (l : List ℕ). get_or l k 0) e

counted : (zs : List ℤ) (n : ℕ) (s : List ℕ) → take n s ≡ signs_said zs → n ≤ length s → length (signs_said zs) ≡ n
counted zs n s e h = ap length (sym e) ∙ length-take-le n s h

pub loop-symbol-init : goal.loop-symbol-init
loop-symbol-init c = record { told = signs_start _ _ _ c.requires.core; are = c.signs_said-count.ensures.1 }

pub ec_enc_icdf_run-w-requires-clause-icdf : goal.ec_enc_icdf_run-w-requires-clause-icdf
ec_enc_icdf_run-w-requires-clause-icdf c =
    let l = c.loop-symbol in
    let zs = c.args.pulses.now in
    let e = symbol zs _ l.symbol-index _ _ l.invariant.are c.from.ensures in
    (c.requires.icdf, bit_writable c.from.result (omega (arith, e, signs_bits zs l.symbol-index)) c.requires.writable)

pub loop-symbol-preserved : goal.loop-symbol-preserved
loop-symbol-preserved c =
    let l = c.loop-symbol in
    let are = l.invariant.are in
    record {
      told =
          sign_more _ _ _ l.symbol-index l.invariant.told (omega (arith, ap length are))
          (symbol c.args.pulses.now _ l.symbol-index _ _ are c.from.ensures)
          c.ec_enc_icdf_run-w.ensures;
      are = are;
    }

pub returns : goal.returns
returns c =
    let l = c.loop-symbol in
    let are = l.invariant.are in
    let s = c.signs_said-count in
    let n = counted c.args.pulses.now s.result s.new.symbols are (omega (arith, s.ensures.0, s.auto.symbols)) in
    told_within (omega (arith, s.ensures.0, n, ap length are))
    (signs_end _ _ _ l.symbol-index l.invariant.told (omega (arith, ap length are)))
