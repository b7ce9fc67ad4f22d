-- The place at hand has its magnitude before low bits still.
use Rattle.std.proofs.Common.{◌≡◌, ◌≤◌, ◌<◌, ◌∙◌, ℕ, length, get_or, pos, rules, arith, length-set}
use mathlib.Core.List.{List}
use lib.Dec.{T}
use lib.IntN.{ℤ, negsuc, nat_abs}
use lib.ListN.{length-map}
use lib.Signed.{non_neg}
use mir.Facts.{to_z-of_z, to_z_pos}
use mir.Syntax.{w16, w32}
use mir.Val.{Fits, SFits}
use Rattle.entcode.specs.declared.Dec.{Dec}
use Rattle.lists.specs.AtMost.{AtMost}
use Rattle.silk.specs.PulseSyntax.{each, low_bits}
use Rattle.silk.specs.Inner.Pulses.{Placed, mags}
use Rattle.symbol_reader.proofs.AlongLaws.{along_ran}
use Rattle.silk.proofs.PulsePlaces.{Going, going_natural, going_value, going_next, Ended, going_ended}
use Rattle.pulse_lows_read.proofs.all_lows.Goals as goal

finish : (packet : List ℕ) (n : ℕ) (s₀ : List ℤ) (d₀ : Dec) (s : List ℤ) (d : Dec) → Ended pos 0 (low_bits n) 160 packet d₀ (mags s₀) s d
    → length (mags s₀) ≡ 16 → Placed packet d₀ (each 0 (low_bits n) (mags s₀)) 2560 s d
finish packet n s₀ d₀ s d e h = record { values = e.results; ran = rw h at e.ran; is = e.is }

counted : (s₀ : List ℤ) → length s₀ ≡ 16 → length (mags s₀) ≡ 16
counted s₀ h = length-map s₀ nat_abs ∙ h

natural_fits : (z : ℤ) → z ≡ pos (nat_abs z) → nat_abs z ≤ 16 → T (non_neg z) × Fits w32 (nat_abs z)
natural_fits (pos n) e h = (tt, omega arith)
natural_fits (negsuc n) e h = cc

module _ (packet : List ℕ) (n : ℕ) (s₀ : List ℤ) (d₀ : Dec) (s : List ℤ) (d : Dec) (k : ℕ)
    (g : Going pos 0 (low_bits n) 160 packet d₀ (mags s₀) s d k) (l : k < 16) (h : length s₀ ≡ 16) where
  small : AtMost 16 (mags s₀) → nat_abs (get_or s k (pos 0)) ≤ 16
  small a = rw (going_value _ _ _ _ _ _ (mags s₀) s d k g (omega (arith, counted s₀ h))) (a k)

  natural : get_or s k (pos 0) ≡ pos (nat_abs (get_or s k (pos 0)))
  natural = going_natural _ _ _ _ _ _ (mags s₀) s d k g (omega (arith, counted s₀ h))

pub overflow_cast-places : goal.overflow_cast-places
overflow_cast-places c =
    let l = c.loop-k in
    let t = c.loop-k-test.true in
    let f : SFits w16 (get_or c.loop-k.places c.loop-k.k (pos 0)) = search rules in
    let r = c.requires.natural in
    let s = c.args.places.now in
    rw (to_z-of_z f)
    (natural_fits (get_or l.places l.k (pos 0)) (natural _ _ s _ l.places l.r.state l.k l.invariant.going t r.1)
    (small _ _ s _ l.places l.r.state l.k l.invariant.going t r.1 r.2))

pub low_bits-requires-clause-m_bound : goal.low_bits-requires-clause-m_bound
low_bits-requires-clause-m_bound c =
    let l = c.loop-k in
    let f : SFits w16 (get_or c.loop-k.places c.loop-k.k (pos 0)) = search rules in
    let r = c.requires.natural in (
      rw (to_z-of_z f) (small _ _ c.args.places.now _ l.places l.r.state l.k l.invariant.going c.loop-k-test.true r.1 r.2),
      c.requires.row_value.1,
    )

pub loop-k-preserved : goal.loop-k-preserved
loop-k-preserved c =
    let l = c.loop-k in
    let a = c.low_bits in
    let f : SFits w16 (get_or c.loop-k.places c.loop-k.k (pos 0)) = search rules in
    let h = counted c.args.places.now c.requires.natural.1 in
    let q = along_ran a.ensures.along in
    let ran = rw (l.invariant.packet, to_z-of_z f) at q in
    rw (to_z_pos w16 {n = a.result} (omega (arith, a.ensures.value_bound)))
    (record {
      going = going_next _ _ _ _ _ _ _ l.places l.r.state l.k l.invariant.going (omega arith) a.result a.new.r.state 160 (omega arith) ran;
      packet = a.ensures.along.packet ∙ l.invariant.packet;
      size = length-set l.places l.k (pos a.result) ∙ l.invariant.size;
    })

pub returns-clause-placed : goal.returns-clause-placed
returns-clause-placed c =
    let l = c.loop-k in
    let h = counted c.args.places.now c.requires.natural.1 in
    finish _ _ c.args.places.now _ _ _ (going_ended _ _ _ _ _ _ _ l.places l.r.state l.k l.invariant.going (omega arith)) h
