-- Up to the next place that has a pulse nothing is asked, and there its sign.
use Rattle.std.proofs.Common.{◌≡◌, ◌+◌, ◌<◌, ◌≤◌, ◌∙◌, ℕ, length, get_or, pos, rules, arith, add-one}
use mathlib.Core.List.{List}
use lib.IntN.{ℤ, nat_abs}
use lib.ListN.{set, length-map}
use mir.Facts.{to_z-of_z}
use mir.Syntax.{w16}
use mir.Val.{SFits}
use Rattle.entcode.specs.declared.Dec.{Dec}
use Rattle.tree.specs.Inner.Ran.{Ran}
use Rattle.silk.specs.PulseSyntax.{sign}
use Rattle.silk.specs.Inner.Pulses.{mags}
use Rattle.silk.proofs.PulsePlaces.{going_next}
use Rattle.symbol_reader.proofs.AlongLaws.{along_ran, ran_along}
use Rattle.pulse_signs_read.specs.Inner.{mag, behind, Gathered}
use Rattle.pulse_signs_read.proofs.Signing.{Signing, signing_mag, signing_natural, signing_bare, signing_ended}
use Rattle.pulse_signs_read.proofs.all_signs.Goals as goal

module _ (packet row : List ℕ) (s₀ : List ℤ) (at : List ℕ) (n : ℕ) (d₀ : Dec) (s : List ℤ) (d : Dec) (t : ℕ)
    (r : Gathered s₀ at n 16) (g : Signing packet row s₀ d₀ s d (behind at t)) (l : t < n) (z : length s₀ ≡ 16) where
  reached : Signing packet row s₀ d₀ s d (get_or at t 0)
  reached =
      let p = r.next t l in
      signing_bare packet row s₀ d₀ s d (behind at t) (get_or at t 0) p.from (omega (arith, r.below t l)) p.bare g

  asked : (get_or s (get_or at t 0) (pos 0) ≡ pos (mag s (get_or at t 0))) × (1 ≤ mag s (get_or at t 0))
  asked =
      let h : get_or at t 0 < length s₀ = omega (arith, r.below t l) in
      let p = (r.next t l).some in (
        signing_natural packet row s₀ d₀ s d (get_or at t 0) reached h,
        omega (arith, p, signing_mag packet row s₀ d₀ s d (get_or at t 0) reached h),
      )

  answered : (x : ℤ) (e : Dec) → Ran packet d (sign row (mag s (get_or at t 0))) 16 x e
      → Signing packet row s₀ d₀ (set s (get_or at t 0) x) e (behind at (t + 1))
  answered x e q =
      let m : get_or at t 0 < length (mags s₀) = omega (arith, r.below t l, length-map s₀ nat_abs) in
      rw (add-one t) (rw add-one at (going_next _ _ _ _ _ _ _ s d (get_or at t 0) reached m x e 16 (omega arith) q))

pub decode_sign-requires-clause-m_value : goal.decode_sign-requires-clause-m_value
decode_sign-requires-clause-m_value c =
    let l = c.loop-k in
    let i = l.invariant in
    let f : SFits w16 (get_or c.loop-k.places c.from-k.result (pos 0)) = search rules in
    let h : c.loop-k.k-index < c.pulse_places-n.result = omega arith in
    rw (to_z-of_z f, c.from-k.ensures)
    (asked _ _ c.args.places.now _ c.pulse_places-n.result c.args.r.now.state l.places l.r.state l.k-index i.gathered i.going h c.requires.natural.1)

pub loop-k-preserved : goal.loop-k-preserved
loop-k-preserved c =
    let l = c.loop-k in
    let i = l.invariant in
    let f : SFits w16 (get_or c.loop-k.places c.from-k.result (pos 0)) = search rules in
    let p : SFits w16 c.decode_sign.result = search rules in
    let h : c.loop-k.k-index < c.pulse_places-n.result = omega arith in
    let a = c.decode_sign in
    let ran = along_ran a.ensures in
    let q = rw (i.packet, to_z-of_z f, c.from-k.ensures) at ran in
    record {
      gathered = i.gathered;
      going =
          rw (to_z-of_z p, c.from-k.ensures)
          (answered _ _ c.args.places.now _ c.pulse_places-n.result c.args.r.now.state l.places l.r.state l.k-index i.gathered i.going h
          c.requires.natural.1 a.result a.new.r.state q);
      packet = a.ensures.packet ∙ i.packet;
      size = search rules;
      count = i.count;
    }

pub returns : goal.returns
returns c =
    let l = c.loop-k in
    let i = l.invariant in
    let r = i.gathered in
    let s = c.args.places.now in
    let n = c.requires.natural.1 in
    let e : c.loop-k.k-index ≡ c.pulse_places-n.result = omega arith in
    let g = rw e at i.going in
    ran_along i.packet
    (signing_ended _ _ s _ l.places l.r.state (signing_bare _ _ s _ l.places l.r.state _ 16 r.to (omega (arith, n)) r.rest g) n)
