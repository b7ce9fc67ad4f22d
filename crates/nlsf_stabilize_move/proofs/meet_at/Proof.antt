-- `meet_at` meets its contract. Assumes nothing.
use Prim.Native.Nat.{ℕ, ◌+◌}
use mathlib.Core.Path.{◌≡◌, ap, subst⁻¹, ◌∙◌}
use native.Mathlib.Omega.{arith}
use borrow.Author.Rules.{rules, sfits_of}
use lib.IntN.{ℤ}
use mir.Syntax.{w16, w32}
use mir.Val.{SFits}
use mir.Facts.{to_z-of_z}
use Rattle.ints.proofs.Widths.{parts_fit}
use Rattle.spectrum.specs.Values.{Mag, at}
use Rattle.nlsf_stabilize_move.proofs.MeetLaws.{odd_near}
use Rattle.nlsf_stabilize_move.specs.Inner.{odd, meeting}
use Rattle.nlsf_stabilize_move.proofs.meet_at.Statement.{statement}
use Rattle.nlsf_stabilize_move.proofs.meet_at.Tie as tie

slack_fits : (s : tie.Start) (k : ℕ) → SFits w32 (at s.args.w.now k)
slack_fits s k = let m = s.requires.0.0.1 k in parts_fit (at s.args.w.now k) (omega (arith, m.0)) (omega (arith, m.1))

-- the call's start, from behind the parity of the gap, and that parity
abbrev start : tie.After-odd_of → tie.Start
start c = c.before.before.before.before

odd_is : (c : tie.After-odd_of) → let s = start c in c.odd_of.result ≡ odd (at s.args.g.now s.args.i)
odd_is c =
    let s = start c in
    let k : SFits w16 (at s.args.g.now s.args.i) = sfits_of c.odd_of-arg-1.given in
    rw (to_z-of_z k) at c.odd_of.ensures

meet_requires : tie.Need-meet-requires
meet_requires c κs =
    let s = start c in
    let i = s.args.i in
    let m = s.requires.0.0.1 in
    let f : SFits w32 c.odd_of.result = sfits_of c.odd_of.type_inv in
    rw (to_z-of_z (slack_fits s i), to_z-of_z (slack_fits s (i + 1)), to_z-of_z s.ranges.room, to_z-of_z f) (
      (m i, m (i + 1)),
      (subst⁻¹ (Mag 1) (odd_is c) (odd_near (at s.args.g.now i) s.requires.1.1.1), s.requires.0.1),
    )

returns : tie.Need-returns
returns c =
    let b = c.before in
    let s = start b in
    let i = s.args.i in
    let f : SFits w32 b.odd_of.result = sfits_of b.odd_of.type_inv in
    let w = s.args.w.now in
    let e : c.meet.result ≡ meeting (at w i) (at w (i + 1)) b.odd_of.result s.args.room =
    rw (to_z-of_z (slack_fits s i), to_z-of_z (slack_fits s (i + 1)), to_z-of_z s.ranges.room, to_z-of_z f) at c.meet.ensures in
    to_z-of_z {w = w32} (sfits_of c.meet.type_inv) ∙ e ∙ ap (λ (d : ℤ). meeting (at w i) (at w (i + 1)) d s.args.room) (odd_is b)

pub meet_at_spec : {M : Type 1} → statement M
meet_at_spec =
    tie.close
    (tie.spec
    (λ c. search rules)
    (λ c. search rules)
    (λ c. search rules)
    (λ c. search rules)
    (λ c. search rules)
    (λ c. search rules)
    (λ c. search rules)
    (λ c κs. search rules)
    meet_requires
    returns)
