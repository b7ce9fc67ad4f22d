-- One question by the block's row.
use Rattle.std.proofs.Common.{◌≡◌, ◌≤◌, ◌∙◌, ap, pos, rules}
use Prim.Native.Nat.{ℕ}
use mathlib.Core.List.{List}
use lib.IntN.{ℤ, ◌-ℤ◌, neg_ℤ, nat_abs, negsuc, +ℤ_idl}
use mir.Facts.{to_z-of_z}
use mir.Syntax.{w16}
use mir.Val.{SFits}
use Rattle.entcode.specs.Models.{tab}
use Rattle.entcode.specs.Inner.Reading.{Took}
use Rattle.entcode.specs.declared.Dec.{Dec}
use Rattle.entcode.specs.declared.Decoded.{Decoded}
use Rattle.tree.specs.Inner.Ran.{Ran}
use Rattle.silk.specs.PulseSyntax.{sign}
use Rattle.symbol_reader.proofs.AlongLaws.{ran_along}
use Rattle.silk.proofs.PulseSteps.{sign_minus, sign_plus}
use Rattle.pulse_signs_read.proofs.decode_sign.Goals as goal

minus : (m : ℤ) → m ≡ pos (nat_abs m) → pos 0 -ℤ m ≡ neg_ℤ (pos (nat_abs m))
minus m e = +ℤ_idl (neg_ℤ m) ∙ ap neg_ℤ e

plus : {b : List ℕ} {d : Dec} {a : Decoded} (r : List ℕ) (m : ℤ) → m ≡ pos (nat_abs m) → 1 ≤ nat_abs m → Took b (tab 8 r) d a
    → (a.value ≡ 0 → ⊥) → Ran b d (sign r (nat_abs m)) 16 m a.state
plus r (pos n) e l h q = sign_plus r n l h q
plus r (negsuc n) e l h q = cc

pub returns-then-minus : goal.returns-then-minus
returns-then-minus c =
    let m = c.args.m in
    let f : SFits w16 c.args.m = search rules in
    let n : SFits w16 (pos 0 -ℤ c.args.m) = search rules in
    let a = c.symbol_run-minus.ensures in
    rw (to_z-of_z f, to_z-of_z n, minus m c.requires.m_value.0)
    (ran_along a.packet (sign_minus c.args.row.now (nat_abs m) c.requires.m_value.1 a.took c.if-minus.true))

pub returns-else-minus : goal.returns-else-minus
returns-else-minus c =
    let m = c.args.m in
    let f : SFits w16 c.args.m = search rules in
    let a = c.symbol_run-minus.ensures in
    rw (to_z-of_z f) (ran_along a.packet (plus c.args.row.now m c.requires.m_value.0 c.requires.m_value.1 a.took c.if-minus.false))
