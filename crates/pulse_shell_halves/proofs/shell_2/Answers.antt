-- A split gives both places.
use Rattle.std.proofs.Common.{◌≡◌, ◌-◌, ◌∷◌, [], List, length, refl, arith}
use lib.IntN.{ℤ}
use lib.ListN.{set}
use mir.Facts.{to_z_pos}
use mir.Syntax.{w16}
use Rattle.symbol_reader.proofs.AlongLaws.{along_ran}
use Rattle.silk.proofs.PulseSteps.{one_place, halves}
use Rattle.pulse_shell_halves.proofs.shell_2.Goals as goal

both_set : (s : List ℤ) (x y : ℤ) → length s ≡ 2 → set (set s 0 x) 1 y ≡ x ∷ (y ∷ [])
both_set [] x y e = absurd (omega arith)
both_set (a ∷ []) x y e = absurd (omega arith)
both_set (a ∷ (b ∷ [])) x y e = refl
both_set (a ∷ (b ∷ (c ∷ s))) x y e = absurd (omega arith)

pub returns-clause-placed : goal.returns-clause-placed
returns-clause-placed c =
    let p = c.args.p in
    let l = c.decode_split_run-left.result in
    let a = along_ran c.decode_split_run-left.ensures.along in
    rw (
      both_set c.args.places.now _ _ c.requires.p_bound.1,
      to_z_pos w16 {n = c.decode_split_run-left.result} (omega arith),
      to_z_pos w16 {n = c.args.p - c.decode_split_run-left.result} (omega arith),
    )
    (halves 0 p a (one_place l a.core) (one_place (p - l) a.core))
