-- `index_fields::voicing_ok` meets its contract: a voiced frame has a pitch. Assumes nothing.
use Rattle.std.proofs.Common.{◌≡◌, refl, sym, ap, ◌∙◌, pos, to_z, of_z, w8, arith}
use borrow.Author.Rules.{rules}
use mir.Val.{SFits}
use mir.Facts.{to_z-of_z}
use Rattle.deciding.proofs.Decides.{decides_as}
use Rattle.index_fields.proofs.voicing_ok.Goals as goal

pub returns-then-x-eq2 : goal.returns-then-x-eq2
returns-then-x-eq2 c =
    let s = c.args.x.signal in
    let f : SFits w8 s = search rules in
    let t : of_z w8 s ≡ 2 = omega arith in
    let v : s ≡ pos 2 = sym (to_z-of_z f) ∙ ap (to_z w8) t in
    decides_as (λ p e. p) (λ p. p v) c.pitch_ok_run.ensures

pub returns-else-x-eq2 : goal.returns-else-x-eq2
returns-else-x-eq2 c =
    let n : of_z w8 c.args.x.signal ≡ 2 → ⊥ = λ q. omega arith in
    record { sure = λ e v. absurd (n (ap (of_z w8) v)); seen = λ p. refl }
