-- `put_held` meets its contract: the held byte is there, or none is. Assumes nothing.
use borrow.Author.Rules.{rules}
use mathlib.Core.Path.{sym}
use native.Mathlib.Omega.{arith}
use mir.Facts.{to_z-of_z}
use mir.Syntax.{w32}
use mir.Val.{SFits}
use Rattle.entcode.proofs.FlatLaws.{put_none}
use Rattle.entenc_bytes.proofs.Digits.{held_nat, nat_most, held_some, held_none}
use Rattle.entenc_bytes.proofs.put_held.Statement.{statement}
use Rattle.entenc_bytes.proofs.put_held.Tie as tie

-- the held byte fits its type
rem_fits : (c : tie.Start) → SFits w32 c.args.w.rem
rem_fits c = search rules

cast_b : tie.Need-overflow_cast-b
cast_b c =
    let w = c.args.w in
    let h : SFits w32 w.rem = search rules in
    rw (to_z-of_z h) (held_nat w.rem h (rw (to_z-of_z h) at c.if-h-ge0.true))

add_b : tie.Need-overflow_add-b
add_b c =
    let w = c.args.w in
    let h : SFits w32 w.rem = search rules in
    rw (to_z-of_z h) (omega (arith, nat_most w.rem h))

returns : tie.Need-returns-then-h-ge0
returns c =
    let b = c.before.before.before.before.before.before.before in
    let w = b.args.w in
    let h = rem_fits b in
    let e = held_some w.rem b.args.k (rw (to_z-of_z h) at c.if-h-ge0.true) in
    rw (c.put_byte.ensures, to_z-of_z h, e)

returns_2 : tie.Need-returns-else-h-ge0
returns_2 c =
    let b = c.before.before.before in
    let w = b.args.w in
    let h = rem_fits b in
    let e = held_none w.rem b.args.k (rw (to_z-of_z h) at c.if-h-ge0.false) in
    rw e (sym (put_none _ b.requires.0.fair))

pub put_held_spec : {M : Type 1} → statement M
put_held_spec =
    tie.close
    (tie.spec
    cast_b add_b (λ c. search rules) (λ c κs. search rules) (λ c. search rules) returns returns_2)
