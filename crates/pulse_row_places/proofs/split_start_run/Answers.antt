-- The row stands where the sheet's directory has it: the product that counts the entries before it is 2 or more.
use Rattle.std.proofs.Common.{◌≡◌, ◌+◌, ◌-◌, ◌*◌, ◌/◌, ◌≤◌, arith}
use native.Mathlib.Nat.{mul-le-mul}
use Rattle.sheet.proofs.Families.{shell_stands}
use Rattle.pulse_row_places.proofs.split_start_run.Goals as goal

pub returns : goal.returns
returns c l =
    let t = c.args.table in
    let n = c.args.n in
    let h : 2 ≤ n * (n + 1) = mul-le-mul {n₁ = 1} {m₁ = 2} {n₂ = n} {m₂ = n + 1} l (omega arith) in
    let e : 214 + t * 152 + n * (n + 1) / 2 ≡ 215 + t * 152 + (n * (n + 1) / 2 - 1) = omega arith in
    rw e (shell_stands t n c.requires.0 l c.requires.1)
