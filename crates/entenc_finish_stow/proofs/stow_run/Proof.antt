-- `stow_run` meets its contract: the byte below the back takes the bits, or as many as it can spare, or there is none. Assumes nothing.
use borrow.Author.Rules.{rules}
use Prim.Native.Nat.{ℕ, ◌+◌, ◌-◌, ◌*◌, ◌%◌, ◌^◌, ◌<◌, ◌≤◌}
use mathlib.Core.Path.{◌≡◌, ap}
use native.Mathlib.Omega.{arith}
use native.Mathlib.Nat.{lt_of_le_of_lt, mod-le}
use lib.ListN.{length}
use lib.Pow.{pow_pos, pow_mono}
use Rattle.entcode.specs.Flat.{out}
use Rattle.bitlen.proofs.Shift.{one_shl}
use Rattle.entenc_finish_stow.proofs.Stowing.{stow_short, stow_whole, stow_none}
use Rattle.entenc_finish_stow.proofs.stow_run.Statement.{statement}
use Rattle.entenc_finish_stow.proofs.stow_run.Tie as tie

mask : (c : tie.Start) → 1 * 2 ^ c.args.j % 2 ^ 32 ≡ 2 ^ c.args.j
mask c = one_shl c.args.j (omega (arith, c.requires.1.1))

few : (c : tie.Start) → 2 ^ c.args.j ≤ 2 ^ 7
few c = pow_mono {i = c.args.j} {j = 7} c.requires.1.1

-- a small number above 0 is above 0 in 32 bits
some_left : (x : ℕ) → 1 ≤ x → x ≤ 256 → 0 < x % 2 ^ 32
some_left x a b = omega arith

-- fewer than eight bits wait
waiting : (c : tie.Start) → c.args.w.window < 2 ^ 7
waiting c =
    let p : 2 ^ c.args.w.wbits ≤ 2 ^ 7 = pow_mono {i = c.args.w.wbits} {j = 7} c.requires.1.0 in
    omega (arith, c.requires.0.slim)

-- there is a byte below the back
abbrev begun : tie.Then-w → tie.Start
begun c = c.before.before.before

inside : (c : tie.Then-w) → let a = (begun c).args in a.w.storage - (a.w.endoffs + 1) < length a.buf.now
inside c = omega (arith, (begun c).requires.0.roomy.fair.kept, c.if-w.true)

-- where the bits join that byte
abbrev below : tie.Then-w-used → tie.Then-w
below c = c.before.before.before.before.before.before

rem_x : tie.Need-nonzero_rem-x
rem_x c = let b = begun (below c.before) in some_left _ (omega (arith, pow_pos b.args.j)) (omega (arith, few b))

cast_buf : tie.Need-overflow_cast-buf
cast_buf c = record { fits = lt_of_le_of_lt (mod-le _ _) (omega (arith, waiting (begun (below c.before)))) }

returns : tie.Need-returns-then-w-used
returns c =
    let p = below c.before in
    let b = begun p in
    stow_short (out b.args.buf.now b.args.w) b.args.j _ b.requires.0.roomy p.if-w.true c.if-w-used.true
    (ap (λ (m : ℕ). b.args.w.window % m) (mask b))

returns_2 : tie.Need-returns-else-w-used
returns_2 c =
    let p = c.before.before.before.before.before.before.before in
    let b = begun p in
    stow_whole (out b.args.buf.now b.args.w) b.args.j b.requires.0.roomy p.if-w.true c.if-w-used.false

returns_3 : tie.Need-returns-else-w
returns_3 c =
    let b = c.before.before.before in
    stow_none (out b.args.buf.now b.args.w) b.args.j b.requires.0.roomy c.if-w.false

pub stow_run_spec : {M : Type 1} → statement M
stow_run_spec =
    tie.close
    (tie.spec
    (λ c. search rules) (λ c. search rules) (λ c. search rules) (λ c. search rules) (λ c. search rules) (λ c. search rules)
    rem_x cast_buf (λ c. inside (below c.before))
    (λ c. omega (arith, waiting (begun c.before.before.before.before.before.before.before)))
    (λ c. inside c.before.before.before.before.before.before.before)
    (λ c. search rules) returns (λ c. search rules) returns_2 returns_3)
