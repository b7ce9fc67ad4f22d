-- Two shares together have at most 12 digits, and so an entry of the row. Assumes nothing.
use Rattle.std.proofs.Common.{◌≡◌, ℕ, ◌+◌, ◌*◌, ◌/◌, ◌%◌, ◌^◌, ◌≤◌, arith, ap, ap₂, ◌∙◌}
use Rattle.bitlen.specs.Length.{bit_length}
use Rattle.nlsf_weights.specs.Inner.{start_of}
use Rattle.nlsf_weights.proofs.RowLaws.{roots_long, start_in}
use Rattle.nlsf_weights.proofs.RootLaws.{length_few, start_small, line_small, root_is}
use Rattle.nlsf_weights.proofs.root.Goals as goal

few : (s i : ℕ) → s ≤ 2048 → i ≡ bit_length s → i ≤ 12
few s i h e = omega (arith, e, length_few s h)

-- the digits behind the first
abbrev digits : ℕ → ℕ → ℕ
digits s i = s * 256 % 4294967296 / 2 ^ i % 128

line : (s i y : ℕ) → y ≡ start_of i → y + 213 * digits s i * y / 65536 ≤ 65535
line s i y e =
    let small : y ≤ 46214 = omega (arith, e, start_small i) in
    omega (arith, small, line_small (digits s i) y (omega arith) small)

pub overflow_shr-f : goal.overflow_shr-f
overflow_shr-f c = omega (arith, few c.args.s c.ec_ilog-i.result c.requires.1.1 c.ec_ilog-i.ensures)

pub bounds-roots-i : goal.bounds-roots-i
bounds-roots-i c = omega (arith, few c.args.s c.ec_ilog-i.result c.requires.1.1 c.ec_ilog-i.ensures, roots_long c.requires.0)

pub overflow_cast-result : goal.overflow_cast-result
overflow_cast-result c =
    let i = c.ec_ilog-i.result in
    let n = few c.args.s i c.requires.1.1 c.ec_ilog-i.ensures in
    let y : c.from-y.result ≡ start_of i = c.from-y.ensures ∙ start_in c.requires.0 i (omega (arith, n)) in
    omega (arith, line c.args.s i c.from-y.result y)

pub returns : goal.returns
returns c =
    let s = c.args.s in
    let i = c.ec_ilog-i.result in
    let n = few s i c.requires.1.1 c.ec_ilog-i.ensures in
    let y : c.from-y.result ≡ start_of i = c.from-y.ensures ∙ start_in c.requires.0 i (omega (arith, n)) in
    let e : s * 256 % 4294967296 ≡ s * 256 = omega (arith, c.requires.1.1) in
    ap₂ (λ (a f : ℕ). a + 213 * f * a / 65536) (y ∙ ap start_of c.ec_ilog-i.ensures)
    (ap₂ (λ (m j : ℕ). m / 2 ^ j % 128) e c.ec_ilog-i.ensures)
    ∙ root_is s c.requires.1.0 c.requires.1.1
