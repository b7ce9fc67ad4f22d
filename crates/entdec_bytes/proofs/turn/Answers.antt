-- Eight bits more; the wrapping sum does not wrap.
use Rattle.std.proofs.Common.{◌≡◌, ◌+◌, ◌-◌, ◌*◌, ◌/◌, ◌%◌, ◌^◌, refl, arith}
use Rattle.entdec_bytes.proofs.turn.Goals as goal

pub returns : goal.returns
returns c =
    let d = c.args.d in
    let b = c.ec_read_byte-b.result in
    let low = 255 - (256 * d.rem + b) / 2 % 256 in
    let v : (256 * d.val + low) % 2 ^ 32 ≡ 256 * d.val + low = omega arith in
    rw (v, c.ec_read_byte-b.ensures, c.place_after.ensures) refl
