-- Bytes that leave the window. Assumes nothing.
use Prim.Native.Nat.{◌+◌, ◌-◌, ◌/◌, ◌%◌, ◌^◌, ◌≤◌, ◌<◌}
use mathlib.Core.Path.{◌≡◌, refl}
use native.Mathlib.Omega.{arith}
use lib.Pow.{shr_lt}
use Rattle.entcode.specs.Room.{back}
use Rattle.entcode.proofs.RoomLaws.{BackKept, back_kept}
use Rattle.entcode.specs.Tail.{flush1}
use Rattle.entcode.specs.Flat.{Out, as_writer}
use Rattle.entcode.proofs.FlatLaws.{flat_fair, err_error}
use Rattle.entcode.specs.Inner.Writing.{Windowed, with_tail, backed, shed}
use Rattle.entcode.proofs.WriterFacts.{at_window}

pub shed_is : (o : Out)
    → at_window (backed o (o.state.window % 256)) (o.state.window / 256) (o.state.wbits - 8) (backed o (o.state.window % 256)).state.total ≡ shed o
unfolding backed shed
shed_is o = refl

pub shed_kept : (o : Out) → Windowed o → 8 ≤ o.state.wbits → Windowed (shed o)
unfolding shed
shed_kept o h l =
    let r = (as_writer o).tail.room in
    let p : BackKept r (back r (o.state.window % 256)) = back_kept r (o.state.window % 256) h.roomy.within h.err in
    let e : o.state.wbits ≡ (o.state.wbits - 8) + 8 = omega arith in
    let s : o.state.window < 2 ^ ((o.state.wbits - 8) + 8) = rw (← e) h.slim in
    record {
      roomy =
          record {
            fair = flat_fair (with_tail (as_writer o) (flush1 (as_writer o).tail));
            short = omega (arith, p.len, h.roomy.short);
            within = p.fit;
          };
      err = omega (arith, err_error (flush1 (as_writer o).tail).room.err, p.err);
      used = omega (arith, h.used);
      slim = shr_lt (o.state.wbits - 8) 8 s;
    }
