-- `flush_all_run` meets its contract: what flushing makes of the state is the same at every turn. Assumes nothing.
use Prim.Native.Nat.{◌-◌}
use mathlib.Core.Path.{◌≡◌, refl, sym, ap, ◌∙◌}
use native.Mathlib.Omega.{arith}
use lib.ListN.{length}
use Rattle.entcode.specs.Flat.{Out, out}
use Rattle.entcode.proofs.FlatLaws.{flushed_done, flushed_step}
use Rattle.entcode.specs.Inner.Writing.{Windowed, shed, flushed}
use Rattle.entenc_bytes.proofs.Window.{shed_kept}
use Rattle.entenc_bytes.proofs.flush_all_run.Statement.{statement}
use Rattle.entenc_bytes.proofs.flush_all_run.Tie as tie

abbrev invariant_loop : tie.invariant-loop-w
invariant_loop buf₀ w₀ buf w =
    (flushed (out buf w) ≡ flushed (out buf₀ w₀)) × Windowed (out buf w) × (length buf ≡ length buf₀)

abbrev decreases_loop : tie.decreases-loop-w
decreases_loop buf₀ w₀ buf w = w.wbits

loop_holds : tie.Need-loop-w-init invariant_loop decreases_loop
loop_holds c = (refl, c.requires, refl)

flush_byte_requires : tie.Need-flush_byte-w-requires invariant_loop decreases_loop
flush_byte_requires c κs = (c.loop-w.invariant.1.roomy, c.loop-w-test.true)

loop_less : tie.Need-loop-w-smaller invariant_loop decreases_loop
unfolding shed
loop_less c =
    let l = c.loop-w in
    let e : c.flush_byte-w.result.wbits ≡ l.w.wbits - 8 = ap (λ (q : Out). q.state.wbits) c.flush_byte-w.ensures in
    omega (arith, c.loop-w-test.true)

loop_again : tie.Need-loop-w-preserved invariant_loop decreases_loop
loop_again c =
    let l = c.loop-w in
    let o = out l.buf l.w in
    let h = c.loop-w-test.true in
    let e = c.flush_byte-w.ensures in (
      rw e (flushed_step o h ∙ l.invariant.0),
      rw e (shed_kept o l.invariant.1 h),
      c.flush_byte-w.auto.buf ∙ l.invariant.2,
    )

same_length : tie.Need-shape_of-buf invariant_loop decreases_loop
same_length c = c.loop-w.invariant.2

returns : tie.Need-returns invariant_loop decreases_loop
returns c =
    let l = c.loop-w in
    record {
      is = sym (flushed_done (out l.buf l.w) l.invariant.1.roomy.fair c.loop-w-test.false) ∙ l.invariant.0;
      free = omega (arith, c.loop-w-test.false);
      windowed = l.invariant.1;
    }

pub flush_all_run_spec : {M : Type 1} → statement M
flush_all_run_spec =
    tie.close
    (tie.spec
    invariant_loop decreases_loop loop_holds flush_byte_requires loop_less loop_again same_length returns)
