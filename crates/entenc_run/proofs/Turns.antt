-- A turn and a cut: what the code's updates make is the definitions' step. Assumes nothing.
use Rattle.std.proofs.Common.{◌≡◌, ℕ, suc, ◌+◌, ◌-◌, ◌*◌, ◌/◌, ◌%◌, ◌^◌, ◌≤◌, eqb, refl, arith}
use Rattle.deciding.proofs.Choice.{chosen}
use Rattle.entcode.specs.Front.{run_next, shift_out}
use Rattle.entcode.proofs.RoomLaws.{puts_kept}
use Rattle.entcode.specs.Writer.{shift_w}
use Rattle.entcode.specs.Flat.{Out, as_writer}
use Rattle.entcode.proofs.FlatLaws.{flat_fair}
use Rattle.entcode.specs.Inner.Writing.{Ready, carried, turned, settled, cut}
use Rattle.entcode.proofs.WriterFacts.{at_turn}

-- ---- a turn is a digit, and the rest shifted up

pub turn_is : (o : Out)
    → at_turn (carried o (o.state.val / 2 ^ 23)) (256 * o.state.rng) (256 * (o.state.val % 2 ^ 23)) (o.state.total + 8) ≡ turned o
unfolding carried turned
turn_is o = refl

run_most : (x c : ℕ) → run_next x c ≤ suc x
run_most x c = chosen (λ (y : ℕ). y ≤ suc x) (eqb c 255) (λ e. omega arith) (λ e. omega arith)

pub turn_ready : (o : Out) → Ready o → o.state.rng ≤ 2 ^ 23 → Ready (turned o)
unfolding turned
turn_ready o h l =
    let k = puts_kept (shift_out (as_writer o).front) (as_writer o).tail.room h.roomy.within in
    record {
      roomy = record { fair = flat_fair (shift_w (as_writer o)); short = omega (arith, k.len, h.roomy.short); within = k.fit };
      some = omega (arith, h.some);
      run = omega (arith, h.run, h.some, run_most o.state.ext (o.state.val / 2 ^ 23));
      few = omega (arith, h.few, h.some);
    }

-- ---- a cut, and the range settled

pub cut_is : (o : Out) (t s : ℕ) → settled (at_turn o (t - s) (o.state.val + (o.state.rng - t)) o.state.total) ≡ cut o t s
unfolding settled cut
cut_is o t s = refl
