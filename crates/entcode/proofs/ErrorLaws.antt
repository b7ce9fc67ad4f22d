-- The writer's error stays through every write and through finishing (document 01: the crate's sticky error). Assumes
-- nothing.
use Prim.Native.Nat.{ℕ, ◌/◌, ◌+◌, ◌^◌}
use mathlib.Core.Path.{◌≡◌, ap}
use lib.Dec.{leb, ltb}
use lib.IntN.{negsuc}
use Rattle.deciding.proofs.Choice.{chosen}
use Rattle.entcode.specs.Models.{Sym, coded, lo, hi, all, raw_n, raw_v}
use Rattle.entcode.specs.Cuts.{upper, lower}
use Rattle.entcode.specs.Front.{shift_out}
use Rattle.entcode.proofs.RoomLaws.{puts_stays}
use Rattle.entcode.specs.Tail.{Tail, raw_t}
use Rattle.entcode.proofs.TailLaws.{flush_stays}
use Rattle.entcode.specs.Writer.{Writer, norm_w, cut_w, code_w, write_sym}
use Rattle.entcode.specs.Finish.{bits_of, spare_bits, fin_bytes, fin_front, fin_tail, close, finish}
use Rattle.entcode.specs.Flat.{err_of, error_of, Out, as_writer}
use Rattle.entcode.specs.Writing.{written, finished}

norm_stays : (w : Writer) → w.tail.room.err ≡ 1 → (norm_w w).tail.room.err ≡ 1
norm_stays w h =
    chosen (λ (v : Writer). v.tail.room.err ≡ 1) (leb w.front.rng (2 ^ 23))
    (λ e. puts_stays (shift_out w.front) w.tail.room h) (λ e. h)

raw_stays : (t : Tail) (n v : ℕ) → t.room.err ≡ 1 → (raw_t t n v).room.err ≡ 1
raw_stays t n v h =
    chosen (λ (s : Tail). s.room.err ≡ 1) (ltb 32 (t.used + n)) (λ e. flush_stays (t.used / 8) t h) (λ e. h)

pub write_stays : (w : Writer) (s : Sym) → w.tail.room.err ≡ 1 → (write_sym w s).tail.room.err ≡ 1
write_stays w s h =
    let m = s.model in
    let c = coded m s.value in
    let x = cut_w w (upper w.front.rng (lo m c) (all m)) (lower w.front.rng (hi m c) (all m)) in
    raw_stays (code_w w (lo m c) (hi m c) (all m)).tail (raw_n m) (raw_v m s.value) (norm_stays (norm_w x) (norm_stays x h))

close_stays : (t : Tail) (j : ℕ) → t.room.err ≡ 1 → (close t j).err ≡ 1
close_stays t j h = rw h

pub finish_stays : (w : Writer) → w.tail.room.err ≡ 1 → (finish w).err ≡ 1
finish_stays w h =
    close_stays (fin_tail w) (spare_bits (bits_of w.front.rng w.front.val))
    (flush_stays (w.tail.used / 8) (fin_front w) (puts_stays (fin_bytes w.front) w.tail.room h))

-- ---- the same of flat states: an error of -1 stays -1

pub error_stays : (o : Out) (s : Sym) → o.state.error ≡ negsuc 0 → (written o s).state.error ≡ negsuc 0
unfolding written
error_stays o s e = ap error_of (write_stays (as_writer o) s (ap err_of e))

pub done_stays : (o : Out) → o.state.error ≡ negsuc 0 → (finished o).state.error ≡ negsuc 0
unfolding finished
done_stays o e = ap error_of (finish_stays (as_writer o) (ap err_of e))
