-- The frames of an accepted packet, and no frame past them. Assumes nothing.
use Prim.Native.Nat.{ℕ, ◌+◌, ◌-◌, ◌≤◌}
use mathlib.Core.Path.{◌≡◌, refl, sym, ap, ◌∙◌}
use mathlib.Core.Bool.{Bool, true, false, ◌&&◌, cond}
use mathlib.Core.List.{List, []}
use native.Mathlib.Omega.{arith}
use borrow.Author.Tests.{le-leb}
use lib.Dec.{leb}
use lib.ListN.{length, get_or, take, drop, get_or-eq_default}
use Rattle.deciding.proofs.Both.{both_and}
use Rattle.deciding.proofs.Choice.{by_lt}
use Rattle.framing.specs.declared.Packet.{Packet}
use Rattle.framing.specs.Form.{sizes_of, frames_of}
use Rattle.framing.specs.Reading.{accepted, packet_read}
use Rattle.framing.specs.Statement.{Accepted, start_at, size_at}
use Rattle.framing.proofs.Accepted.{twelve_at, rule_zero, answer_is}
use Rattle.framing.proofs.Theorems.{parts_placed}
use Rattle.packet_frame.specs.Frames.{part_of, frame_at}

-- what `packet_frame` hands out of an accepted packet is its frame
pub frame_is : (s : List ℕ) (k : ℕ) → Accepted s → frame_at s (packet_read s) k ≡ get_or (frames_of s) k []
unfolding frame_at part_of accepted
frame_is s k a =
    let p = parts_placed s a in
    let st = start_at s k in
    let sz = size_at s k in
    by_lt k (packet_read s).count
    (λ h.
    let i : st + sz ≤ length s = p.inside k h in
    let x : leb st (length s) ≡ true = le-leb st (length s) (omega arith) in
    let y : leb sz (length s - st) ≡ true = le-leb sz (length s - st) (omega arith) in
    ap (λ (b : Bool). cond b (take sz (drop st s)) []) (both_and (leb st (length s)) (leb sz (length s - st)) x y) ∙ sym (p.part k h))
    (λ h.
    let z = answer_is s (rule_zero s a) in
    let c : (packet_read s).count ≡ length (sizes_of s) = ap (λ (q : Packet). q.count) z in
    let n : sz ≡ 0 =
    ap (λ (q : Packet). get_or q.size k 0) z ∙ twelve_at (sizes_of s) k ∙ get_or-eq_default (sizes_of s) 0 {n = k} (omega arith) in
    let g : get_or (frames_of s) k [] ≡ [] = get_or-eq_default (frames_of s) [] {n = k} (omega (arith, p.many)) in
    empty (leb st (length s) && leb sz (length s - st)) sz (drop st s) n ∙ sym g)
  where
    empty : (b : Bool) (n : ℕ) (r : List ℕ) → n ≡ 0 → cond b (take n r) [] ≡ []
    empty true n r e = ap (λ (m : ℕ). take m r) e
    empty false n r e = refl

-- no answer has a frame past the twelfth
pub past_frames : (s : List ℕ) (a : Packet) (k : ℕ) → length a.start ≡ 12 → length a.size ≡ 12 → 12 ≤ k → frame_at s a k ≡ []
unfolding frame_at part_of
past_frames s a k p q h =
    let x : get_or a.size k 0 ≡ 0 = get_or-eq_default a.size 0 {n = k} (omega arith) in
    let st = get_or a.start k 0 in
    go (leb st (length s) && leb (get_or a.size k 0) (length s - st)) (get_or a.size k 0) (drop st s) x
  where
    go : (b : Bool) (n : ℕ) (r : List ℕ) → n ≡ 0 → cond b (take n r) [] ≡ []
    go true n r e = ap (λ (m : ℕ). take m r) e
    go false n r e = refl
