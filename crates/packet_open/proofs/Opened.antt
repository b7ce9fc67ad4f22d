-- What `open_frame` answers of an accepted packet: a fresh reader of frame k; so every call of document 01 takes a frame. Assumes nothing.
use Prim.Native.Nat.{ℕ, ◌≤◌}
use mathlib.Core.Path.{◌≡◌, ap, ◌∙◌}
use mathlib.Core.List.{List, []}
use native.Mathlib.Omega.{arith}
use lib.ListN.{length, get_or, length-take, get_or-eq_default}
use Rattle.deciding.proofs.Choice.{by_lt}
use Rattle.entcode.specs.declared.Decoded.{Decoded}
use Rattle.entcode.specs.Reading.{dec_open}
use Rattle.packet_view.proofs.Opening.{opens}
use Rattle.framing.specs.Form.{frames_of}
use Rattle.framing.specs.Reading.{packet_read}
use Rattle.framing.specs.Statement.{Accepted}
use Rattle.framing.proofs.Theorems.{parts_placed}
use Rattle.packet_frame.specs.Frames.{frame_at}
use Rattle.packet_frame.proofs.FrameLaws.{frame_is}

-- past the last frame there is nothing
frame_short : (s : List ℕ) (k : ℕ) → Accepted s → length (get_or (frames_of s) k []) ≤ 1275
frame_short s k accepted =
    let p = parts_placed s accepted in
    by_lt k (packet_read s).count
    (λ h. rw (p.part k h, length-take) (omega (arith, p.short k h)))
    (λ h. rw (get_or-eq_default (frames_of s) [] {n = k} (omega (arith, p.many))) (omega arith))

pub frame_opens : (s : List ℕ) (k : ℕ) → Accepted s
    → let a = dec_open (frame_at s (packet_read s) k) in (a ≡ dec_open (get_or (frames_of s) k [])) × (a.refusal ≡ 0)
frame_opens s k accepted =
    let e = ap dec_open (frame_is s k accepted) in
    (e, ap (λ (a : Decoded). a.refusal) (e ∙ opens _ (frame_short s k accepted)))
