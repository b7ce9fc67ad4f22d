-- The program reads at most 16,385 bytes: an input that has as many is refused with 1, whatever it holds and whatever follows.
-- Assumes nothing.
use Prim.Native.Nat.{ℕ, ◌<◌}
use mathlib.Core.Path.{◌≡◌}
use mathlib.Core.List.{List}
use native.Mathlib.Omega.{arith}
use lib.ListN.{length}
use Rattle.listing.specs.Lines.{refused_text}
use Rattle.framing.proofs.Accepted.{rule_one, refused_is}
use Rattle.packet_text.specs.PacketText.{packet_text}

pub longer_refused : (s : List ℕ) → 16384 < length s → packet_text s ≡ refused_text 1
unfolding packet_text
longer_refused s h = rw (refused_is s 1 (rule_one s h) (omega arith))
