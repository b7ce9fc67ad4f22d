-- The program reads 1,023 bytes: an input that has as many goes on past its last section, whatever follows. Assumes nothing.
use Prim.Native.Nat.{ℕ, ◌+◌, ◌*◌, ◌<◌}
use mathlib.Core.Path.{◌≡◌}
use mathlib.Core.List.{List}
use native.Mathlib.Omega.{arith}
use borrow.Author.Tests.{ne_eqb}
use lib.ListN.{length}
use Rattle.listing.specs.Lines.{refused_text}
use Rattle.sections.specs.Values.{byte_at}
use Rattle.stabiliser_text.specs.StabiliserText.{gaps_at, stabiliser_text}

pub longer_refused : (s : List ℕ) → ((i : ℕ) → byte_at s i < 256) → 1022 < length s → stabiliser_text s ≡ refused_text 9
unfolding stabiliser_text
longer_refused s bytes h =
    rw (ne_eqb _ _ (λ (e : length s ≡ gaps_at s + 1 + 2 * byte_at s (gaps_at s)). omega (arith, bytes 0, bytes (gaps_at s))))
