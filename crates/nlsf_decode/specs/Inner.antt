-- What decoding under a book of order n asks, and what it makes. Assumes nothing.
use Rattle.std.specs.Prelude.{ℕ, ◌<◌, ◌≡◌, List, map, ℤ, pos, length}
use Rattle.sheet.specs.Books.{Book}
use Rattle.spectrum.specs.Places.{places}
use Rattle.spectrum.specs.Stabilising.{Stable, stabilise}
use Rattle.spectrum.specs.Values.{Within}

pub record Indexed (n : ℕ) (vector : List ℤ) (v : ℕ) (xs : List ℤ) : Type 0 where
  pub long : length vector ≡ n
  pub many : length xs ≡ n
  pub tens : Within 10 10 xs
  pub row : v < 32

-- vector v of a book, moved by the indices of its places and stabilised by the book's gaps
abbrev pub spectrum_of : Book → ℕ → List ℤ → Stable
spectrum_of b v xs = stabilise (map pos b.gaps) (places b v xs)
