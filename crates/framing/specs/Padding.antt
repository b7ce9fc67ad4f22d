-- Padding (RFC 6716, section 3.2.5; RFC 8251, section 4): length bytes, of which 255 counts 254 bytes and goes on,
-- and any other counts itself and ends; the bytes counted stand at the packet's end. Where the length bytes run out,
-- one more is taken to stand past the end, so that they and the bytes counted do not fit the packet. Assumes nothing.
use Rattle.std.specs.Prelude.{ℕ, zero, suc, ◌+◌, ◌-◌, ◌/◌, ◌%◌, cond, List, [], ◌∷◌, ◌++◌, eqb, replicate}

-- how many length bytes, and how many bytes they count
unfoldable pub pad_lengths : List ℕ → ℕ
pad_lengths [] = 1
pad_lengths (b ∷ r) = cond (eqb b 255) (1 + pad_lengths r) 1

unfoldable pub pad_bytes : List ℕ → ℕ
pad_bytes [] = 0
pad_bytes (b ∷ r) = cond (eqb b 255) (254 + pad_bytes r) b

-- the inverse: padding that takes k bytes, its length bytes included; k may be 0
unfoldable pub pad_code : ℕ → List ℕ
pad_code zero = []
pad_code (suc n) = replicate (n / 255) 255 ++ ((n % 255) ∷ [])

unfoldable pub pad_tail : ℕ → ℕ
pad_tail zero = 0
pad_tail (suc n) = n - n / 255
