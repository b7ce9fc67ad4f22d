-- The pieces of a packet, put one behind the other. Assumes nothing.
use Prim.Native.Nat.{ℕ, zero, suc, ◌+◌, ◌≤◌}
use mathlib.Core.Path.{◌≡◌, ◌∙◌}
use mathlib.Core.List.{List, [], ◌∷◌, ◌++◌, append_assoc}
use native.Mathlib.Omega.{arith}
use native.Mathlib.Nat.{le_of_suc-le-suc, not-suc-le-zero}
use lib.ListN.{length, length-append}
use Rattle.framing.specs.Lengths.{length_code, length_codes}
use Rattle.packet_shortest.specs.Inner.{codes_of}

pub codes_less : (ns : List ℕ) (k n : ℕ) → k ≤ n → length (codes_of ns k) ≤ length (codes_of ns n)
unfolding length_codes
codes_less ns zero n h = omega arith
codes_less ns (suc k) zero h = absurd (not-suc-le-zero h)
codes_less [] (suc k) (suc n) h = omega arith
codes_less (x ∷ ns) (suc k) (suc n) h =
    omega (
      arith,
      length-append (length_code x) (codes_of ns k),
      length-append (length_code x) (codes_of ns n),
      codes_less ns k n
          (le_of_suc-le-suc h),
    )

pub four : (a b c d : List ℕ) → ((a ++ b) ++ c) ++ d ≡ a ++ (b ++ (c ++ d))
four a b c d = append_assoc (a ++ b) c d ∙ append_assoc a b (c ++ d)

pub four_length : (a b c d : List ℕ) → length (a ++ (b ++ (c ++ d))) ≡ length a + length b + length c + length d
four_length a b c d = omega (arith, length-append a (b ++ (c ++ d)), length-append b (c ++ d), length-append c d)
