-- What each part of a block has. Assumes nothing.
use Prim.Native.Nat.{ℕ, zero, suc, ◌^◌, ◌<◌, ◌≤◌}
use mathlib.Core.Path.{◌≡◌, refl, ap, ◌∙◌}
use mathlib.Core.List.{List, [], ◌∷◌, map}
use native.Mathlib.Omega.{arith}
use lib.ListN.{length, get_or, take, drop, get_or-map}
use Rattle.lists.specs.Inner.{All}
use Rattle.lists.proofs.All.{all_append}
use Rattle.silk.specs.PulseSyntax.{total}
use Rattle.silk.proofs.PulseWritten.{total_parts}
use Rattle.pulse_shell_splits.specs.Inner.{Part, parts_of, all_of, left_of}
use Rattle.pulse_shell_spoken.specs.Inner.{no_part, Within}

all_within : (n m : ℕ) (y : List ℕ) → total y ≤ m → All (Within n m) (parts_of n y)
unfolding parts_of
all_within zero m y h = tt
all_within (suc k) m y h = (
  record { table = omega arith; most = h },
  all_append (Within (suc k) m) (parts_of k (take (2 ^ k) y)) (parts_of k (drop (2 ^ k) y))
      (widened k m (parts_of k (take (2 ^ k) y)) (all_within k m (take (2 ^ k) y) (omega (arith, total_parts (2 ^ k) y))))
      (widened k m (parts_of k (drop (2 ^ k) y)) (all_within k m (drop (2 ^ k) y) (omega (arith, total_parts (2 ^ k) y)))),
)
  where
    widened : (k m : ℕ) (qs : List Part) → All (Within k m) qs → All (Within (suc k) m) qs
    widened k m [] g = tt
    widened k m (q ∷ qs) g = (record { table = omega (arith, g.0.table); most = g.0.most }, widened k m qs g.1)

within_at : (n m : ℕ) (qs : List Part) (k : ℕ) → k < length qs → All (Within n m) qs → Within n m (get_or qs k no_part)
within_at n m [] k l g = absurd (omega arith)
within_at n m (q ∷ qs) zero l g = g.0
within_at n m (q ∷ qs) (suc k) l g = within_at n m qs k (omega arith) g.1

-- the table of each of a block's parts
abbrev pub tables : List ℕ
tables = 3 ∷ 2 ∷ 1 ∷ 0 ∷ 0 ∷ 1 ∷ 0 ∷ 0 ∷ 2 ∷ 1 ∷ 0 ∷ 0 ∷ 1 ∷ 0 ∷ 0 ∷ []

pub parts_length : (y : List ℕ) → length (parts_of 4 y) ≡ 15
unfolding parts_of
parts_length y = refl

-- part k of a block of at most 16 pulses, and what an array of tables, sums and left sums says of it
pub record At (y all left : List ℕ) (k : ℕ) (q : Part) : Type 0 where
  pub within : Within 4 16 q
  pub table : get_or tables k 0 ≡ q.table
  pub all_is : get_or all k 0 ≡ all_of q
  pub left_is : get_or left k 0 ≡ left_of q
  pub left_most : left_of q ≤ all_of q

pub part_at : (y all left : List ℕ) (k : ℕ) → k < 15 → total y ≤ 16 → all ≡ map all_of (parts_of 4 y) → left ≡ map left_of (parts_of 4 y)
    → At y all left k (get_or (parts_of 4 y) k no_part)
unfolding parts_of total
part_at y all left k l h e f =
    let qs = parts_of 4 y in
    let q = get_or qs k no_part in
    record {
      within = within_at 4 16 qs k l (all_within 4 16 y h);
      table = get_or-map (λ (r : Part). r.table) qs k no_part;
      all_is = ap (λ (s : List ℕ). get_or s k 0) e ∙ get_or-map all_of qs k no_part;
      left_is = ap (λ (s : List ℕ). get_or s k 0) f ∙ get_or-map left_of qs k no_part;
      left_most = omega (arith, total_parts (2 ^ q.table) q.places);
    }
