-- The parts of a packet that keeps the rules: as many as it says, one behind the other, apart, inside the packet, none above 1,275
-- bytes; each is the frame. Assumes nothing.
use Prim.Native.Nat.{ℕ, zero, suc, ◌+◌, ◌-◌, ◌*◌, ◌/◌, ◌≤◌, ◌<◌}
use mathlib.Core.Path.{◌≡◌, refl, sym, ap, ◌∙◌}
use mathlib.Core.Bool.{true}
use mathlib.Core.List.{List, [], ◌∷◌, ◌++◌}
use native.Mathlib.Omega.{arith}
use native.Mathlib.Nat.{div-add-mod, le_of_suc-le-suc, not-suc-le-zero, suc-mul, zero-mul}
use borrow.Author.Tests.{leb-true}
use lib.ListN.{length, get_or, take, drop, replicate, length-append, length-replicate}
use lib.Seq.{drop-drop}
use Rattle.lists.proofs.EveryLaws.{every_at}
use Rattle.framing.specs.Lengths.{total}
use Rattle.framing.specs.declared.Form.{Form}
use Rattle.framing.specs.Form.{form_of, behind, firsts, head, room, sizes, sizes_of, head_of, cut, frames_of}
use Rattle.framing.specs.Rules.{fits_frame, keeps, count_of}
use Rattle.framing.specs.Reading.{starts}
use Rattle.framing.proofs.LengthLaws.{lengths_count}
use Rattle.framing.proofs.Kept.{KeptBy, kept, by_bool, firsts_varied, sizes_equal, sizes_varied}

-- ---- totals

pub total_append : (a b : List ℕ) → total (a ++ b) ≡ total a + total b
unfolding total
total_append [] b = omega arith
total_append (n ∷ a) b = omega (arith, total_append a b)

pub total_one : (n : ℕ) → total (n ∷ []) ≡ n
unfolding total
total_one n = omega arith

pub total_same : (m n : ℕ) → total (replicate m n) ≡ m * n
unfolding total
total_same zero n = sym (zero-mul n)
total_same (suc m) n = omega (arith, total_same m n, suc-mul m n)

-- ---- the frames and the padding are the packet behind its first bytes

module _ (f : Form) (s : List ℕ) (k : KeptBy f s) where
  pub sizes_count : length (sizes f s) ≡ f.count
  sizes_count =
      by_bool f.varied
      (λ v.
      let n : length (firsts f s) ≡ f.count - 1 = ap length (firsts_varied f s v) ∙ lengths_count (f.count - 1) (behind f s) in
      ap length (sizes_varied f s v) ∙ omega (arith, length-append (firsts f s) ((room f s - total (firsts f s)) ∷ []), k.some))
      (λ v. ap length (sizes_equal f s v) ∙ length-replicate f.count (room f s / f.count))

  sizes_room : total (sizes f s) ≡ room f s
  sizes_room =
      by_bool f.varied
      (λ v.
      ap total (sizes_varied f s v)
      ∙ total_append (firsts f s) ((room f s - total (firsts f s)) ∷ [])
      ∙ omega (arith, total_one (room f s - total (firsts f s)), k.fits))
      (λ v.
      ap total (sizes_equal f s v)
      ∙ total_same f.count (room f s / f.count)
      ∙ omega (arith, div-add-mod (room f s) f.count, k.shares v))

  pub whole : head f s + total (sizes f s) + f.pad ≡ length s
  whole = omega (arith, sizes_room, k.fits)

-- ---- parts one behind the other

pub starts_count : (a : ℕ) (ns : List ℕ) → length (starts a ns) ≡ length ns
unfolding starts
starts_count a [] = refl
starts_count a (n ∷ ns) = ap suc (starts_count (a + n) ns)

pub cut_count : (ns r : List ℕ) → length (cut ns r) ≡ length ns
unfolding cut
cut_count [] r = refl
cut_count (n ∷ ns) r = ap suc (cut_count ns (drop n r))

-- each frame is the part of the packet that its start and size name
pub cut_part : (ns r : List ℕ) (a i : ℕ) → i < length ns
    → get_or (cut ns (drop a r)) i [] ≡ take (get_or ns i 0) (drop (get_or (starts a ns) i 0) r)
unfolding cut starts
cut_part [] r a i h = absurd (not-suc-le-zero h)
cut_part (n ∷ ns) r a zero h = refl
cut_part (n ∷ ns) r a (suc i) h =
    ap (λ (l : List ℕ). get_or (cut ns l) i []) (drop-drop n a r) ∙ cut_part ns r (a + n) i (le_of_suc-le-suc h)

pub part_within : (a : ℕ) (ns : List ℕ) (i : ℕ) → i < length ns
    → (a ≤ get_or (starts a ns) i 0) × (get_or (starts a ns) i 0 + get_or ns i 0 ≤ a + total ns)
unfolding starts total
part_within a [] i h = absurd (not-suc-le-zero h)
part_within a (n ∷ ns) zero h = omega arith
part_within a (n ∷ ns) (suc i) h = let p = part_within (a + n) ns i (le_of_suc-le-suc h) in omega (arith, p.0, p.1)

-- parts at i < j lie in this order, and apart
pub parts_apart : (a : ℕ) (ns : List ℕ) (i j : ℕ) → i < j → j < length ns → get_or (starts a ns) i 0 + get_or ns i 0 ≤ get_or (starts a ns) j 0
unfolding starts
parts_apart a [] i j h l = absurd (not-suc-le-zero l)
parts_apart a (n ∷ ns) i zero h l = absurd (not-suc-le-zero h)
parts_apart a (n ∷ ns) zero (suc j) h l = (part_within (a + n) ns j (le_of_suc-le-suc l)).0
parts_apart a (n ∷ ns) (suc i) (suc j) h l = parts_apart (a + n) ns i j (le_of_suc-le-suc h) (le_of_suc-le-suc l)

-- ---- of a packet that keeps the rules

pub record Parts (s : List ℕ) : Type 0 where
  pub many : length (sizes_of s) ≡ count_of s
  pub inside : (i : ℕ) → i < count_of s → get_or (starts (head_of s) (sizes_of s)) i 0 + get_or (sizes_of s) i 0 ≤ length s
  pub order : (i j : ℕ) → i < j → j < count_of s
      → get_or (starts (head_of s) (sizes_of s)) i 0 + get_or (sizes_of s) i 0 ≤ get_or (starts (head_of s) (sizes_of s)) j 0
  pub most : (i : ℕ) → i < count_of s → get_or (sizes_of s) i 0 ≤ 1275
  pub part : (i : ℕ) → i < count_of s
      → get_or (frames_of s) i [] ≡ take (get_or (sizes_of s) i 0) (drop (get_or (starts (head_of s) (sizes_of s)) i 0) s)

pub parts : (s : List ℕ) → keeps s ≡ true → Parts s
parts s e =
    let k = kept s e in
    let c : length (sizes_of s) ≡ count_of s = sizes_count (form_of s) s k in
    let w : head_of s + total (sizes_of s) + (form_of s).pad ≡ length s = whole (form_of s) s k in
    record {
      many = c;
      inside = λ i h. omega (arith, (part_within (head_of s) (sizes_of s) i (omega arith)).1);
      order = λ i j h l. parts_apart (head_of s) (sizes_of s) i j h (omega arith);
      most = λ i h. leb-true _ _ (every_at fits_frame (sizes_of s) 0 k.small i (omega arith));
      part = λ i h. cut_part (sizes_of s) s (head_of s) i (omega arith);
    }
