-- A list in three parts: its middle, and the list with another middle. Assumes nothing.
use Prim.Native.Nat.{ℕ, ◌+◌, ◌-◌}
use mathlib.Core.Path.{◌≡◌, ap, ◌∙◌}
use mathlib.Core.List.{List, ◌++◌}
use native.Mathlib.Omega.{arith}
use lib.ListN.{length, take, drop}
use lib.Seq.{take_at, drop_at}

module _ {ℓ} {A : Type ℓ} (a e : ℕ) (s p m r : List A) (is : s ≡ p ++ (m ++ r)) (front : length p ≡ a) (size : a + length m ≡ e) where
  behind : drop a s ≡ m ++ r
  behind = ap (λ (l : List A). drop a l) is ∙ drop_at p (m ++ r) a front

  pub middle : take (e - a) (drop a s) ≡ m
  middle = ap (λ (l : List A). take (e - a) l) behind ∙ take_at m r (e - a) (omega arith)

  pub replaced : (y : List A) → take a s ++ (y ++ drop (e - a) (drop a s)) ≡ p ++ (y ++ r)
  replaced y =
      let f : take a s ≡ p = ap (λ (l : List A). take a l) is ∙ take_at p (m ++ r) a front in
      let g : drop (e - a) (drop a s) ≡ r = ap (λ (l : List A). drop (e - a) l) behind ∙ drop_at m r (e - a) (omega arith) in
      rw (f, g)
