-- How far the search of a table has come. Assumes nothing.
use Rattle.std.proofs.Common.{◌≡◌, ℕ, ◌+◌, ◌*◌, ◌^◌, ◌<◌, ◌≤◌, List, length, get_or, drop, arith}
use native.Mathlib.Nat.{le_of_lt, mul-le-mul_left}
use Rattle.icdf.specs.Rule.{Icdf}
use Rattle.icdf.proofs.RuleLaws.{entry_below}
use Rattle.icdf.specs.Search.{search}
use Rattle.icdf.proofs.SearchLaws.{not_last}
use Rattle.entcode.specs.Inner.Reading.{top_of}

-- to symbol k, of which top and low are the ends
pub record Come (t : List ℕ) (unit v rng k top low : ℕ) : Type 0 where
  pub on : search unit v t ≡ k + search unit v (drop k t)
  pub inside : k < length t
  pub bottom : low ≡ unit * get_or t k 0
  pub above : top ≡ top_of rng unit t k

-- an end lies within the range
pub end_le : (scale unit : ℕ) (t : List ℕ) (k : ℕ) → Icdf scale t → unit * get_or t k 0 ≤ unit * 2 ^ scale
end_le scale unit t k h = mul-le-mul_left unit (le_of_lt (entry_below scale t h k))

-- a value below this symbol's part lies in the part of one to come
pub more : {scale unit v rng k top low : ℕ} {t : List ℕ} → Icdf scale t → Come t unit v rng k top low → v < low → k + 1 < length t
more {scale} {unit} {v} {rng} {k} {top} {low} {t} h c l =
    let p : v < unit * get_or t k 0 = omega (arith, c.bottom) in
    omega (arith, not_last scale unit v t k h c.inside p)
