-- The durations by the arms of a choice on the configuration, and the bounds of what frames last. Assumes nothing.
use Prim.Native.Nat.{ℕ, ◌*◌, ◌≤◌, ◌<◌}
use mathlib.Core.Path.{◌≡◌, refl, sym, ap, subst⁻¹, ◌∙◌}
use mathlib.Core.Bool.{Bool, true, ◌||◌}
use mathlib.Core.List.{List, [], ◌∷◌}
use mathlib.Core.Logic.{inl, inr}
use native.Mathlib.Nat.{mul-le-mul}
use native.Mathlib.Omega.{arith}
use borrow.Author.Tests.{eqb-true, leb-true, le-leb, lt-leb}
use lib.Dec.{T, eqb, leb}
use lib.ListN.{length, get_or-eq_default}
use mir.Val.{has_key}
use types.Run.{OneOf, hit}
use Rattle.deciding.proofs.Both.{and_both}
use Rattle.lists.specs.Every.{every}
use Rattle.lists.proofs.EveryLaws.{every_below, below_at}
use Rattle.framing.specs.Toc.{durations, duration, in_time}
use Rattle.framing.proofs.Kept.{duration_most, by_bool}

abbrev lasts : ℕ → ℕ → Bool
lasts n k = eqb n (duration k)

-- an arm whose keys last n each
pub arm : (ks : List ℕ) (n v : ℕ) → every (λ k. lasts n k) ks ≡ true → OneOf ks v → n ≡ duration v
arm [] n v e h = absurd h
arm (k ∷ []) n v e h = eqb-true n (duration k) (and_both (lasts n k) true e).0 ∙ ap duration (sym h)
arm (k ∷ (j ∷ ks)) n v e (inl h) = eqb-true n (duration k) (and_both (lasts n k) (every (λ i. lasts n i) (j ∷ ks)) e).0
    ∙ ap duration (sym h)
arm (k ∷ (j ∷ ks)) n v e (inr h) = arm (j ∷ ks) n v (and_both (lasts n k) (every (λ i. lasts n i) (j ∷ ks)) e).1 h

-- behind an arm that was not taken
pub skipped : (ks : List ℕ) (v : ℕ) (t : Bool) → (OneOf ks v → ⊥) → has_key ks v || t ≡ true → t ≡ true
skipped ks v t h e =
    by_bool (has_key ks v) (λ q. absurd (h (hit ks v (subst⁻¹ (λ (b : Bool). T b) q tt)))) (λ q. ap (λ (b : Bool). b || t) (sym q) ∙ e)

duration_least : (c : ℕ) → c < 32 → 25 ≤ duration c
duration_least c h = leb-true 25 (duration c) (below_at (λ n. leb 25 (duration n)) 32 all c h)
  where
    all : every_below (λ n. leb 25 (duration n)) 32 ≡ true
    all = unfold durations in refl

-- two frames, any configuration
pub two : (n c : ℕ) → n ≤ 2 → true ≡ in_time n c
two n c h = let l : n * duration c ≤ 2 * 600 = mul-le-mul h (duration_most c) in sym (le-leb (n * duration c) 1200 (omega arith))

-- any number, no configuration
pub no_duration : (n c : ℕ) → 31 < c → true ≡ in_time n c
no_duration n c h =
    let e : duration c ≡ 0 = get_or-eq_default durations 0 {n = c} (omega (arith, size)) in
    let z : n * duration c ≡ 0 = ap (λ (d : ℕ). n * d) e ∙ omega arith in
    sym (le-leb (n * duration c) 1200 (omega arith))
  where
    size : length durations ≡ 32
    size = unfold durations in refl

pub too_many : (n c : ℕ) → c < 32 → 48 < n → in_time n c ≡ Bool.false
too_many n c h l =
    let k : 49 * 25 ≤ n * duration c = mul-le-mul l (duration_least c h) in
    lt-leb (n * duration c) 1200 (omega arith)
