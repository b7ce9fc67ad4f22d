-- What is read off the front of some bytes. Assumes nothing.
use Rattle.std.specs.Prelude.{◌≡◌, ℕ, ◌+◌, ◌<◌, List, Option, length, take, drop, MatchOption}

-- nothing where fewer are left; else what the first bytes hold, and the rest is left
abbrev pub ReadOff : {A : Type 0} → ℕ → (List ℕ → A) → List ℕ → List ℕ → Option A → Type 0
ReadOff n holds before after result =
    MatchOption result (length before < n) (λ x. (x ≡ holds (take n before)) × (after ≡ drop n before)
    × (length after + n ≡ length before))
