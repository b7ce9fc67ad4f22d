-- `duration_run` meets its contract: the keys of each arm are looked up in the table, and all others last 10 ms. Assumes nothing.
use Prim.Native.Nat.{ℕ}
use mathlib.Core.Path.{◌≡◌, refl}
use mathlib.Core.Bool.{Bool, true, ◌||◌}
use mathlib.Core.List.{List, [], ◌∷◌}
use borrow.Author.Tests.{eqb-true}
use lib.Dec.{eqb}
use mir.Val.{has_key}
use Rattle.lists.proofs.EveryLaws.{every_below, below_at}
use Rattle.framing.specs.Toc.{durations, duration}
use Rattle.packet_time.proofs.DurationLaws.{arm, skipped}
use Rattle.packet_time.proofs.duration_run.Goals as goal

abbrev shortest : List ℕ
shortest = 16 ∷ 20 ∷ 24 ∷ 28 ∷ []

abbrev short : List ℕ
short = 17 ∷ 21 ∷ 25 ∷ 29 ∷ []

abbrev usual : List ℕ
usual = 1 ∷ 5 ∷ 9 ∷ 13 ∷ 15 ∷ 19 ∷ 23 ∷ 27 ∷ 31 ∷ []

abbrev long : List ℕ
long = 2 ∷ 6 ∷ 10 ∷ []

abbrev longest : List ℕ
longest = 3 ∷ 7 ∷ 11 ∷ []

-- a configuration is a key of an arm, or the last arm's
abbrev fourth : ℕ → Bool
fourth v = has_key longest v || eqb 100 (duration v)

abbrev third : ℕ → Bool
third v = has_key long v || fourth v

abbrev second : ℕ → Bool
second v = has_key usual v || third v

abbrev first : ℕ → Bool
first v = has_key short v || second v

each : every_below (λ v. has_key shortest v || first v) 32 ≡ true
each = unfold durations in refl

pub returns-in-16 : goal.returns-in-16
returns-in-16 c = arm shortest 25 _ (unfold durations in refl) c.in-16.is

pub returns-in-17 : goal.returns-in-17
returns-in-17 c = arm short 50 _ (unfold durations in refl) c.in-17.is

pub returns-in-1 : goal.returns-in-1
returns-in-1 c = arm usual 200 _ (unfold durations in refl) c.in-1.is

pub returns-in-2 : goal.returns-in-2
returns-in-2 c = arm long 400 _ (unfold durations in refl) c.in-2.is

pub returns-in-3 : goal.returns-in-3
returns-in-3 c = arm longest 600 _ (unfold durations in refl) c.in-3.is

pub returns-in_default : goal.returns-in_default
returns-in_default c =
    let v = c.args.config in
    let o = c.in_default.in_default-own.rest in
    let e = below_at (λ n. has_key shortest n || first n) 32 each v c.requires in
    let d = skipped short v (second v) o.0.0.0.1 (skipped shortest v (first v) o.0.0.0.0.1 e) in
    let b = skipped long v (fourth v) o.0.1 (skipped usual v (third v) o.0.0.1 d) in
    eqb-true 100 (duration v) (skipped longest v (eqb 100 (duration v)) o.1 b)
