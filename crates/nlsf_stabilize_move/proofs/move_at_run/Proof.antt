-- `move_at_run` meets its contract. Assumes nothing.
use Prim.Native.Nat.{ℕ, ◌+◌, ◌-◌, ◌<◌}
use mathlib.Core.Path.{◌≡◌, sym, ap, ◌∙◌}
use mathlib.Core.List.{List}
use native.Mathlib.Omega.{arith}
use borrow.Author.Rules.{rules, sfits_of}
use lib.IntN.{ℤ, ◌+ℤ◌, ◌-ℤ◌}
use lib.ListN.{length, length-set}
use mir.Syntax.{w16, w32}
use mir.Val.{SFits, to_z, of_z}
use mir.Facts.{to_z-of_z}
use Rattle.ints.proofs.Widths.{parts_fit}
use Rattle.spectrum.proofs.MoveBounds.{good_at}
use Rattle.spectrum.proofs.Widened.{wide}
use Rattle.spectrum.specs.Distances.{new_low}
use Rattle.spectrum.specs.Inner.{capped}
use Rattle.spectrum.specs.Values.{Mag, at, top}
use Rattle.nlsf_stabilize_slack.proofs.HeldLaws.{slack_near, as_long}
use Rattle.nlsf_stabilize_slack.specs.Inner.{Held}
use Rattle.nlsf_stabilize_move.proofs.MoveLaws.{moved_first, last_value, last_bounds, moved_last}
use Rattle.nlsf_stabilize_move.proofs.MoveLaws.{low_value, bounds, high_near, moved_pair}
use Rattle.nlsf_stabilize_move.specs.Inner.{odd, meeting}
use Rattle.nlsf_stabilize_move.proofs.move_at_run.Statement.{statement}
use Rattle.nlsf_stabilize_move.proofs.move_at_run.Tie as tie

-- the values that are held at the start
abbrev values : tie.Start → List ℤ
values s = s.requires.0.values

held : (s : tie.Start) → Held s.args.g.now (values s) s.args.v.now s.args.w.now s.args.s.now
held s = s.requires.0.held

same_long : (s : tie.Start) → length s.args.v.now ≡ length (values s)
same_long s = as_long _ _ _ _ _ (held s)

-- ---- the first value

returns : tie.Need-returns-then-i-eq0
returns c u h =
    let s = c.before.before in
    let k : SFits w16 (at s.args.g.now 0) = sfits_of c.v-1.given in
    rw (to_z-of_z k) (moved_first _ _ _ _ _ h s.args.i c.if-i-eq0.true)

slice_set_from_v : tie.Need-bounds-v-0
slice_set_from_v c = let s = c.before.before in omega (arith, same_long s, (held s).some)

-- ---- past the first test: the room that is read there, and the place

module _ (c : tie.After-room-1) where
  abbrev start : tie.Start
  start = c.before.before

  abbrev place : ℕ
  place = start.args.i

  some : 0 < place
  some = omega (arith, c.if-i-eq0.false)

  room_fits : SFits w32 (at start.args.w.now 17)
  room_fits = sfits_of c.room-1.given

-- ---- the last

-- the place is the order
last : (c : tie.Then-i-v) → let s = start c.before in s.args.i ≡ length (values s)
last c = c.if-i-v.true ∙ same_long (start c.before)

last_fits : (c : tie.Then-i-v) → let s = start c.before in SFits w16 (top -ℤ at s.args.g.now s.args.i)
last_fits c =
    let s = start c.before in
    let z = top -ℤ at s.args.g.now s.args.i in
    let b = last_bounds _ _ _ _ _ (held s) s.args.i (last c) in parts_fit z (omega (arith, b.1)) (omega (arith, b.0))

element_set_from_room : tie.Need-bounds-w-i
element_set_from_room c = omega (arith, last c, (held (start c.before)).few)

element_copy_out_v : tie.Need-bounds-s-i
element_copy_out_v c = omega (arith, last c, (held (start c.before)).few)

-- what is stored, over the numbers themselves
stored_last : (c : tie.After-v-then-i-v-1) → let s = start c.before.before in
    to_z w32 (of_z w32 (at s.args.w.now 17)) +ℤ to_z w32 (of_z w32 (at s.args.s.now s.args.i))
    ≡ top -ℤ at s.args.g.now s.args.i
stored_last c =
    let t = c.before in
    let s = start t.before in
    let l : SFits w32 (at s.args.s.now s.args.i) = sfits_of c.v-then-i-v-1.given in
    rw (to_z-of_z (room_fits t.before), to_z-of_z l) (last_value _ _ _ _ _ (held s) s.args.i (last t))

add_v : tie.Need-overflow_add-v
add_v c = rw (stored_last c) (wide (last_fits c.before))

cast_v : tie.Need-overflow_cast-v
cast_v c = let f = last_fits c.before in rw (stored_last c, to_z-of_z (wide f)) f

returns_2 : tie.Need-returns-then-i-v
returns_2 c u h =
    let t = c.before in
    let s = start t.before in
    let f = last_fits t in
    rw (stored_last c, to_z-of_z (wide f), to_z-of_z f, to_z-of_z (room_fits t.before))
    (moved_last _ _ _ _ _ h s.args.i (some t.before) (t.if-i-v.true ∙ as_long _ _ _ _ _ h))

-- ---- a pair

inside : (c : tie.Else-i-v) → place c.before < length (values (start c.before))
inside c = let s = start c.before in omega (arith, same_long s, s.requires.1, c.if-i-v.false)

meet_at_requires : tie.Need-meet_at-m-requires
meet_at_requires t κs =
    let s = start t.before in
    let h = held s in
    rw (to_z-of_z (room_fits t.before)) (
      ((h.slacks, slack_near _ _ _ _ _ h), slack_near _ _ _ _ _ h 17),
      (
        omega (arith, inside t, h.few),
        (omega (arith, inside t, h.long), (good_at s.args.g.now h.rule.good s.args.i).0),
      ),
    )

-- where the pair meets
abbrev pair : tie.After-meet_at-m → tie.Else-i-v
pair c = c.before

abbrev begin : tie.After-meet_at-m → tie.Start
begin c = start (pair c).before

met_fits : (c : tie.After-meet_at-m) → SFits w32 c.meet_at-m.result
met_fits c = sfits_of c.meet_at-m.type_inv

met_is : (c : tie.After-meet_at-m) → let s = begin c in let w = s.args.w.now in let i = s.args.i in
    c.meet_at-m.result ≡ meeting (at w i) (at w (i + 1)) (odd (at s.args.g.now i)) (at w 17)
met_is c = rw (to_z-of_z (room_fits (pair c).before)) at c.meet_at-m.ensures

element_set_from_m : tie.Need-bounds-w-i-2
element_set_from_m c = omega (arith, inside (pair c), (held (begin c)).few)

element_set_from_m_2 : tie.Need-bounds-w-i-3
element_set_from_m_2 c = omega (arith, inside (pair c), (held (begin c)).few)

element_copy_out_low : tie.Need-bounds-s-i-2
element_copy_out_low c = omega (arith, inside (pair c), (held (begin c)).few)

-- the lower value, over the numbers themselves, whatever values are held
low_is : (c : tie.After-low-1) (u : List ℤ) → let s = begin c.before in
    Held s.args.g.now u s.args.v.now s.args.w.now s.args.s.now
    → to_z w32 (of_z w32 c.meet_at-m.result) +ℤ to_z w32 (of_z w32 (at s.args.s.now s.args.i))
    ≡ new_low s.args.g.now s.args.i (at u (s.args.i - 1)) (at u s.args.i)
low_is c u h =
    let b = c.before in
    let s = begin b in
    let l : SFits w32 (at s.args.s.now s.args.i) = sfits_of c.low-1.given in
    rw (to_z-of_z (met_fits b), to_z-of_z l)
    (ap (λ (x : ℤ). x +ℤ at s.args.s.now s.args.i) (met_is b)
    ∙ low_value _ _ _ _ _ h s.args.i (some (pair b).before) (omega (arith, inside (pair b), same_long s, as_long _ _ _ _ _ h)))

-- it lies in 0 .. 32,767, and the one behind the gap reaches 32,768
abbrev low : tie.After-low-1 → ℤ
low c = let s = begin c.before in new_low s.args.g.now s.args.i (at (values s) (s.args.i - 1)) (at (values s) s.args.i)

low_fits : (c : tie.After-low-1) → SFits w16 (low c)
low_fits c =
    let t = pair c.before in
    let s = begin c.before in
    let b = bounds _ _ _ _ _ (held s) s.args.i (some t.before) (inside t) in
    parts_fit (low c) (omega (arith, b.low)) (omega (arith, b.low0))

high_most : (c : tie.After-low-1) → let s = begin c.before in Mag 32768 (low c +ℤ at s.args.g.now s.args.i)
high_most c =
    let t = pair c.before in
    let s = begin c.before in high_near _ _ _ _ _ (held s) s.args.i (some t.before) (inside t)

high_fits : (c : tie.After-low-1) → let s = begin c.before in SFits w32 (low c +ℤ at s.args.g.now s.args.i)
high_fits c = let m = high_most c in parts_fit _ (omega (arith, m.0)) (omega (arith, m.1))

held_low : (c : tie.After-low-1) → let s = begin c.before in
    to_z w32 (of_z w32 c.meet_at-m.result) +ℤ to_z w32 (of_z w32 (at s.args.s.now s.args.i)) ≡ low c
held_low c = let s = begin c.before in low_is c (values s) (held s)

add_low : tie.Need-overflow_add-low
add_low c = rw (held_low c) (wide (low_fits c))

cast_v_2 : tie.Need-overflow_cast-v-2
cast_v_2 c = rw (held_low c, to_z-of_z (wide (low_fits c))) (low_fits c)

shared_slice_copy_out_cap : tie.Need-bounds-g-i
shared_slice_copy_out_cap c = omega (arith, inside (pair c.before), (held (begin c.before)).long)

-- the gap, read once more
gap_fits : (c : tie.After-cap-arg-1) → let s = begin c.before.before in SFits w16 (at s.args.g.now s.args.i)
gap_fits c = sfits_of c.cap-arg-1.given

cast_cap : tie.Need-overflow_cast-g
cast_cap c = rw (to_z-of_z (gap_fits c)) (wide (gap_fits c))

add_cap : tie.Need-overflow_add-low-2
add_cap c =
    let d = c.before in
    rw (held_low d, to_z-of_z (wide (low_fits d)), to_z-of_z (gap_fits c), to_z-of_z (wide (gap_fits c))) (high_fits d)

cap_requires : tie.Need-cap-requires
cap_requires c κs =
    let d = c.before in
    rw (held_low d, to_z-of_z (wide (low_fits d)), to_z-of_z (gap_fits c), to_z-of_z (wide (gap_fits c)), to_z-of_z (high_fits d)) (high_most d)

slice_set_from_v_4 : tie.Need-bounds-v-i-3
slice_set_from_v_4 c =
    let b = c.before.before.before in rw length-set (omega (arith, inside (pair b), same_long (begin b)))

returns_3 : tie.Need-returns
returns_3 c u h =
    let a = c.before in
    let d = a.before in
    let b = d.before in
    let s = begin b in
    let g = s.args.g.now in
    let i = s.args.i in
    let f : SFits w16 c.cap.result = sfits_of c.cap.type_inv in
    let k = gap_fits a in
    let e : c.cap.result ≡ capped (low d +ℤ at g i) =
    rw (held_low d, to_z-of_z (wide (low_fits d)), to_z-of_z k, to_z-of_z (wide k), to_z-of_z (high_fits d)) at c.cap.ensures in
    let n : i < length u = omega (arith, inside (pair b), same_long s, as_long _ _ _ _ _ h) in
    rw (held_low d, to_z-of_z (wide (low_fits d)), to_z-of_z (low_fits d), to_z-of_z f, e, to_z-of_z (met_fits b))
    (moved_pair _ _ _ _ _ h i (some (pair b).before) n b.meet_at-m.result (low d) (met_is b) (sym (held_low d) ∙ low_is d u h))

pub move_at_run_spec : {M : Type 1} → statement M
move_at_run_spec =
    tie.close
    (tie.spec
    (λ c. search rules)
    (λ c. search rules)
    slice_set_from_v
    (λ c. search rules)
    returns
    (λ c. search rules)
    (λ c. search rules)
    element_set_from_room
    (λ c. search rules)
    element_copy_out_v
    add_v
    cast_v
    (λ c. search rules)
    (λ c. search rules)
    (λ c. search rules)
    (λ c. search rules)
    returns_2
    meet_at_requires
    (λ c. search rules)
    element_set_from_m
    (λ c. search rules)
    (λ c. search rules)
    element_set_from_m_2
    (λ c. search rules)
    element_copy_out_low
    add_low
    cast_v_2
    (λ c. search rules)
    (λ c. search rules)
    (λ c. search rules)
    (λ c. search rules)
    shared_slice_copy_out_cap
    cast_cap
    add_cap
    cap_requires
    (λ c. search rules)
    slice_set_from_v_4
    (λ c. search rules)
    returns_3)
