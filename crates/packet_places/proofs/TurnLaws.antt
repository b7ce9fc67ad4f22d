-- A turn of the loops over the frames of a packet: what holds before it, what its code needs, what it leaves. Assumes
-- nothing.
use Prim.Native.Nat.{ℕ, suc, ◌+◌, ◌*◌, ◌≤◌, ◌<◌}
use mathlib.Core.Path.{◌≡◌, ap, ◌∙◌}
use mathlib.Core.Bool.{true}
use mathlib.Core.List.{List}
use native.Mathlib.Omega.{arith}
use lib.ListN.{set, replicate}
use Rattle.framing.specs.declared.Form.{Form}
use Rattle.framing.specs.Lengths.{widths}
use Rattle.framing.specs.Form.{sizes}
use Rattle.packet_form.specs.declared.Coded.{Coded}
use Rattle.packet_places.specs.declared.Places.{Places}
use Rattle.packet_next.specs.Inner.{length_at, Next, Sized}
use Rattle.packet_places.specs.Inner.{Spanned, Stands}
use Rattle.packet_places.proofs.PlaceLaws.{First, none_yet, one_more, all_stand}
use Rattle.packet_places.proofs.SpannedLaws.{many, start_near}

-- where the length of frame k is looked for
pub record Reads (s : List ℕ) (f : Form) (at k : ℕ) : Type 0 where
  pub written : f.varied ≡ true → k < f.count → at ≡ length_at s f k
  pub close : at ≤ 20002 + 2 * k

module _ (s : List ℕ) (f : Form) (h last : ℕ) (p : Spanned s f h last) where
  begun : Reads s f (f.own + f.lens) 0
  unfolding widths
  begun = record { written = λ v n. omega arith; close = omega (arith, p.bounds.own, p.bounds.lens) }

  next_of : (at k : ℕ) → Reads s f at k → k < f.count → Next s f last at k
  next_of at k r l =
      record { rules = p.rules; form = p.form; last = p.last; some = l; few = p.bounds.count; place = λ v. r.written v l }

read_on : (s : List ℕ) (f : Form) (at k : ℕ) (c : Coded) → Reads s f at k → Sized s f at k c → Reads s f (at + c.width) (k + 1)
read_on s f at k c r z =
    let n : suc k ≡ k + 1 = omega arith in
    record {
      written = λ v l. z.place v (omega arith) ∙ ap (λ (j : ℕ). length_at s f j) n;
      close = omega (arith, r.close, z.short);
    }

-- the first k frames stand in their places, and the length of the next is looked for where it is
pub record Turn (s : List ℕ) (f : Form) (h : ℕ) (start size : List ℕ) (at place k : ℕ) : Type 0 where
  pub first : First (sizes f s) h start size place k
  pub reads : Reads s f at k

pub turn_start : {s : List ℕ} {f : Form} {h last : ℕ} → Spanned s f h last
    → Turn s f h (replicate 12 0) (replicate 12 0) (f.own + f.lens) h 0
turn_start {s} {f} {h} {last} p = record { first = none_yet (sizes f s) h; reads = begun s f h last p }

pub turn_near : {s : List ℕ} {f : Form} {h last at place k : ℕ} {start size : List ℕ} → Spanned s f h last
    → Turn s f h start size at place k → k < 12 → (place + 1275 ≤ 31684) × (at ≤ 20024)
turn_near {s} {f} {h} {last} p t l = (omega (arith, t.first.near, start_near s f h last p), omega (arith, t.reads.close))

pub turn_next : {s : List ℕ} {f : Form} {h last at place k : ℕ} {start size : List ℕ} → Spanned s f h last
    → Turn s f h start size at place k → k < f.count → Next s f last at k
turn_next {s} {f} {h} {last} p t l = next_of s f h last p _ _ t.reads l

pub turn_more : {s : List ℕ} {f : Form} {h last at place k : ℕ} {start size : List ℕ} {c : Coded} → Spanned s f h last
    → f.count ≤ 12 → Turn s f h start size at place k → k < f.count → Sized s f at k c
    → Turn s f h (set start k place) (set size k c.value) (at + c.width) (place + c.value) (k + 1)
turn_more {s} {f} {h} {last} p few t l z =
    let m = many s f h last p in
    record {
      first =
          one_more (sizes f s) h _ _ _ _ _ t.first (omega (arith, m)) (omega (arith, m)) z.value z.small;
      reads = read_on s f _ _ _ t.reads z;
    }

pub turn_end : {s : List ℕ} {f : Form} {h last at place k : ℕ} (q : Places) → Spanned s f h last
    → Turn s f h q.start q.size at place k → f.count ≤ k → Stands (sizes f s) h q
turn_end {s} {f} {h} {last} q p t l =
    all_stand (sizes f s) h q _ _ t.first (omega (arith, many s f h last p, t.first.most))
