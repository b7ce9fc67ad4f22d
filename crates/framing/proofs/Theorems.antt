-- The theorems on whole packets (`specs/Statement`). Assumes nothing.
use Prim.Native.Nat.{ℕ, ◌+◌, ◌*◌, ◌≤◌}
use mathlib.Core.Path.{◌≡◌, refl, sym, ap, subst⁻¹, ◌∙◌}
use mathlib.Core.Bool.{Bool, true, cond}
use mathlib.Core.List.{List, [], ◌∷◌, ◌++◌, map}
use native.Mathlib.Omega.{arith}
use borrow.Author.Tests.{ne_eqb, eqb-true}
use lib.Dec.{eqb}
use lib.ListN.{length, get_or, take, drop, length-drop}
use lib.Seq.{take_at, drop_at, length-take-le}
use Rattle.deciding.proofs.Choice.{chosen}
use Rattle.lists.specs.AtMost.{AtMost}
use Rattle.framing.specs.declared.Packet.{Packet}
use Rattle.framing.specs.Toc.{config_of, duration}
use Rattle.framing.specs.Lengths.{total}
use Rattle.framing.specs.Form.{form_of, sizes_of, head_of, cut, frames_of}
use Rattle.framing.specs.Rules.{keeps, count_of}
use Rattle.framing.specs.Reading.{read_rule, starts, accepted, packet_read}
use Rattle.framing.specs.Writing.{shortest, length_for, packet_of, write_rule, Wrote, packet_write}
use Rattle.framing.specs.Statement.{LengthsReadBack, Taken, left, ReadsBack, WrittenReadsBack, start_at, size_at, PartsPlaced, NoneShorter, bytes_of, again, ReadWritesAgain}
use Rattle.framing.specs.Inner.{Writable}
use Rattle.framing.proofs.LengthLaws.{length_back, width_back, code_one, code_two, code_bytes}
use Rattle.framing.proofs.Kept.{kept}
use Rattle.framing.proofs.Whole.{parts, cut_count, sizes_count, whole}
use Rattle.framing.proofs.Laid.{cut_more}
use Rattle.framing.proofs.Again.{is_laid, in_order, body_tail}
use Rattle.framing.proofs.Shortest.{shortest_least, shortest_range}
use Rattle.framing.proofs.Written.{writable, accepts, at_most_twelve, toc_config, toc_mono, packet_length, packet_reads}
use Rattle.framing.proofs.Accepted.{Readable, readable, reads, rule_zero, answer_is, twelve_at}

-- ---- lengths

pub lengths_read_back : LengthsReadBack
lengths_read_back n r h =
    record { value = length_back n r; width = width_back n r; bytes = code_bytes n h; one = code_one n; two = code_two n }

-- ---- the parts of an accepted packet

pub parts_placed : PartsPlaced
unfolding accepted
parts_placed s e =
    let z = rule_zero s e in
    let r = readable s z in
    let a : packet_read s ≡ accepted s = answer_is s z in
    let p = parts s r.rules in
    let k = kept s r.rules in
    let c : (packet_read s).count ≡ count_of s = ap (λ (q : Packet). q.count) a ∙ p.many in
    let st : (i : ℕ) → start_at s i ≡ get_or (starts (head_of s) (sizes_of s)) i 0 =
    λ i. ap (λ (q : Packet). get_or q.start i 0) a ∙ twelve_at (starts (head_of s) (sizes_of s)) i in
    let sz : (i : ℕ) → size_at s i ≡ get_or (sizes_of s) i 0 = λ i. ap (λ (q : Packet). get_or q.size i 0) a ∙ twelve_at (sizes_of s) i in
    record {
      some = omega (arith, c, k.some);
      few = omega (arith, c, at_most_twelve (count_of s) (config_of s) r.config k.time);
      many = cut_count (sizes_of s) (drop (head_of s) s) ∙ p.many ∙ sym c;
      inside = λ i h. omega (arith, st i, sz i, p.inside i (omega arith));
      order = λ i j h l. omega (arith, st i, sz i, st j, p.order i j h (omega arith));
      short = λ i h. omega (arith, sz i, p.most i (omega arith));
      part = λ i h. p.part i (omega arith) ∙ ap (λ (n : ℕ). take n (drop (get_or (starts (head_of s) (sizes_of s)) i 0) s)) (sym (sz i))
          ∙ ap (λ (n : ℕ). take (size_at s i) (drop n s)) (sym (st i));
    }

-- ---- what was written reads back

-- what an accepted call leaves and answers
wrote : List ℕ → ℕ → List ℕ → List ℕ → ℕ → Wrote
wrote buf c bytes ns m = record { buf = packet_of c ns bytes m ++ drop m buf; answer = record { refusal = 0; length = m } }

rule_taken : (buf : List ℕ) (c : ℕ) (bytes ns : List ℕ) (l : ℕ) → Taken (packet_write buf c bytes ns l)
    → write_rule (length buf) c (length bytes) ns l ≡ 0
unfolding packet_write
rule_taken buf c bytes ns l =
    let n = write_rule (length buf) c (length bytes) ns l in
    chosen (λ (w : Wrote). w.answer.refusal ≡ 0 → n ≡ 0) (eqb n 0) (λ t e. eqb-true n 0 t) (λ t e. e)

taken_wrote : (buf : List ℕ) (c : ℕ) (bytes ns : List ℕ) (l : ℕ) → write_rule (length buf) c (length bytes) ns l ≡ 0
    → packet_write buf c bytes ns l ≡ wrote buf c bytes ns (length_for ns l)
unfolding packet_write wrote
taken_wrote buf c bytes ns l e = rw e

module _ (buf : List ℕ) (c : ℕ) (bytes ns : List ℕ) (m : ℕ) (w : Writable (length buf) c (length bytes) ns m) where
  p : List ℕ
  p = packet_of c ns bytes m

  left_is : left (wrote buf c bytes ns m) ≡ p
  unfolding wrote p
  left_is = take_at (packet_of c ns bytes m) (drop m buf) m (packet_length (length buf) c bytes ns m w)

  p_length : length p ≡ m
  unfolding p
  p_length = packet_length (length buf) c bytes ns m w

  p_reads : Readable p × (config_of p ≡ c) × (sizes_of p ≡ ns) × (frames_of p ≡ cut ns bytes)
  unfolding p
  p_reads =
      let r = packet_reads (length buf) c bytes ns m w in
      let d : config_of (packet_of c ns bytes m) ≡ c = r.config ∙ toc_config (length buf) c bytes ns m w in (
        record {
          short = omega (arith, packet_length (length buf) c bytes ns m w, w.room, w.buffer);
          rules = r.rules;
          config = omega (arith, d, w.config);
          mono = r.stereo ∙ toc_mono (length buf) c bytes ns m w;
        },
        d,
        r.sizes,
        r.frames,
      )

  back_wrote : (l : ℕ) → length_for ns l ≡ m → ReadsBack buf c bytes ns l (wrote buf c bytes ns m)
  unfolding accepted wrote
  back_wrote l e =
      let r = p_reads in
      let z : read_rule p ≡ 0 = reads p r.0 in
      let a : packet_read p ≡ accepted p = answer_is p z in
      record {
        size = sym e;
        whole = ap length left_is ∙ p_length ∙ sym e;
        rest = rw e (drop_at (packet_of c ns bytes m) (drop m buf) m (packet_length (length buf) c bytes ns m w));
        accepted = ap (λ (s : List ℕ). (packet_read s).refusal) left_is ∙ ap (λ (q : Packet). q.refusal) a;
        config = ap (λ (s : List ℕ). (packet_read s).config) left_is ∙ ap (λ (q : Packet). q.config) a ∙ r.1;
        count = ap (λ (s : List ℕ). (packet_read s).count) left_is ∙ ap (λ (q : Packet). q.count) a ∙ ap length r.2;
        frames = ap frames_of left_is ∙ r.3;
      }

pub written_reads_back : WrittenReadsBack
written_reads_back buf c bytes ns l e =
    let z = rule_taken buf c bytes ns l e in
    subst⁻¹ (λ (w : Wrote). ReadsBack buf c bytes ns l w) (taken_wrote buf c bytes ns l z)
    (back_wrote buf c bytes ns (length_for ns l) (writable (length buf) c (length bytes) ns l z) l refl)

-- ---- the shortest is shortest

cut_sizes : (ns r : List ℕ) → total ns ≤ length r → map length (cut ns r) ≡ ns
unfolding cut total
cut_sizes [] r h = refl
cut_sizes (n ∷ ns) r h =
    ap (λ (m : ℕ). m ∷ map length (cut ns (drop n r))) (length-take-le n r (omega arith))
    ∙ ap (λ (l : List ℕ). n ∷ l) (cut_sizes ns (drop n r) (omega (arith, length-drop n r)))

-- the sizes are the frames'
pub sizes_are : (s : List ℕ) → keeps s ≡ true → map length (frames_of s) ≡ sizes_of s
sizes_are s e = cut_sizes (sizes_of s) (drop (head_of s) s) (omega (arith, whole (form_of s) s (kept s e), length-drop (head_of s) s))

pub shortest_of : (s : List ℕ) → AtMost 255 s → keeps s ≡ true → shortest (sizes_of s) ≤ length s
shortest_of s y e =
    let k = shortest_least (get_or s 0 0) _ _ (sizes_of s) _ _ (in_order s y e) in
    subst⁻¹ (λ (l : List ℕ). shortest (sizes_of s) ≤ length l) (is_laid s y e) k

pub none_shorter : NoneShorter
none_shorter buf c bytes ns s t y a f =
    let z = rule_taken buf c bytes ns 0 t in
    let w = writable (length buf) c (length bytes) ns 0 z in
    let r = readable s (rule_zero s a) in
    let e : sizes_of s ≡ ns =
    sym (sizes_are s r.rules) ∙ ap (λ (l : List (List ℕ)). map length l) f ∙ cut_sizes ns bytes (omega (arith, w.bytes)) in
    let q : (packet_write buf c bytes ns 0).answer.length ≡ shortest ns = (written_reads_back buf c bytes ns 0 t).size in
    omega (arith, q, ap shortest e, shortest_of s y r.rules)

-- ---- what was read can be written again

bytes_many : (s : List ℕ) → keeps s ≡ true → length (bytes_of s) ≡ total (sizes_of s)
bytes_many s e =
    length-take-le (total (sizes_of s)) (drop (head_of s) s) (omega (arith, whole (form_of s) s (kept s e), length-drop (head_of s) s))

same_frames : (s : List ℕ) (y : AtMost 255 s) (e : keeps s ≡ true) → cut (sizes_of s) (bytes_of s) ≡ frames_of s
same_frames s y e =
    sym (cut_more (sizes_of s) (bytes_of s) (drop (head_of s + total (sizes_of s)) s) (omega (arith, bytes_many s e)))
    ∙ ap (λ (l : List ℕ). cut (sizes_of s) l) (sym (body_tail s y e))

taken_again : (buf s : List ℕ) → write_rule (length buf) (packet_read s).config (length (bytes_of s)) (sizes_of s) (length s) ≡ 0
    → again buf s ≡ wrote buf (packet_read s).config (bytes_of s) (sizes_of s) (length_for (sizes_of s) (length s))
taken_again buf s e = taken_wrote buf (packet_read s).config (bytes_of s) (sizes_of s) (length s) e

pub read_writes_again : ReadWritesAgain
unfolding accepted wrote
read_writes_again buf s y a h b =
    let z = rule_zero s a in
    let r = readable s z in
    let k = kept s r.rules in
    let ns = sizes_of s in
    let c = (packet_read s).config in
    let g : c ≡ config_of s = ap (λ (q : Packet). q.config) (answer_is s z) in
    let m : length ns ≡ count_of s = sizes_count (form_of s) s k in
    let q : shortest ns ≤ length s = shortest_of s y r.rules in
    let o : length_for ns (length s) ≡ length s =
    ap (λ (t : Bool). cond t (shortest ns) (length s)) (ne_eqb (length s) 0 (λ i. omega (arith, (shortest_range ns).0))) in
    let w : Writable (length buf) c (length (bytes_of s)) ns (length_for ns (length s)) =
    record {
      buffer = b;
      bytes = bytes_many s r.rules;
      long = omega (arith, o);
      room = omega (arith, o);
      some = omega (arith, m, k.some);
      small = k.small;
      time = subst⁻¹ (λ (x : ℕ). length ns * duration x ≤ 1200) g (subst⁻¹ (λ (x : ℕ). x * duration (config_of s) ≤ 1200) m k.time);
      config = omega (arith, g, r.config);
    } in
    let v : Taken (again buf s) = ap (λ (x : Wrote). x.answer.refusal)
    (taken_again buf s (accepts (length buf) c (length (bytes_of s)) ns (length s) w)) in
    let x = written_reads_back buf c (bytes_of s) ns (length s) v in
    record {
      taken = v;
      size = x.whole ∙ o;
      accepted = x.accepted;
      config = x.config;
      frames = x.frames ∙ same_frames s y r.rules;
    }
