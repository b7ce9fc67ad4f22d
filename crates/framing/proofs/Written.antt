-- What writing leaves is laid out in order, and has the length asked for. Assumes nothing.
use Prim.Native.Nat.{ℕ, zero, suc, ◌+◌, ◌-◌, ◌*◌, ◌/◌, ◌%◌, ◌≤◌, ◌<◌}
use mathlib.Core.Path.{◌≡◌, refl, sym, ap, subst⁻¹, ◌∙◌}
use mathlib.Core.Bool.{Bool, true, ◌&&◌, not, cond}
use mathlib.Core.List.{List}
use native.Mathlib.Omega.{arith}
use native.Mathlib.Nat.{mul-le-mul_left}
use borrow.Author.Tests.{eq-eqb, ne_eqb, eqb-true, leb-true, le-leb, not-false}
use lib.Dec.{eqb, leb}
use lib.ListN.{length, replicate, length-replicate}
use Rattle.deciding.proofs.Both.{both_and, and_both}
use Rattle.deciding.proofs.Choice.{chosen, by_lt}
use Rattle.lists.specs.Every.{every}
use Rattle.lists.proofs.EveryLaws.{every_below, below_at}
use Rattle.refusals.specs.First.{first_of}
use Rattle.refusals.proofs.FirstLaws.{first_none, none_first}
use Rattle.framing.specs.Toc.{by_code, durations, duration}
use Rattle.framing.specs.Lengths.{total}
use Rattle.framing.specs.Padding.{pad_tail}
use Rattle.framing.specs.Rules.{fits_frame}
use Rattle.framing.specs.Reading.{unless}
use Rattle.framing.specs.Writing.{laid, alike, shortest_code, bare, shortest, length_for, packet_of, frames_rule, write_rule}
use Rattle.framing.specs.Inner.{Writable}
use Rattle.framing.proofs.Kept.{by_bool}
use Rattle.framing.proofs.Accepted.{passes, passed}
use Rattle.framing.proofs.Laid.{Layout, Reads, own_of, codes, codes_varied, codes_equal, laid_size, laid_reads}
use Rattle.framing.proofs.Shortest.{code_most, coded, shortest_less, shortest_three, shortest_range, bare_alike, bare_varied}

-- ---- what an accepted call is

pub writable : (len c n : ℕ) (ns : List ℕ) (l : ℕ) → write_rule len c n ns l ≡ 0 → Writable len c n ns (length_for ns l)
unfolding write_rule frames_rule
writable len c n ns l e =
    let m = length_for ns l in
    let u6 = unless (eqb n (total ns)) 6 in
    let u8 = unless (leb (shortest ns) m && leb m len) 8 in
    let u10 = unless (leb 1 (length ns) && (every fits_frame ns && leb (length ns * duration c) 1200)) 10 in
    let u11 = unless (leb c 11) 11 in
    let p1 = first_none (unless (leb len 16384) 1) (first_of u6 (first_of u8 (first_of u10 u11))) e in
    let p6 = first_none u6 (first_of u8 (first_of u10 u11)) p1.1 in
    let p8 = first_none u8 (first_of u10 u11) p6.1 in
    let p10 = first_none u10 u11 p8.1 in
    let a = and_both (leb (shortest ns) m) (leb m len) (passes _ 8 (omega arith) p8.0) in
    let b = and_both (leb 1 (length ns)) (every fits_frame ns && leb (length ns * duration c) 1200) (passes _ 10 (omega arith) p10.0) in
    let d = and_both (every fits_frame ns) (leb (length ns * duration c) 1200) b.1 in
    record {
      buffer = leb-true _ _ (passes _ 1 (omega arith) p1.0);
      bytes = eqb-true _ _ (passes _ 6 (omega arith) p6.0);
      long = leb-true _ _ a.0;
      room = leb-true _ _ a.1;
      some = leb-true _ _ b.0;
      small = d.0;
      time = leb-true _ _ d.1;
      config = leb-true _ _ (passes _ 11 (omega arith) p10.1);
    }

pub accepts : (len c n : ℕ) (ns : List ℕ) (l : ℕ) → Writable len c n ns (length_for ns l) → write_rule len c n ns l ≡ 0
unfolding write_rule frames_rule
accepts len c n ns l w =
    none_first _ _ (passed (leb len 16384) 1 (le-leb _ _ w.buffer))
    (none_first _ _ (passed (eqb n (total ns)) 6 (eq-eqb _ _ w.bytes))
    (none_first _ _ (passed (leb (shortest ns) (length_for ns l) && leb (length_for ns l) len) 8
    (both_and _ _ (le-leb _ _ w.long) (le-leb _ _ w.room)))
    (none_first _ _
    (passed (leb 1 (length ns) && (every fits_frame ns && leb (length ns * duration c) 1200)) 10
    (both_and _ _ (le-leb _ _ w.some) (both_and _ _ w.small (le-leb _ _ w.time))))
    (passed (leb c 11) 11 (le-leb _ _ w.config)))))

-- a speech frame lasts at least 10 ms, so there are at most twelve
pub duration_least : (c : ℕ) → c ≤ 11 → 100 ≤ duration c
duration_least c h = leb-true _ _ (below_at (λ n. leb 100 (duration n)) 12 all c (omega arith))
  where
    all : every_below (λ n. leb 100 (duration n)) 12 ≡ true
    all = unfold durations in refl

pub at_most_twelve : (m c : ℕ) → c ≤ 11 → m * duration c ≤ 1200 → m ≤ 12
at_most_twelve m c h l = omega (arith, mul-le-mul_left m (duration_least c h))

-- ---- the layout

module _ (len c : ℕ) (frames ns : List ℕ) (m : ℕ) (w : Writable len c (length frames) ns m) where
  abbrev code : ℕ
  code = cond (eqb m (shortest ns)) (shortest_code ns) 3

  abbrev pub toc : ℕ
  toc = 8 * c + code

  abbrev pub pads : ℕ
  pads = m - (2 + bare ns)

  abbrev pub varied : Bool
  varied = not (alike ns)

  abbrev pub ending : List ℕ
  ending = replicate (pad_tail pads) 0

  code_less : code < 4
  code_less = chosen (λ (n : ℕ). n < 4) (eqb m (shortest ns)) (λ e. omega (arith, code_most ns)) (λ e. omega arith)

  toc_code : toc % 4 ≡ code
  toc_code = omega (arith, code_less)

  pub toc_config : toc / 8 ≡ c
  toc_config = omega (arith, code_less)

  pub toc_mono : toc / 4 % 2 ≡ 0
  toc_mono = let e : toc / 4 ≡ 2 * c = omega (arith, code_less) in ap (λ (n : ℕ). n % 2) e ∙ omega arith

  -- a code below 3 is the shortest packet's
  below : (j : ℕ) → j < 3 → toc % 4 ≡ j → (shortest_code ns ≡ j) × (pads ≡ 0)
  below j h e =
      by_bool (eqb m (shortest ns))
      (λ q.
      let d : shortest_code ns ≡ j = sym (ap (λ (b : Bool). cond b (shortest_code ns) 3) q) ∙ sym toc_code ∙ e in
      (d, omega (arith, eqb-true m (shortest ns) q, (shortest_range ns).1)))
      (λ q. let d : 3 ≡ j = sym (ap (λ (b : Bool). cond b (shortest_code ns) 3) q) ∙ sym toc_code ∙ e in absurd (omega arith))

  pub layout : Layout toc varied pads ns frames ending
  layout =
      record {
        some = w.some;
        few = omega (arith, at_most_twelve (length ns) c w.config w.time);
        time = subst⁻¹ (λ (x : ℕ). length ns * duration x ≤ 1200) toc_config w.time;
        small = w.small;
        equal = λ e. not-false (alike ns) e;
        bytes = w.bytes;
        ending = length-replicate (pad_tail pads) 0;
        one = λ e. let b = below 0 (omega arith) e in let d = (coded ns).one b.0 in (d.0, ap not d.1, b.1);
        pair = λ e. let b = below 1 (omega arith) e in let d = (coded ns).pair b.0 in (d.0, ap not d.1, b.1);
        two = λ e. let b = below 2 (omega arith) e in let d = (coded ns).two b.0 in (d.0, ap not d.1, b.1);
      }

  packet_is : packet_of c ns frames m ≡ laid toc varied pads ns frames ending
  unfolding packet_of
  packet_is = refl

  -- ---- its length

  codes_size : length (codes toc varied pads ns frames ending layout) + total ns ≡ bare ns
  codes_size =
      by_bool (alike ns)
      (λ e. omega (arith, ap length (codes_equal toc varied pads ns frames ending layout (ap not e)), bare_alike ns e))
      (λ e. omega (arith, ap length (codes_varied toc varied pads ns frames ending layout (ap not e)), bare_varied ns e))

  own_is : own_of toc ≡ by_code code 1 1 1 2
  own_is = ap (λ (n : ℕ). by_code n 1 1 1 2) toc_code

  own_less : shortest_code ns < 3 → m ≡ shortest ns → own_of toc ≡ 1
  own_less h e = own_is ∙ ap (λ (b : Bool). by_code (cond b (shortest_code ns) 3) 1 1 1 2) (eq-eqb m (shortest ns) e)
      ∙ go (shortest_code ns) h
    where
      go : (n : ℕ) → n < 3 → ◌≡◌ {A = ℕ} (by_code n 1 1 1 2) 1
      go zero h = refl
      go (suc zero) h = refl
      go (suc (suc zero)) h = refl
      go (suc (suc (suc n))) h = absurd (omega arith)

  own_three : 3 ≤ shortest_code ns → own_of toc ≡ 2
  own_three h =
      let z : code ≡ 3 = chosen (λ (n : ℕ). n ≡ 3) (eqb m (shortest ns)) (λ e. omega (arith, code_most ns)) (λ e. refl) in
      own_is ∙ ap (λ (n : ℕ). by_code n 1 1 1 2) z

  own_longer : (m ≡ shortest ns → ⊥) → own_of toc ≡ 2
  own_longer h = own_is ∙ ap (λ (b : Bool). by_code (cond b (shortest_code ns) 3) 1 1 1 2) (ne_eqb m (shortest ns) h)

  size : own_of toc + pads + bare ns ≡ m
  size =
      by_lt (shortest ns) m
      (λ h. let o : own_of toc ≡ 2 = own_longer (λ e. omega arith) in omega (arith, (shortest_range ns).0))
      (λ h.
      let e : m ≡ shortest ns = omega (arith, w.long) in
      by_lt (shortest_code ns) 3
      (λ l. let o : own_of toc ≡ 1 = own_less l e in omega (arith, shortest_less ns l))
      (λ l. let o : own_of toc ≡ 2 = own_three l in omega (arith, shortest_three ns l)))

  pub packet_length : length (packet_of c ns frames m) ≡ m
  packet_length = ap length packet_is ∙ omega (arith, laid_size toc varied pads ns frames ending layout, codes_size, size)

  pub packet_reads : Reads (packet_of c ns frames m) toc pads ns frames
  packet_reads = subst⁻¹ (λ (s : List ℕ). Reads s toc pads ns frames) packet_is (laid_reads toc varied pads ns frames ending layout)
