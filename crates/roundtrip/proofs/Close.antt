-- Closing the buffer: the middle cleared, the left-over bits in a free byte or in the spare bits of the last coded byte. The front's number stays, but
-- for the spare bits, and the raw bits are the buffer's low end. Part 9 of the argument. Assumes nothing.
use Prim.Native.Nat.{ℕ, suc, ◌+◌, ◌-◌, ◌*◌, ◌/◌, ◌%◌, ◌^◌, ◌≤◌, ◌<◌}
use mathlib.Core.Path.{◌≡◌, refl, sym, ap, ap₂, ◌∙◌, subst}
use mathlib.Core.Bool.{false, ◌&&◌}
use mathlib.Core.List.{List, ◌++◌, append_assoc}
use native.Mathlib.Omega.{arith}
use native.Mathlib.Nat.{mul-sub, mul_assoc, mul_comm}
use borrow.Author.Tests.{ltb-true, ltb-false, leb-true, le-leb, eqb-true, eqb-false, ne_eqb}
use lib.Bits.{bit_or, or_zero_l, or_shifted}
use lib.Dec.{eqb, leb, ltb}
use lib.ListN.{length, get_or, take, drop, set, replicate, length-append, length-set, length-replicate, length-drop, get_or-replicate, get_or-append}
use lib.Pow.{pow_pos, pow_mono}
use lib.Seq.{take_at, drop_at, take-set-le, drop-set-lt, get_or-set_same, get_or-set_other, get_or-append-add, length-take-le}
use Rattle.deciding.proofs.Both.{and_both}
use Rattle.deciding.proofs.Choice.{by_lt, chosen, chosen_lt}
use Rattle.entcode.specs.Room.{Room}
use Rattle.entcode.specs.Tail.{Tail}
use Rattle.entcode.specs.Finish.{clear, or_last, close}
use Rattle.roundtrip.proofs.Digits.{number, prefix, prefix_take, prefix_split, prefix_same, pow_split}
use Rattle.roundtrip.proofs.Back.{tail_number, back_bytes}

-- the closed buffer b of a tail t, where E, a multiple of 2^j, is the number of its coded bytes
pub record Closed (t : Tail) (j E : ℕ) (b : List ℕ) : Type 0 where
  pub len : length b ≡ length t.room.buf
  pub front : (E ≤ prefix b t.room.offs) × (prefix b t.room.offs < E + 2 ^ j)
  pub above : ℕ
  pub back : prefix b (length b) ≡ tail_number t above
  pub free : (i : ℕ) → t.room.offs ≤ i → i + t.room.end + (t.used + 7) / 8 < length t.room.buf → get_or b i 0 ≡ 0

-- a room with the old offsets and length
pub record Placed (r q : Room) : Type 0 where
  pub offs : q.offs ≡ r.offs
  pub end : q.end ≡ r.end
  pub len : length q.buf ≡ length r.buf

-- ---- the middle cleared

get_d_middle : (x z y : List ℕ) (k : ℕ) → k < length z → get_or (x ++ (z ++ y)) (length x + k) 0 ≡ get_or z k 0
get_d_middle x z y k h = get_or-append-add x (z ++ y) k 0 ∙ get_or-append z y 0 k h

module _ (r : Room) (fit : r.offs + r.end ≤ length r.buf) where
  front_length : length (take r.offs r.buf) ≡ r.offs
  front_length = length-take-le r.offs r.buf (omega arith)

  clear_length : length (clear r).buf ≡ length r.buf
  clear_length =
      let z : List ℕ = replicate (length r.buf - r.end - r.offs) 0 in
      let e = drop (length r.buf - r.end) r.buf in
      length-append (take r.offs r.buf) (z ++ e)
      ∙ (rw (front_length, length-append z e, length-replicate, length-drop (length r.buf - r.end) r.buf) (omega arith))

  clear_front : take r.offs (clear r).buf ≡ take r.offs r.buf
  clear_front = take_at (take r.offs r.buf) _ r.offs front_length

  clear_back : drop (length r.buf - r.end) (clear r).buf ≡ back_bytes r
  clear_back =
      let f = take r.offs r.buf in
      let z : List ℕ = replicate (length r.buf - r.end - r.offs) 0 in
      ap (λ (x : List ℕ). drop (length r.buf - r.end) x) (sym (append_assoc f z (back_bytes r)))
      ∙ drop_at (f ++ z) _ (length r.buf - r.end) (length-append f z ∙ (rw (front_length, length-replicate) (omega arith)))

  -- a byte between front and back is 0
  clear_free : (i : ℕ) → r.offs ≤ i → i < length r.buf - r.end → get_or (clear r).buf i 0 ≡ 0
  clear_free i a c =
      let z : ℕ = length r.buf - r.end - r.offs in
      let e : i ≡ length (take r.offs r.buf) + (i - r.offs) = rw front_length (omega arith) in
      let l : i - r.offs < length (replicate {A = ℕ} z 0) = rw length-replicate (omega arith) in
      rw e (get_d_middle (take r.offs r.buf) (replicate z 0) (back_bytes r) (i - r.offs) l ∙ get_or-replicate z (i - r.offs) 0 0 (omega arith))

-- ---- a byte y set at i, before the back of e bytes

last_number : (c : List ℕ) (n e i y : ℕ) → length c ≡ n → e < n → i ≡ n - suc e → prefix (set c i y) (n - e) ≡ 256 * prefix c i + y
last_number c n e i y len h ie =
    let l : i < length c = omega arith in
    let k : i ≤ length (set c i y) = rw (length-set c i y) (omega arith) in
    let s : n - e ≡ suc i = omega arith in
    rw (s, get_or-set_same c i y 0 l, prefix_same (set c i y) c i k (omega arith) (take-set-le i c i y (omega arith)))

-- ---- the three ways to close: nothing left over, a free byte for it, or none

module _ (t : Tail) (j E whole : ℕ) (fit : t.room.offs + t.room.end ≤ length t.room.buf)
    (en : number 0 (take t.room.offs t.room.buf) ≡ E) (mul : E ≡ whole * 2 ^ j) (small : t.win < 2 ^ t.used) where
  at_offs : (b : List ℕ) → length b ≡ length t.room.buf → take t.room.offs b ≡ take t.room.offs t.room.buf → prefix b t.room.offs ≡ E
  at_offs b l e = prefix_take b t.room.offs (omega (arith, l)) ∙ ap (λ (x : List ℕ). number 0 x) e ∙ en

  at_end : (b : List ℕ) (X : ℕ) → length b ≡ length t.room.buf → drop (length t.room.buf - t.room.end) b ≡ back_bytes t.room
      → prefix b (length t.room.buf - t.room.end) ≡ t.win + 2 ^ t.used * X → prefix b (length b) ≡ tail_number t X
  at_end b X l d e = prefix_split b (length t.room.buf - t.room.end) (omega (arith, l)) ∙ ap₂ number e d

  closed_none : t.used ≡ 0 → Closed t j E (clear t.room).buf
  closed_none u =
      let l : length (clear t.room).buf ≡ length t.room.buf = clear_length t.room fit in
      let n : prefix (clear t.room).buf t.room.offs ≡ E = at_offs (clear t.room).buf l (clear_front t.room fit) in
      let p : 2 ^ t.used ≡ 1 = ap (λ (x : ℕ). 2 ^ x) u in
      record {
        len = l;
        front = (omega arith, omega (arith, pow_pos j));
        above = prefix (clear t.room).buf (length t.room.buf - t.room.end);
        back = at_end (clear t.room).buf _ l (clear_back t.room fit) (rw p (omega arith));
        free = λ i x y. clear_free t.room fit i x (omega arith);
      }

  closed_free : t.room.offs + t.room.end < length t.room.buf → 1 ≤ t.used → t.used < 8
      → Closed t j E (or_last (clear t.room) t.win t.room.err).buf
  closed_free f u1 u =
      let c : List ℕ = (clear t.room).buf in
      let e : ℕ = t.room.end in
      let n : ℕ = length t.room.buf in
      let ln : length c ≡ n = clear_length t.room fit in
      let i : ℕ = length c - suc e in
      let ie : i ≡ n - suc e = omega arith in
      let y : ℕ = bit_or (get_or c i 0) t.win in
      let y0 : get_or c i 0 ≡ 0 = clear_free t.room fit i (omega arith) (omega arith) in
      let ye : y ≡ t.win = ap (λ (x : ℕ). bit_or x t.win) y0 ∙ or_zero_l t.win in
      let b : List ℕ = set c i y in
      let l : length b ≡ length t.room.buf = length-set c i y ∙ ln in
      let nf : prefix b t.room.offs ≡ E = at_offs b l (take-set-le t.room.offs c i y (omega arith) ∙ clear_front t.room fit) in
      let d : drop (n - e) b ≡ back_bytes t.room = drop-set-lt (n - e) c i y (omega arith) ∙ clear_back t.room fit in
      let m : prefix b (n - e) ≡ 256 * prefix c i + y = last_number c n e i y ln (omega arith) ie in
      let p : 256 ≡ 2 ^ t.used * 2 ^ (8 - t.used) = pow_split 8 t.used (omega arith) in
      record {
        len = l;
        front = (omega arith, omega (arith, pow_pos j));
        above = 2 ^ (8 - t.used) * prefix c i;
        back = at_end b (2 ^ (8 - t.used) * prefix c i) l d (m ∙ part t.win y (prefix c i) (2 ^ t.used) (2 ^ (8 - t.used)) ye p);
        free = λ k x z. get_or-set_other c i k y 0 (λ q. absurd (omega arith)) ∙ clear_free t.room fit k x (omega arith);
      }
    where
      part : (w y M a z : ℕ) → y ≡ w → 256 ≡ a * z → 256 * M + y ≡ w + a * (z * M)
      part w y M a z e p = ap (λ (x : ℕ). x * M + y) p ∙ omega (arith, mul_assoc a z M)

  closed_tight : t.room.offs + t.room.end ≡ length t.room.buf → t.room.end < length t.room.buf → t.used ≤ j → j ≤ 8
      → Closed t j E (or_last (clear t.room) t.win t.room.err).buf
  closed_tight f g u j8 =
      let c : List ℕ = (clear t.room).buf in
      let e : ℕ = t.room.end in
      let n : ℕ = length t.room.buf in
      let ln : length c ≡ n = clear_length t.room fit in
      let i : ℕ = length c - suc e in
      let ie : i ≡ n - suc e = omega arith in
      let os : t.room.offs ≡ suc i = omega arith in
      let nc : 256 * prefix c i + get_or c i 0 ≡ E = subst (λ (x : ℕ). prefix c x ≡ E) os (at_offs c ln (clear_front t.room fit)) in
      let p : 256 ≡ 2 ^ (8 - j) * 2 ^ j = pow_split 8 j j8 ∙ mul_comm (2 ^ j) (2 ^ (8 - j)) in
      let y0 : get_or c i 0 ≡ (whole - 2 ^ (8 - j) * prefix c i) * 2 ^ j = low (get_or c i 0) (prefix c i) (2 ^ (8 - j)) (2 ^ j) p (nc ∙ mul) in
      let ye : bit_or (get_or c i 0) t.win ≡ get_or c i 0 + t.win
      = rw y0 (or_shifted (whole - 2 ^ (8 - j) * prefix c i) j t.win (omega (arith, pow_mono u))) in
      let y : ℕ = bit_or (get_or c i 0) t.win in
      let b : List ℕ = set c i y in
      let l : length b ≡ length t.room.buf = length-set c i y ∙ ln in
      let d : drop (n - e) b ≡ back_bytes t.room = drop-set-lt (n - e) c i y (omega arith) ∙ clear_back t.room fit in
      let m : prefix b (n - e) ≡ 256 * prefix c i + y = last_number c n e i y ln g ie in
      let ne : n - e ≡ t.room.offs = omega arith in
      let mo : prefix b t.room.offs ≡ E + t.win = ap (λ (x : ℕ). prefix b x) (sym ne) ∙ m ∙ omega arith in
      record {
        len = l;
        front = (omega arith, omega (arith, pow_mono u));
        above = 2 ^ (j - t.used) * whole;
        back = at_end b (2 ^ (j - t.used) * whole) l d
            (m ∙ part t.win (256 * prefix c i + y) E (2 ^ t.used) (2 ^ (j - t.used)) (omega arith) (mul ∙ ap (λ (x : ℕ). whole * x) (pow_split j t.used u)));
        free = λ k x z. absurd (omega arith);
      }
    where
      low : (y M a z : ℕ) → 256 ≡ a * z → 256 * M + y ≡ whole * z → y ≡ (whole - a * M) * z
      low y M a z p q =
          let s : z * (whole - a * M) ≡ z * whole - z * (a * M) = mul-sub z whole (a * M) in
          let r : 256 * M ≡ z * (a * M) = ap (λ (x : ℕ). x * M) p ∙ omega arith in
          omega arith

      part : (w v E a z : ℕ) → v ≡ E + w → E ≡ whole * (a * z) → v ≡ w + a * (z * whole)
      part w v E a z e p = omega arith

  -- where no error is reported, one of the three happened
  pub closed : t.used < 8 → j ≤ 8 → (close t j).err ≡ 0 → Closed t j E (close t j).buf
  closed u j8 =
      let ln : length (clear t.room).buf ≡ length t.room.buf = clear_length t.room fit in
      chosen Ok (eqb t.room.err 0)
      (λ e. chosen Ok (eqb t.used 0)
      (λ u0 z. closed_none (eqb-true t.used 0 u0))
      (λ u0. chosen_lt Ok t.room.end (length (clear t.room).buf)
      (λ l. chosen Ok (leb (length (clear t.room).buf) (t.room.offs + t.room.end) && ltb j t.used)
      (λ x z. absurd (omega arith))
      (λ x z. by_lt (t.room.offs + t.room.end) (length t.room.buf)
      (λ f. closed_free f (omega (arith, eqb-false t.used 0 u0)) u)
      (λ f. let h : length (clear t.room).buf ≤ t.room.offs + t.room.end = omega arith in
      let y : ltb j t.used ≡ false = rw (le-leb (length (clear t.room).buf) (t.room.offs + t.room.end) h) at x in
      closed_tight (omega arith) (omega arith) (ltb-false j t.used y) j8)))
      (λ l z. absurd (omega arith))))
      (λ e z. absurd (eqb-false t.room.err 0 e z))
    where
      Ok : Room → Type 0
      Ok q = q.err ≡ 0 → Closed t j E q.buf

-- ---- what closing keeps in any case

pub close_stays : (t : Tail) (j : ℕ) → t.room.err ≡ 1 → (close t j).err ≡ 1
close_stays t j e =
    let n : eqb t.room.err 0 ≡ false = ne_eqb t.room.err 0 (λ z. let q : ◌≡◌ {A = ℕ} 1 0 = sym e ∙ z in omega arith) in
    rw n e

pub close_placed : (t : Tail) (j : ℕ) → t.room.offs + t.room.end ≤ length t.room.buf → Placed t.room (close t j)
close_placed t j fit =
    let ln : length (clear t.room).buf ≡ length t.room.buf = clear_length t.room fit in
    let or : (x e : ℕ) → Placed t.room (or_last (clear t.room) x e) = λ x e. record { offs = refl; end = refl; len = rw length-set ln } in
    chosen (Placed t.room) (eqb t.room.err 0)
    (λ e. chosen (Placed t.room) (eqb t.used 0)
    (λ u. record { offs = refl; end = refl; len = ln })
    (λ u. chosen_lt (Placed t.room) t.room.end (length (clear t.room).buf)
    (λ l. chosen (Placed t.room) (leb (length (clear t.room).buf) (t.room.offs + t.room.end) && ltb j t.used)
    (λ x. or (t.win % 2 ^ j) 1) (λ x. or t.win t.room.err))
    (λ l. record { offs = refl; end = refl; len = ln })))
    (λ e. record { offs = refl; end = refl; len = refl })

-- ---- no error where there is a byte for the left-over bits, and a coded one spares so many
pub close_fits : (t : Tail) (j : ℕ) → t.room.offs + t.room.end ≤ length t.room.buf → t.room.err ≡ 0
    → (1 ≤ t.used → t.room.end < length t.room.buf)
    → (1 ≤ t.used → length t.room.buf ≤ t.room.offs + t.room.end → t.used ≤ j)
    → (close t j).err ≡ 0
close_fits t j fit z a c =
    let ln : length (clear t.room).buf ≡ length t.room.buf = clear_length t.room fit in
    chosen Ok (eqb t.room.err 0)
    (λ e. chosen Ok (eqb t.used 0)
    (λ u. z)
    (λ u. let u1 : 1 ≤ t.used = omega (arith, eqb-false t.used 0 u) in
    chosen_lt Ok t.room.end (length (clear t.room).buf)
    (λ l. chosen Ok (leb (length (clear t.room).buf) (t.room.offs + t.room.end) && ltb j t.used)
    (λ x. let p = and_both (leb (length (clear t.room).buf) (t.room.offs + t.room.end)) (ltb j t.used) x in
    let h : length (clear t.room).buf ≤ t.room.offs + t.room.end = leb-true _ _ p.0 in
    absurd (omega (arith, c u1 (omega arith), ltb-true j t.used p.1)))
    (λ x. z))
    (λ l. absurd (omega (arith, a u1)))))
    (λ e. absurd (eqb-false t.room.err 0 e z))
  where
    Ok : Room → Type 0
    Ok q = q.err ≡ 0
