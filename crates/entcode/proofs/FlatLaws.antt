-- Laws of the reading of flat states, and of the writer's steps on them. Assumes nothing.
use Prim.Native.Nat.{ℕ, zero, suc, ◌+◌, ◌-◌, ◌*◌, ◌/◌, ◌%◌, ◌^◌, ◌≤◌, ◌<◌}
use mathlib.Core.Path.{◌≡◌, refl, sym, ap, ap₂, ◌∙◌}
use mathlib.Core.Bool.{Bool, false, cond}
use mathlib.Core.List.{List, [], ◌∷◌, ◌++◌}
use native.Mathlib.Omega.{arith}
use borrow.Author.Tests.{le-ltb, lt-ltb}
use lib.Dec.{leb, ltb}
use lib.IntN.{ℤ}
use lib.ListN.{get_or}
use Rattle.deciding.proofs.Choice.{chosen, chosen_le}
use Rattle.entcode.specs.Models.{bit, raw, num, tab, raw_bits, all}
use Rattle.entcode.proofs.ModelLaws.{bit_upper, bit_lower, bit_whole, tab_upper, tab_lower}
use Rattle.entcode.specs.Cuts.{upper, lower}
use Rattle.entcode.specs.Room.{Room, put, puts}
use Rattle.entcode.specs.Tail.{append, flush1, flush}
use Rattle.entcode.specs.Writer.{Writer, with_front, shift_w, norm_w, cut_w, code_w, raw_w}
use Rattle.entcode.proofs.WriterLaws.{norm_done, norm_due}
use Rattle.entcode.specs.Flat.{held_of, rem_of, err_of, error_of, Out, as_writer, flat}
use Rattle.entcode.specs.Inner.Writing.{Fair, with_room, with_tail, put_all, turned, settled, cut, flushed, shed, spared, appended}
use Rattle.entcode.proofs.WriterFacts.{at_window}
use Rattle.entcode.specs.Writing.{written}

-- ---- the two signed fields

pub held_rem : (h : ℕ) → held_of (rem_of h) ≡ h
held_rem zero = refl
held_rem (suc b) = refl

pub err_error : (e : ℕ) → err_of (error_of e) ≡ e
err_error zero = refl
err_error (suc n) = refl

-- a writer with other codes of them
abbrev codes_w : Writer → ℕ → ℕ → Writer
codes_w w h e =
    record {
      front = record { rng = w.front.rng; val = w.front.val; held = h; run = w.front.run };
      tail =
          record {
            room = record { buf = w.tail.room.buf; offs = w.tail.room.offs; end = w.tail.room.end; err = e };
            win = w.tail.win;
            used = w.tail.used;
          };
      total = w.total;
    }

-- a flat state with another length kept, held byte and error
abbrev signs : Out → ℕ → ℤ → ℤ → Out
signs o n h e =
    record {
      buf = o.buf;
      state =
          record {
            storage = n;
            endoffs = o.state.endoffs;
            window = o.state.window;
            wbits = o.state.wbits;
            total = o.state.total;
            offs = o.state.offs;
            rng = o.state.rng;
            val = o.state.val;
            ext = o.state.ext;
            rem = h;
            error = e;
          };
    }

-- ---- the reading, there and back

-- the record read back from its flat form is itself, always
pub as_flat : (w : Writer) → as_writer (flat w) ≡ w
as_flat w = ap₂ (codes_w w) (held_rem w.front.held) (err_error w.tail.room.err)

-- every flat form is fair, and a fair state is the flat form of what it stands for
pub flat_fair : (w : Writer) → Fair (flat w)
flat_fair w =
    record { kept = refl; rem = ap rem_of (held_rem w.front.held); error = ap error_of (err_error w.tail.room.err) }

pub flat_as : (o : Out) → Fair o → flat (as_writer o) ≡ o
flat_as o p =
    ap (λ (n : ℕ). signs o n (rem_of (held_of o.state.rem)) (error_of (err_of o.state.error))) (sym p.kept)
    ∙ ap₂ (signs o o.state.storage) p.rem p.error

-- how code arrives at a definition: a fair state that stands for w
pub arrive : (q : Out) (w : Writer) → Fair q → as_writer q ≡ w → q ≡ flat w
arrive q w f e = sym (flat_as q f) ∙ ap flat e

-- ---- bytes put at the front, one after the other

pub put_none : (o : Out) → Fair o → put_all o [] ≡ o
unfolding put_all
put_none o h = flat_as o h

pub put_more : (o : Out) (b : ℕ) (bs : List ℕ) → put_all (put_all o (b ∷ [])) bs ≡ put_all o (b ∷ bs)
unfolding put_all
put_more o b bs =
    let w = with_room (as_writer o) (put (as_writer o).tail.room b) in
    ap (λ (v : Writer). flat (with_room v (puts v.tail.room bs))) (as_flat w)

pub puts_append : (xs bs : List ℕ) (r : Room) → puts (puts r xs) bs ≡ puts r (xs ++ bs)
puts_append [] bs r = refl
puts_append (a ∷ xs) bs r = puts_append xs bs (put r a)

pub put_append : (o : Out) (xs bs : List ℕ) → put_all (put_all o xs) bs ≡ put_all o (xs ++ bs)
unfolding put_all
put_append o xs bs =
    let w = with_room (as_writer o) (puts (as_writer o).tail.room xs) in
    ap (λ (v : Writer). flat (with_room v (puts v.tail.room bs))) (as_flat w)
    ∙ ap (λ (r : Room). flat (with_room (as_writer o) r)) (puts_append xs bs (as_writer o).tail.room)

-- ---- renormalising

norm_grows : (w : Writer) → 2 ^ 16 ≤ w.front.rng → 2 ^ 23 < (norm_w w).front.rng
norm_grows w h = chosen_le (λ (v : Writer). 2 ^ 23 < v.front.rng) w.front.rng (2 ^ 23) (λ p. omega arith) (λ p. p)

-- two turns settle a range of 256 or more
norm_turn : (w : Writer) → 256 ≤ w.front.rng → w.front.rng ≤ 2 ^ 23 → norm_w (norm_w (shift_w w)) ≡ norm_w (norm_w w)
norm_turn w l h =
    norm_done (norm_w (shift_w w)) (norm_grows (shift_w w) (omega arith)) ∙ ap (λ (v : Writer). norm_w v) (sym (norm_due w h))

pub settled_done : (o : Out) → Fair o → 2 ^ 23 < o.state.rng → settled o ≡ o
unfolding settled
settled_done o f h =
    ap flat (ap (λ (v : Writer). norm_w v) (norm_done (as_writer o) h) ∙ norm_done (as_writer o) h) ∙ flat_as o f

pub settled_turn : (o : Out) → 256 ≤ o.state.rng → o.state.rng ≤ 2 ^ 23 → settled (turned o) ≡ settled o
unfolding settled turned
settled_turn o l h =
    ap (λ (w : Writer). flat (norm_w (norm_w w))) (as_flat (shift_w (as_writer o))) ∙ ap flat (norm_turn (as_writer o) l h)

-- ---- a symbol with no raw part is a cut

norm_used : (w : Writer) → (norm_w w).tail.used ≡ w.tail.used
norm_used w = chosen (λ (v : Writer). v.tail.used ≡ w.tail.used) (leb w.front.rng (2 ^ 23)) (λ e. refl) (λ e. refl)

code_used : (w : Writer) (fl fh ft : ℕ) → (code_w w fl fh ft).tail.used ≡ w.tail.used
code_used w fl fh ft =
    let x = cut_w w (upper w.front.rng fl ft) (lower w.front.rng fh ft) in
    norm_used (norm_w x) ∙ norm_used x

abbrev tail_w : Writer → ℕ → ℕ → ℕ → Writer
tail_w w x u n = record { front = w.front; tail = record { room = w.tail.room; win = x; used = u }; total = n }

raw_none : (w : Writer) → w.tail.used ≤ 32 → raw_w w 0 0 ≡ w
raw_none w h =
    let u : w.tail.used + 0 ≡ w.tail.used = omega arith in
    let x : w.tail.win + 0 * 2 ^ w.tail.used ≡ w.tail.win = omega arith in
    let n : w.total + 0 ≡ w.total = omega arith in
    let f : ltb 32 (w.tail.used + 0) ≡ false = le-ltb 32 (w.tail.used + 0) (omega arith) in
    ap (λ (t : Bool). record {
      front = w.front;
      tail = append (cond t (flush (w.tail.used / 8) w.tail) w.tail) 0 0;
      total = w.total + 0;
    }) f
    ∙ ap₂ (λ (a b : ℕ). tail_w w a b (w.total + 0)) x u
    ∙ ap (λ (c : ℕ). tail_w w w.tail.win w.tail.used c) n

pub coded_cut : (o : Out) (fl fh ft : ℕ) → o.state.wbits ≤ 32
    → flat (raw_w (code_w (as_writer o) fl fh ft) 0 0) ≡ cut o (upper o.state.rng fl ft) (lower o.state.rng fh ft)
unfolding cut
coded_cut o fl fh ft h = ap flat (raw_none (code_w (as_writer o) fl fh ft) (omega (arith, code_used (as_writer o) fl fh ft)))

-- a bit: 1 has the top of the range
pub bit_one : (o : Out) (lp : ℕ) → 1 ≤ lp → o.state.wbits ≤ 32
    → written o (record { model = bit lp; value = 1 }) ≡ cut o (o.state.rng / 2 ^ lp) 0
unfolding written
bit_one o lp h u =
    coded_cut o (2 ^ lp - 1) (2 ^ lp) (2 ^ lp) u
    ∙ ap₂ (λ (t s : ℕ). cut o t s) (bit_upper o.state.rng lp h) (bit_whole o.state.rng lp)

pub bit_zero : (o : Out) (lp : ℕ) → o.state.wbits ≤ 32
    → written o (record { model = bit lp; value = 0 }) ≡ cut o o.state.rng (o.state.rng / 2 ^ lp)
unfolding written
bit_zero o lp u =
    coded_cut o 0 (2 ^ lp - 1) (2 ^ lp) u ∙ ap (λ (s : ℕ). cut o o.state.rng s) (bit_lower o.state.rng lp)

-- a table's symbol: the entry before it and its own, times the unit
pub tab_first : (o : Out) (scale : ℕ) (t : List ℕ) → get_or t 0 0 < 2 ^ scale → o.state.wbits ≤ 32
    → written o (record { model = tab scale t; value = 0 }) ≡ cut o o.state.rng (o.state.rng / 2 ^ scale * get_or t 0 0)
unfolding written
tab_first o scale t h u =
    coded_cut o 0 (2 ^ scale - get_or t 0 0) (2 ^ scale) u
    ∙ ap (λ (s : ℕ). cut o o.state.rng s) (tab_lower o.state.rng scale (get_or t 0 0) h)

pub tab_later : (o : Out) (scale : ℕ) (t : List ℕ) (k : ℕ) → get_or t k 0 < 2 ^ scale → get_or t (suc k) 0 < 2 ^ scale → o.state.wbits ≤ 32
    → written o (record { model = tab scale t; value = suc k })
    ≡ cut o (o.state.rng / 2 ^ scale * get_or t k 0) (o.state.rng / 2 ^ scale * get_or t (suc k) 0)
unfolding written
tab_later o scale t k h l u =
    coded_cut o (2 ^ scale - get_or t k 0) (2 ^ scale - get_or t (suc k) 0) (2 ^ scale) u
    ∙ ap₂ (λ (x s : ℕ). cut o x s) (tab_upper o.state.rng scale (get_or t k 0) h) (tab_lower o.state.rng scale (get_or t (suc k) 0) l)

-- ---- raw bits

pub flushed_done : (o : Out) → Fair o → o.state.wbits < 8 → flushed o ≡ o
unfolding flushed
flushed_done o f h =
    let e : o.state.wbits / 8 ≡ 0 = omega arith in
    ap (λ (k : ℕ). flat (with_tail (as_writer o) (flush k (as_writer o).tail))) e ∙ flat_as o f

pub flushed_step : (o : Out) → 8 ≤ o.state.wbits → flushed (shed o) ≡ flushed o
unfolding flushed shed
flushed_step o h =
    let e : o.state.wbits / 8 ≡ suc ((o.state.wbits - 8) / 8) = omega arith in
    ap (λ (w : Writer). flat (with_tail w (flush (w.tail.used / 8) w.tail))) (as_flat (with_tail (as_writer o) (flush1 (as_writer o).tail)))
    ∙ ap (λ (k : ℕ). flat (with_tail (as_writer o) (flush k (as_writer o).tail))) (sym e)

pub spared_full : (o : Out) (n : ℕ) → 32 < o.state.wbits + n → flushed o ≡ spared o n
unfolding flushed spared
spared_full o n h = rw (lt-ltb 32 (o.state.wbits + n) h)

pub spared_free : (o : Out) (n : ℕ) → Fair o → o.state.wbits + n ≤ 32 → o ≡ spared o n
unfolding spared
spared_free o n f h = rw (le-ltb 32 (o.state.wbits + n) h) (sym (flat_as o f))

pub append_is : (o : Out) (n v : ℕ)
    → at_window (spared o n) ((spared o n).state.window + v * 2 ^ (spared o n).state.wbits) ((spared o n).state.wbits + n) (o.state.total + n)
    ≡ appended o n v
unfolding spared appended
append_is o n v = refl

-- the whole of 1 changes nothing
pub code_whole : (w : Writer) → 2 ^ 23 < w.front.rng → code_w w 0 1 1 ≡ w
code_whole w h =
    let a : w.front.rng - w.front.rng / 1 * (1 - 1) ≡ w.front.rng = omega arith in
    let b : w.front.val + (w.front.rng - w.front.rng) ≡ w.front.val = omega arith in
    let e : cut_w w (upper w.front.rng 0 1) (lower w.front.rng 1 1) ≡ w
    = ap₂ (λ (r v : ℕ). with_front w (record { rng = r; val = v; held = w.front.held; run = w.front.run }) w.tail.room w.total) a b in
    ap (λ (v : Writer). norm_w (norm_w v)) e ∙ ap (λ (v : Writer). norm_w v) (norm_done w h) ∙ norm_done w h

pub raw_is : (o : Out) (n v : ℕ) → 2 ^ 23 < o.state.rng → appended o n v ≡ written o (record { model = raw n; value = v })
unfolding written appended
raw_is o n v h = ap (λ (w : Writer). flat (raw_w w n v)) (sym (code_whole (as_writer o) h))

-- ---- a number below ft: one of its equal parts, and raw bits where there are any

pub num_is : (o : Out) (ft v : ℕ)
    → appended (cut o (upper o.state.rng (v / 2 ^ raw_bits ft) (all (num ft))) (lower o.state.rng (suc (v / 2 ^ raw_bits ft)) (all (num ft))))
    (raw_bits ft) (v % 2 ^ raw_bits ft)
    ≡ written o (record { model = num ft; value = v })
unfolding appended cut written
num_is o ft v =
    ap (λ (w : Writer). flat (raw_w w (raw_bits ft) (v % 2 ^ raw_bits ft)))
    (as_flat (code_w (as_writer o) (v / 2 ^ raw_bits ft) (suc (v / 2 ^ raw_bits ft)) (all (num ft))))

-- the same for any number b of raw bits
abbrev num_w : Writer → ℕ → ℕ → ℕ → Writer
num_w w ft v b = raw_w (code_w w (v / 2 ^ b) (suc (v / 2 ^ b)) (suc ((ft - 1) / 2 ^ b))) b (v % 2 ^ b)

pub num_plain : (o : Out) (ft v : ℕ) → 1 ≤ ft → raw_bits ft ≡ 0 → o.state.wbits ≤ 32
    → cut o (upper o.state.rng v ft) (lower o.state.rng (suc v) ft) ≡ written o (record { model = num ft; value = v })
unfolding written
num_plain o ft v h z u =
    let c : v / 1 ≡ v = omega arith in
    let x : v % 1 ≡ 0 = omega arith in
    let a : suc ((ft - 1) / 1) ≡ ft = omega arith in
    sym (ap (λ (b : ℕ). flat (num_w (as_writer o) ft v b)) z
    ∙ ap₂ (λ (y f : ℕ). flat (raw_w (code_w (as_writer o) y (suc y) f) 0 (v % 1))) c a
    ∙ ap (λ (y : ℕ). flat (raw_w (code_w (as_writer o) v (suc v) ft) 0 y)) x
    ∙ coded_cut o v (suc v) ft u)
