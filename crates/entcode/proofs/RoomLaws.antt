-- Placing bytes: what is stored where there is room, and what holds in any case. Assumes nothing.
use Prim.Native.Nat.{ℕ, suc, ◌+◌, ◌-◌, ◌≤◌, ◌<◌}
use mathlib.Core.Path.{◌≡◌, refl, sym, ap, ◌∙◌}
use mathlib.Core.Bool.{Bool, true, false, cond}
use mathlib.Core.List.{List, [], ◌∷◌, ◌++◌, append_assoc, append-nil}
use native.Mathlib.Omega.{arith}
use borrow.Author.Tests.{ltb-true, lt-ltb, le-ltb}
use lib.Dec.{ltb}
use lib.ListN.{length, take, drop, length-set}
use lib.Seq.{take-suc-set, drop-set-lt}
use Rattle.deciding.proofs.Choice.{by_lt}
use Rattle.entcode.specs.Room.{Room, free, failed, placed, put, puts, placed_back, back}

-- all of bs was stored behind the front
pub record Stored (r : Room) (bs : List ℕ) (q : Room) : Type 0 where
  pub offs : q.offs ≡ r.offs + length bs
  pub end : q.end ≡ r.end
  pub err : q.err ≡ r.err
  pub len : length q.buf ≡ length r.buf
  pub front : take q.offs q.buf ≡ take r.offs r.buf ++ bs
  pub back : drop (length r.buf - r.end) q.buf ≡ drop (length r.buf - r.end) r.buf

-- a byte, where there is room
put_one : (r : Room) (b : ℕ) → r.offs + r.end < length r.buf → Stored r (b ∷ []) (put r b)
put_one r b h =
    rw (lt-ltb (r.offs + r.end) (length r.buf) h)
    (record {
      offs = omega arith;
      end = refl;
      err = refl;
      len = length-set r.buf r.offs b;
      front = take-suc-set r.buf r.offs b (omega arith);
      back = drop-set-lt (length r.buf - r.end) r.buf r.offs b (omega arith);
    })

stored_then : (r q s : Room) (b : ℕ) (bs : List ℕ) → Stored r (b ∷ []) q → Stored q bs s → Stored r (b ∷ bs) s
stored_then r q s b bs h g =
    let m : length q.buf - q.end ≡ length r.buf - r.end = omega (arith, h.len, h.end) in
    record {
      offs = omega (arith, h.offs, g.offs);
      end = g.end ∙ h.end;
      err = g.err ∙ h.err;
      len = g.len ∙ h.len;
      front = g.front ∙ ap (λ (l : List ℕ). l ++ bs) h.front ∙ append_assoc (take r.offs r.buf) (b ∷ []) bs;
      back = (rw m at g.back) ∙ h.back;
    }

pub puts_room : (bs : List ℕ) (r : Room) → r.offs + r.end + length bs ≤ length r.buf → Stored r bs (puts r bs)
puts_room [] r h =
    record {
      offs = omega arith;
      end = refl;
      err = refl;
      len = refl;
      front = sym (append-nil (take r.offs r.buf));
      back = refl;
    }
puts_room (b ∷ bs) r h =
    let p : Stored r (b ∷ []) (put r b) = put_one r b (omega arith) in
    stored_then r (put r b) (puts (put r b) bs) b bs p (puts_room bs (put r b) (omega (arith, p.offs, p.end, p.len)))

-- what holds whether or not there was room
pub record Kept (r : Room) (m : ℕ) (q : Room) : Type 0 where
  pub most : q.offs ≤ r.offs + m
  pub least : r.offs ≤ q.offs
  pub end : q.end ≡ r.end
  pub len : length q.buf ≡ length r.buf
  pub fit : q.offs + q.end ≤ length q.buf

put_kept_by : (t : Bool) (r : Room) (b : ℕ) → ltb (r.offs + r.end) (length r.buf) ≡ t → r.offs + r.end ≤ length r.buf
    → Kept r 1 (cond t (placed r b) (failed r))
put_kept_by true r b e h =
    record {
      most = omega arith;
      least = omega arith;
      end = refl;
      len = length-set r.buf r.offs b;
      fit = rw (length-set r.buf r.offs b) (omega (arith, ltb-true (r.offs + r.end) (length r.buf) e));
    }
put_kept_by false r b e h = record { most = omega arith; least = omega arith; end = refl; len = refl; fit = h }

pub puts_kept : (bs : List ℕ) (r : Room) → r.offs + r.end ≤ length r.buf → Kept r (length bs) (puts r bs)
puts_kept [] r h = record { most = omega arith; least = omega arith; end = refl; len = refl; fit = h }
puts_kept (b ∷ bs) r h =
    let p : Kept r 1 (put r b) = put_kept_by (free r) r b refl h in
    let g : Kept (put r b) (length bs) (puts (put r b) bs) = puts_kept bs (put r b) p.fit in
    record {
      most = omega (arith, p.most, g.most);
      least = omega (arith, p.least, g.least);
      end = g.end ∙ p.end;
      len = g.len ∙ p.len;
      fit = g.fit;
    }

-- the error stays
put_stays : (t : Bool) (r : Room) (b : ℕ) → r.err ≡ 1 → (cond t (placed r b) (failed r)).err ≡ 1
put_stays true r b h = h
put_stays false r b h = refl

pub puts_stays : (bs : List ℕ) (r : Room) → r.err ≡ 1 → (puts r bs).err ≡ 1
puts_stays [] r h = h
puts_stays (b ∷ bs) r h = puts_stays bs (put r b) (put_stays (free r) r b h)

put_full : (r : Room) (b : ℕ) → length r.buf ≤ r.offs + r.end → (put r b).err ≡ 1
put_full r b h = rw (le-ltb (r.offs + r.end) (length r.buf) h)

pub puts_full : (bs : List ℕ) (r : Room) → r.offs + r.end ≤ length r.buf → length r.buf < r.offs + r.end + length bs
    → (puts r bs).err ≡ 1
puts_full [] r f h = absurd (omega arith)
puts_full (b ∷ bs) r f h =
    by_lt (r.offs + r.end) (length r.buf)
    (λ l. let p : Stored r (b ∷ []) (put r b) = put_one r b l in
    puts_full bs (put r b) (omega (arith, p.offs, p.end, p.len)) (omega (arith, p.offs, p.end, p.len)))
    (λ l. puts_stays bs (put r b) (put_full r b l))

put_len : (t : Bool) (r : Room) (b : ℕ) → length (cond t (placed r b) (failed r)).buf ≡ length r.buf
put_len true r b = length-set r.buf r.offs b
put_len false r b = refl

pub puts_len : (bs : List ℕ) (r : Room) → length (puts r bs).buf ≡ length r.buf
puts_len [] r = refl
puts_len (b ∷ bs) r = puts_len bs (put r b) ∙ put_len (free r) r b

-- ---- an error is 0 or 1

err_put : (t : Bool) (r : Room) (b : ℕ) → r.err ≤ 1 → (cond t (placed r b) (failed r)).err ≤ 1
err_put true r b h = h
err_put false r b h = omega arith

pub puts_error : (bs : List ℕ) (r : Room) → r.err ≤ 1 → (puts r bs).err ≤ 1
puts_error [] r h = h
puts_error (b ∷ bs) r h = puts_error bs (put r b) (err_put (free r) r b h)

-- ---- the back

pub record BackKept (r q : Room) : Type 0 where
  pub fit : q.offs + q.end ≤ length q.buf
  pub err : q.err ≤ 1
  pub len : length q.buf ≡ length r.buf

back_kept_by : (t : Bool) (r : Room) (b : ℕ) → free r ≡ t → r.offs + r.end ≤ length r.buf → r.err ≤ 1
    → BackKept r (cond t (placed_back r b) (failed r))
back_kept_by true r b e h z =
    let n = length-set r.buf (length r.buf - suc r.end) b in
    record { fit = rw n (omega (arith, ltb-true (r.offs + r.end) (length r.buf) e)); err = z; len = n }
back_kept_by false r b e h z = record { fit = h; err = omega arith; len = refl }

pub back_kept : (r : Room) (b : ℕ) → r.offs + r.end ≤ length r.buf → r.err ≤ 1 → BackKept r (back r b)
back_kept r b h z = back_kept_by (free r) r b refl h z

back_stays_by : (t : Bool) (r : Room) (b : ℕ) → r.err ≡ 1 → (cond t (placed_back r b) (failed r)).err ≡ 1
back_stays_by true r b h = h
back_stays_by false r b h = refl

pub back_stays : (r : Room) (b : ℕ) → r.err ≡ 1 → (back r b).err ≡ 1
back_stays r b h = back_stays_by (free r) r b h

back_len_by : (t : Bool) (r : Room) (b : ℕ) → length (cond t (placed_back r b) (failed r)).buf ≡ length r.buf
back_len_by true r b = length-set r.buf (length r.buf - suc r.end) b
back_len_by false r b = refl

pub back_len : (r : Room) (b : ℕ) → length (back r b).buf ≡ length r.buf
back_len r b = back_len_by (free r) r b

pub back_full : (r : Room) (b : ℕ) → length r.buf ≤ r.offs + r.end → (back r b).err ≡ 1
back_full r b h = rw (le-ltb (r.offs + r.end) (length r.buf) h)
