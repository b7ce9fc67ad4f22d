-- Accepted calls keep a writer sound, if its run of 255s is one that its total can account for, 8 run + 33 <= total:
-- a fresh writer has that, and every call keeps it. Without it the law is false: a sound state with a run of 150,000
-- and a total of 33 may be written to, and its run grows. Assumes nothing.
use Prim.Native.Nat.{ℕ, suc, ◌+◌, ◌-◌, ◌*◌, ◌/◌, ◌%◌, ◌^◌, ◌≤◌}
use mathlib.Core.Path.{◌≡◌, refl, sym, ap, subst, ◌∙◌}
use mathlib.Core.Bool.{true, ◌&&◌}
use mathlib.Core.List.{List, [], ◌∷◌, ◌++◌}
use native.Mathlib.Omega.{arith}
use lib.Bits.{bit_or}
use lib.Dec.{eqb, leb, ltb}
use lib.ListN.{length, get_or, take, drop, replicate, length-append, length-replicate, length-drop, length-set}
use lib.Seq.{length-take-le}
use Rattle.deciding.proofs.Choice.{chosen}
use Rattle.entcode.specs.Models.{Model, bit, raw, num, tab, Sym, raw_n, Allowed}
use Rattle.entcode.proofs.ModelLaws.{raw_most}
use Rattle.entcode.specs.Room.{Room}
use Rattle.entcode.proofs.RoomLaws.{puts_kept, puts_error}
use Rattle.entcode.specs.Tail.{Tail}
use Rattle.entcode.proofs.TailLaws.{Trim, FlushKept, flush_kept}
use Rattle.entcode.specs.Writer.{Writer, open_w, raw_w, write_sym}
use Rattle.entcode.proofs.WriterLaws.{Firm, FirmNext, firm_raw, firm_write}
use Rattle.entcode.specs.Finish.{bits_of, spare_bits, held_after, fin_bytes, fin_front, fin_tail, clear, or_last, left_over, close, finish, finish_w}
use Rattle.entcode.specs.Inner.Reading.{growth}
use Rattle.entcode.specs.Flat.{Out, as_writer, flat}
use Rattle.entcode.proofs.FlatLaws.{code_whole}
use Rattle.entcode.specs.Sound.{sound_w}
use Rattle.entcode.specs.Writing.{written, finished, enc_sym, enc_done}
use Rattle.entcode.proofs.WritingLaws.{Sound, sound_flat, write_accepted, done_accepted}

-- the joint rule
abbrev pub Joint : Out → Type 0
Joint o = 8 * o.state.ext + 33 ≤ o.state.total

pub record SoundNext (o : Out) : Type 0 where
  pub sound : sound_w o.buf o.state ≡ true
  pub joint : Joint o

pub firm_joint : (o : Out) → Sound o → Joint o → Firm 0 (as_writer o)
firm_joint o s j =
    let f = s.firm in
    record { above = f.above; most = f.most; fits = f.fits; held = f.held; tidy = omega arith; trim = f.trim }

-- ---- a write

pub sound_write : (o : Out) (s : Sym) → (enc_sym o s).answer.refusal ≡ 0 → Joint o → SoundNext (written o s)
unfolding written
sound_write o s e j =
    let a = write_accepted o s e in
    let g = firm_write 0 (as_writer o) s a.allowed (firm_joint o a.entry.sound j) in
    let n = raw_most s.model a.allowed.readable in
    let t : 8 * (write_sym (as_writer o) s).front.run + 33 ≤ (write_sym (as_writer o) s).total + 0 = g.firm.tidy in
    let m : (write_sym (as_writer o) s).total ≤ o.state.total + (16 + raw_n s.model) = g.most in
    let l : o.state.total ≤ 1000000 = a.entry.low in
    let b : o.state.total ≤ (write_sym (as_writer o) s).total = g.least in
    let k : 33 ≤ o.state.total = a.entry.sound.least in
    record { sound = sound_flat 0 (write_sym (as_writer o) s) g.firm (omega arith) (omega arith) (omega arith); joint = omega arith }

-- the total never falls, and grows by at most as many bits as its reader's
pub firm_grows : (k : ℕ) (w : Writer) (m : Model) (v : ℕ) → Allowed m v → Firm k w → FirmNext k (growth m) w (write_sym w (record { model = m; value = v }))
firm_grows k w (bit lp) v ok f = firm_write k w (record { model = bit lp; value = v }) ok f
firm_grows k w (raw n) v ok f =
    subst (FirmNext k n w) (ap (λ (u : Writer). raw_w u n v) (sym (code_whole w f.above))) (firm_raw k w n v ok.readable.1 ok.fitting f)
firm_grows k w (num ft) v ok f = firm_write k w (record { model = num ft; value = v }) ok f
firm_grows k w (tab scale t) v ok f = firm_write k w (record { model = tab scale t; value = v }) ok f

pub total_grows : (o : Out) (s : Sym) → (enc_sym o s).answer.refusal ≡ 0
    → (o.state.total ≤ (written o s).state.total) × ((written o s).state.total ≤ o.state.total + growth s.model)
unfolding written
total_grows o s e =
    let a = write_accepted o s e in
    let g = firm_grows 1200033 (as_writer o) s.model s.value a.allowed a.entry.sound.firm in
    (g.least, g.most)

-- ---- finishing: places within the buffer, an error of 0 or 1, and the same length

record Tidy (n : ℕ) (r : Room) : Type 0 where
  fit : r.offs + r.end ≤ length r.buf
  err : r.err ≤ 1
  len : length r.buf ≡ n

clear_tidy : (r : Room) → r.offs + r.end ≤ length r.buf → r.err ≤ 1 → Tidy (length r.buf) (clear r)
clear_tidy r h e =
    let a = take r.offs r.buf in
    let z = replicate {A = ℕ} (length r.buf - r.end - r.offs) 0 in
    let d = drop (length r.buf - r.end) r.buf in
    let n : length (a ++ (z ++ d)) ≡ length r.buf
    = length-append a (z ++ d)
    ∙ omega (arith, length-append z d, length-take-le r.offs r.buf (omega arith), length-replicate {A = ℕ} (length r.buf - r.end - r.offs) 0, length-drop (length r.buf - r.end) r.buf) in
    record { fit = omega arith; err = e; len = n }

or_tidy : (n : ℕ) (r : Room) (x e : ℕ) → Tidy n r → e ≤ 1 → Tidy n (or_last r x e)
or_tidy n r x e t h =
    let k = length-set r.buf (length r.buf - suc r.end) (bit_or (get_or r.buf (length r.buf - suc r.end) 0) x) in
    record { fit = omega (arith, k, t.fit); err = h; len = k ∙ t.len }

left_tidy : (n : ℕ) (r : Room) (x u j : ℕ) → Tidy n r → Tidy n (left_over r x u j)
left_tidy n r x u j t =
    chosen (Tidy n) (ltb r.end (length r.buf))
    (λ a. chosen (Tidy n) (leb (length r.buf) (r.offs + r.end) && ltb j u)
    (λ b. or_tidy n r (x % 2 ^ j) 1 t (omega arith))
    (λ b. or_tidy n r x r.err t t.err))
    (λ a. record { fit = t.fit; err = omega arith; len = t.len })

close_tidy : (t : Tail) (j : ℕ) → t.room.offs + t.room.end ≤ length t.room.buf → t.room.err ≤ 1 → Tidy (length t.room.buf) (close t j)
close_tidy t j h e =
    let n = length t.room.buf in
    let c : Tidy n (clear t.room) = clear_tidy t.room h e in
    chosen (Tidy n) (eqb t.room.err 0)
    (λ a. chosen (Tidy n) (eqb t.used 0) (λ b. c) (λ b. left_tidy n (clear t.room) t.win t.used j c))
    (λ a. record { fit = h; err = e; len = refl })

finish_tidy : (w : Writer) → Trim w.tail → ((finish w).offs + (finish w).end ≤ length (finish w).buf) × ((finish w).err ≤ 1)
finish_tidy w t =
    let k = puts_kept (fin_bytes w.front) w.tail.room t.fit in
    let f : Trim (fin_front w) = record {
      fit = k.fit;
      err = puts_error (fin_bytes w.front) w.tail.room t.err;
      used = t.used;
      slim = t.slim;
    } in
    let g : FlushKept (w.tail.used / 8) (fin_front w) (fin_tail w) = flush_kept (w.tail.used / 8) (fin_front w) f (omega arith) in
    let c = close_tidy (fin_tail w) (spare_bits (bits_of w.front.rng w.front.val)) g.trim.fit g.trim.err in
    (c.fit, c.err)

after_small : (xs : List ℕ) → held_after xs ≤ 256
after_small [] = omega arith
after_small (x ∷ xs) = omega arith

pub sound_done : (o : Out) → (enc_done o).answer.refusal ≡ 0 → SoundNext (finished o)
unfolding finished
sound_done o e =
    let w = as_writer o in
    let a = done_accepted o e in
    let s = a.sound in
    let f = s.firm in
    let r = finish_tidy w f.trim in
    let g : Firm 1200033 (finish_w w) = record {
      above = f.above;
      most = f.most;
      fits = f.fits;
      held = after_small (fin_bytes w.front);
      tidy = omega arith;
      trim = record { fit = r.0; err = r.1; used = f.trim.used; slim = f.trim.slim };
    } in
    record { sound = sound_flat 1200033 (finish_w w) g (omega arith) s.least s.most; joint = omega (arith, s.least) }

-- ---- opening

pub sound_open : (b : List ℕ) → SoundNext (flat (open_w b))
sound_open b =
    let g : Firm 1200033 (open_w b) = record {
      above = omega arith;
      most = omega arith;
      fits = omega arith;
      held = omega arith;
      tidy = omega arith;
      trim = record { fit = omega arith; err = omega arith; used = omega arith; slim = omega arith };
    } in
    record { sound = sound_flat 1200033 (open_w b) g (omega arith) (omega arith) (omega arith); joint = omega arith }
