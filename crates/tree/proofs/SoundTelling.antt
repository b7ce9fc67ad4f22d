-- What writing along a tree keeps, where every symbol may be written: a sound writer by the joint rule of `Joint`,
-- and a total that grows by no more than its reader's. Assumes nothing.
use Prim.Native.Nat.{ℕ, suc, ◌+◌, ◌-◌, ◌*◌, ◌≤◌}
use mathlib.Core.Path.{◌≡◌, sym, ap, subst}
use mathlib.Core.Bool.{true}
use native.Mathlib.Omega.{arith}
use borrow.Author.Tests.{eqb-true}
use lib.Dec.{eqb}
use Rattle.deciding.proofs.Both.{and_both}
use Rattle.entcode.specs.Models.{Sym}
use Rattle.entcode.specs.Rules.{say_rule}
use Rattle.entcode.specs.Inner.Reading.{growth}
use Rattle.entcode.specs.Writer.{write_sym}
use Rattle.entcode.proofs.WriterLaws.{Firm}
use Rattle.entcode.specs.Flat.{Out, as_writer, flat}
use Rattle.entcode.proofs.FlatLaws.{as_flat, flat_as}
use Rattle.entcode.specs.Sound.{sound_w}
use Rattle.entcode.specs.Writing.{written}
use Rattle.entcode.proofs.WritingLaws.{Open, say_open, sound_flat}
use Rattle.entcode.proofs.SoundLaws.{Joint, SoundNext, firm_joint, firm_grows}
use Rattle.tree.specs.Asks.{Asks, done, ask, symbols}
use Rattle.tree.proofs.Always.{Always, always_more}
use Rattle.tree.proofs.Outcomes.{Ends, ends, asks}
use Rattle.tree.specs.Telling.{written_all, all_said}
use Rattle.tree.proofs.TellingLaws.{fits_inside}

-- a firm writer in its flat form
record Steady (k : ℕ) (o : Out) : Type 0 where
  is : flat (as_writer o) ≡ o
  firm : Firm k (as_writer o)

record SteadyNext (k n : ℕ) (o q : Out) : Type 0 where
  steady : Steady k q
  least : o.state.total ≤ q.state.total
  most : q.state.total ≤ o.state.total + n

steady_write : (k : ℕ) (o : Out) (s : Sym) → say_rule s.model s.value ≡ 0 → Steady k o → SteadyNext k (growth s.model) o (written o s)
unfolding written
steady_write k o s e h =
    let v = write_sym (as_writer o) s in
    let g = firm_grows k (as_writer o) s.model s.value (say_open s.model s.value e) h.firm in
    record {
      steady = record { is = ap flat (as_flat v); firm = subst (Firm k) (sym (as_flat v)) g.firm };
      least = g.least;
      most = g.most;
    }

steady_all : {R A : Type 0} (P : A → Type 0) (n k : ℕ) (o : Out) (y : R) (t : Asks R A) → Always P n t → all_said (symbols y t) ≡ true → Steady k o
    → SteadyNext k n o (written_all o (symbols y t))
unfolding symbols all_said written_all
steady_all P n k o y (done x) t a h = record { steady = h; least = omega arith; most = omega arith }
steady_all P n k o y (ask m w f) t a h =
    let p = and_both (eqb (say_rule m (w y)) 0) (all_said (symbols y (f (w y)))) a in
    let e : say_rule m (w y) ≡ 0 = eqb-true _ _ p.0 in
    let b = steady_write k o (record { model = m; value = w y }) e h in
    let u = t.2 (w y) (fits_inside m (w y) (say_open m (w y) e).fitting) in
    let c = steady_all P (n - growth m) k (written o (record { model = m; value = w y })) y (f (w y)) u p.1 b.steady in
    record { steady = c.steady; least = omega (arith, b.least, c.least); most = omega (arith, b.most, c.most, t.1) }

module _ {R A : Type 0} (P : A → Type 0) (n : ℕ) (o : Out) (y : R) (t : Asks R A) (h : Always P n t) (a : all_said (symbols y t) ≡ true) (g : Open o) where
  pub total_always : (o.state.total ≤ (written_all o (symbols y t)).state.total) × ((written_all o (symbols y t)).state.total ≤ o.state.total + n)
  total_always =
      let r = steady_all P n 1200033 o y t h a (record { is = flat_as o g.sound.fair; firm = g.sound.firm }) in
      (r.least, r.most)

  pub sound_always : Joint o → n ≤ 100000 → SoundNext (written_all o (symbols y t))
  sound_always j l =
      let q = written_all o (symbols y t) in
      let r = steady_all P n 0 o y t h a (record { is = flat_as o g.sound.fair; firm = firm_joint o g.sound j }) in
      let f : 8 * q.state.ext + 33 ≤ q.state.total + 0 = r.steady.firm.tidy in
      let m : q.state.total ≤ 1100000 = omega (arith, r.most, g.low) in
      let u : 33 ≤ q.state.total = omega (arith, r.least, g.sound.least) in
      record {
        sound = subst (λ (z : Out). sound_w z.buf z.state ≡ true) r.steady.is (sound_flat 0 (as_writer q) r.steady.firm (omega arith) u m);
        joint = omega arith;
      }

-- ---- so many questions of 16 bits

ends_always : {R A : Type 0} {P : A → Type 0} {n : ℕ} {t : Asks R A} → Ends P n t → Always P (16 * n) t
ends_always (ends e) = e
ends_always {P = P} (asks {n = n} {m = m} {f = f} r l g) = (
  r,
  omega arith,
  λ v i. always_more P (16 * n) (16 * suc n - growth m) (f v) (omega arith) (ends_always (g v i)),
)

module _ {R A : Type 0} {P : A → Type 0} {n : ℕ} {t : Asks R A} (o : Out) (y : R) (h : Ends P n t) (a : all_said (symbols y t) ≡ true) (g : Open o) where
  pub total_told : (o.state.total ≤ (written_all o (symbols y t)).state.total) × ((written_all o (symbols y t)).state.total ≤ o.state.total + 16 * n)
  total_told = total_always P (16 * n) o y t (ends_always h) a g

  -- at most 6,250 questions: 100,000 bits
  pub sound_told : Joint o → n ≤ 6250 → SoundNext (written_all o (symbols y t))
  sound_told j l = sound_always P (16 * n) o y t (ends_always h) a g j (omega arith)
