-- A write hands on all that the next one asks. Assumes nothing.
use Prim.Native.Nat.{ℕ, ◌+◌, ◌^◌, ◌≤◌, ◌<◌}
use mathlib.Core.Path.{◌≡◌, refl, sym, subst}
use native.Mathlib.Omega.{arith}
use Rattle.entcode.specs.Models.{Sym, raw_n, Allowed}
use Rattle.entcode.proofs.ModelLaws.{raw_most}
use Rattle.entcode.specs.Inner.Reading.{CutOk}
use Rattle.entcode.specs.Writer.{Writer, norm_w, cut_w, raw_w, write_sym}
use Rattle.entcode.proofs.WriterLaws.{Firm, FirmNext, firm_cut, firm_raw, firm_write}
use Rattle.entcode.specs.Flat.{Out, as_writer, flat}
use Rattle.entcode.proofs.FlatLaws.{flat_fair, held_rem, err_error}
use Rattle.entcode.specs.Inner.Writing.{cut, appended, Core, Stepped, Wrote}
use Rattle.entcode.specs.Writing.{written}

firm_of : (o : Out) → Core o → Firm 1200033 (as_writer o)
firm_of o c =
    record {
      above = c.above;
      most = c.most;
      fits = c.fits;
      held = c.held;
      tidy = c.tidy;
      trim = record { fit = c.roomy.within; err = c.err; used = c.used; slim = c.slim };
    }

-- a step of the definitions that keeps a writer firm, and adds at most n, is one that the code may take
step_of : (n : ℕ) (o : Out) (v : Writer) → n ≤ 41 → Core o → o.state.total ≤ 2 ^ 30 + 16 → FirmNext 1200033 n (as_writer o) v
    → Stepped n o (flat v) (flat v)
step_of n o v l c t g =
    let f = g.firm in
    record {
      is = refl;
      core =
          record {
            roomy = record { fair = flat_fair v; short = omega (arith, g.len, c.roomy.short); within = f.trim.fit };
            above = f.above;
            most = f.most;
            fits = f.fits;
            held = omega (arith, held_rem v.front.held, f.held);
            tidy = f.tidy;
            err = omega (arith, err_error v.tail.room.err, f.trim.err);
            used = f.trim.used;
            slim = f.trim.slim;
            few = omega (arith, g.most);
          };
      least = g.least;
      most = g.most;
    }

pub cut_step : (o q : Out) (t s : ℕ) → Core o → o.state.total ≤ 2 ^ 30 → CutOk o.state.rng t s → q ≡ cut o t s → Stepped 16 o (cut o t s) q
unfolding cut
cut_step o q t s c h k e =
    subst (λ (x : Out). Stepped 16 o (flat (norm_w (norm_w (cut_w (as_writer o) t s)))) x) (sym e)
    (step_of 16 o (norm_w (norm_w (cut_w (as_writer o) t s))) (omega arith) c (omega arith) (firm_cut 1200033 (as_writer o) t s k (firm_of o c)))

pub append_step : (o q : Out) (n v : ℕ) → Core o → o.state.total ≤ 2 ^ 30 + 16 → n ≤ 25 → v < 2 ^ n → q ≡ appended o n v → Stepped n o (appended o n v) q
unfolding appended
append_step o q n v c h l b e =
    subst (λ (x : Out). Stepped n o (flat (raw_w (as_writer o) n v)) x) (sym e)
    (step_of n o (raw_w (as_writer o) n v) (omega arith) c h (firm_raw 1200033 (as_writer o) n v l b (firm_of o c)))

pub wrote : (o : Out) (s : Sym) (q : Out) → Core o → o.state.total ≤ 2 ^ 30 → Allowed s.model s.value → q ≡ written o s → Wrote o s q
unfolding written
wrote o s q c t ok e =
    subst (λ (x : Out). Stepped (16 + raw_n s.model) o (flat (write_sym (as_writer o) s)) x) (sym e)
    (step_of (16 + raw_n s.model) o (write_sym (as_writer o) s) (omega (arith, raw_most s.model ok.readable)) c (omega arith)
    (firm_write 1200033 (as_writer o) s ok (firm_of o c)))
