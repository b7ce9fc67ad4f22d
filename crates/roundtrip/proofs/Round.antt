-- The two halves over the definitions: an account that fits is finished without error, and a writer finished without error has lost nothing. And every
-- write keeps a writer firm. Part 16 of the argument. Assumes nothing.
use Prim.Native.Nat.{ℕ, ◌*◌, ◌^◌, ◌≤◌, ◌<◌}
use mathlib.Core.Path.{◌≡◌, refl, sym, ◌∙◌}
use mathlib.Core.List.{List, [], ◌∷◌}
use native.Mathlib.Omega.{arith}
use lib.ListN.{length}
use Rattle.bitlen.proofs.LengthLaws.{leading_zeros_length}
use Rattle.entcode.specs.Models.{Sym}
use Rattle.entcode.specs.Cuts.{account}
use Rattle.entcode.specs.Writer.{Writer, open_w, write_sym, write_all}
use Rattle.entcode.proofs.WriterLaws.{Firm, firm_write}
use Rattle.entcode.specs.Finish.{finish}
use Rattle.entcode.proofs.FinishLaws.{Enough, bits_enough}
use Rattle.roundtrip.specs.Statement.{AllAllowed}
use Rattle.roundtrip.proofs.Interval.{Interval, run_i, open_i, raw_number, run_size}
use Rattle.roundtrip.proofs.Progress.{Fine}
use Rattle.roundtrip.proofs.Track.{View, Track, went, lost, track_open}
use Rattle.roundtrip.proofs.Finished.{bits_w, error_stays, finish_fits}

-- ---- the first half

-- the account counts what finishing needs, and a writer that has lost a byte has an account too large
account_fits : (w : Writer) (a : Interval) (g : ℕ → ℕ) (n : ℕ) → Track w a g n → 2 ^ 23 < a.size → account w.total w.front.rng ≤ 8 * n
    → (finish w).err ≡ 0
unfolding account
account_fits w a g n (went v) h l =
    let F : Fine w = v.fine in
    let c : Enough w.front.rng w.front.val (bits_w w) = bits_enough w.front.rng w.front.val (omega (arith, v.size)) F.most in
    finish_fits w F (omega (arith, F.count, v.len, c.most, leading_zeros_length w.front.rng))
account_fits w a g n (lost o) h l = absurd (omega (arith, o.over.much, o.len, leading_zeros_length w.front.rng))

pub no_error : (b : List ℕ) (ss : List Sym) → AllAllowed ss
    → account (write_all (open_w b) ss).total (write_all (open_w b) ss).front.rng ≤ 8 * length b
    → (finish (write_all (open_w b) ss)).err ≡ 0
no_error b ss ok l =
    account_fits (write_all (open_w b) ss) (run_i open_i ss) (λ X. raw_number ss X) (length b) (track_open b ss ok) (run_size ss open_i ok (omega arith)) l

-- ---- the second half: no error, so nothing was lost

view_by : (w : Writer) (a : Interval) (g : ℕ → ℕ) (n : ℕ) → Track w a g n → (finish w).err ≡ 0 → View w a g n
view_by w a g n (went v) z = v
view_by w a g n (lost o) z = absurd (let q : ◌≡◌ {A = ℕ} 1 0 = sym (error_stays w o.over.err) ∙ z in omega arith)

pub written_view : (b : List ℕ) (ss : List Sym) → AllAllowed ss → (finish (write_all (open_w b) ss)).err ≡ 0
    → View (write_all (open_w b) ss) (run_i open_i ss) (λ X. raw_number ss X) (length b)
written_view b ss ok z = view_by (write_all (open_w b) ss) (run_i open_i ss) (λ X. raw_number ss X) (length b) (track_open b ss ok) z

-- ---- firm writers

pub open_firm : (b : List ℕ) → Firm 0 (open_w b)
open_firm b =
    record {
      above = omega arith;
      most = omega arith;
      fits = omega arith;
      held = omega arith;
      tidy = omega arith;
      trim = record { fit = omega arith; err = omega arith; used = omega arith; slim = omega arith };
    }

-- any allowed writes keep a writer firm, do not lower its total, and keep its buffer's length
pub record FirmAll (w v : Writer) : Type 0 where
  pub firm : Firm 0 v
  pub least : w.total ≤ v.total
  pub len : length v.tail.room.buf ≡ length w.tail.room.buf

pub firm_all : (ss : List Sym) (w : Writer) → AllAllowed ss → Firm 0 w → FirmAll w (write_all w ss)
firm_all [] w ok f = record { firm = f; least = omega arith; len = refl }
firm_all (s ∷ ss) w ok f =
    let n = firm_write 0 w s ok.0 f in
    let r = firm_all ss (write_sym w s) ok.1 n.firm in
    record { firm = r.firm; least = omega (arith, n.least, r.least); len = r.len ∙ n.len }
