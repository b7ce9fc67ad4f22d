-- What a reader beside the writer answers to each call: the reader gives the call's symbols, so it has read what they mean. Assumes nothing.
use Prim.Native.Nat.{ℕ, ◌*◌}
use mathlib.Core.Path.{◌≡◌, refl, sym, ap, subst, ◌∙◌}
use mathlib.Core.Bool.{Bool, true, false, cond}
use mathlib.Core.List.{List}
use native.Mathlib.Omega.{arith}
use borrow.Author.Tests.{eq-eqb}
use lib.IntN.{ℤ, nat_abs}
use lib.ListN.{length}
use Rattle.refusals.proofs.FirstLaws.{none_first}
use Rattle.entcode.specs.declared.Dec.{Dec}
use Rattle.entcode.specs.Sound.{gate_r}
use Rattle.entcode.specs.Reading.{gives}
use Rattle.entcode.specs.Flat.{Out}
use Rattle.tree.specs.Asks.{Got, got, run, symbols}
use Rattle.tree.proofs.AsksLaws.{Gives, written_reads_back}
use Rattle.silk.specs.declared.Indices.{Indices}
use Rattle.silk.specs.declared.Setting.{Setting}
use Rattle.silk.specs.IndexSyntax.{indices}
use Rattle.silk.specs.Record.{Shape}
use Rattle.silk.specs.FrameCalls.{setting_ok, blocks_of, next_lag, indices_got, decode_indices, pulse_rule, pulsed, decode_pulses}
use Rattle.silk.proofs.IndexCalls.{setting_chosen, indices_runs}
use Rattle.silk.specs.IndexWriting.{sayable}
use Rattle.silk.specs.PulseSyntax.{Excitation, excitation}
use Rattle.silk.proofs.PulseBlocks.{rows_counted, rows_flat}
use Rattle.silk.specs.PulseWriting.{excited, pulses_say, shifts_of, pulse_blocks}
use Rattle.silk.proofs.PulseWritten.{pulses_read_back}
use Rattle.silk.proofs.PulseCallLaws.{pulses_read}
use Rattle.frame_roundtrip.specs.Statement.{pulses, overlaid, voiced_in}
use Rattle.frame_roundtrip.proofs.Overlaid.{says_alike, means_overlaid}
use Rattle.frame_roundtrip.proofs.Sent.{says, PulsesTook, pulses_suit}

-- ---- side indices

module _ (s : Setting) (x z : Indices) where
  four_zero : (t : Bool) → t ≡ true → ◌≡◌ {A = ℕ} (cond t 0 4) 0
  four_zero t e = rw e

  pub indices_read : (b : List ℕ) (d q : Dec) → gate_r b d ≡ 0 → setting_ok s ≡ true → sayable s x ≡ true → Shape x → Shape z
      → Gives b d (symbols x (indices s x)) q → decode_indices b d z s ≡ indices_got s.prevlag (got (overlaid s x z) q)
  indices_read b d q g c e h i k =
      let f = (setting_chosen s c).subframes in
      sym (indices_runs b d z s (none_first _ _ g (four_zero (setting_ok s) c)))
      ∙ ap (λ (r : Got Indices). indices_got s.prevlag r)
      (written_reads_back b d q x (indices s z) (subst (λ l. Gives b d l q) (says_alike s x z f h i) k)
      ∙ ap (λ (r : Indices). got r q) (means_overlaid s x z f h i e))

  -- the next frame's numbers are those of the record written
  pub same_type : nat_abs (overlaid s x z).signal ≡ nat_abs x.signal
  unfolding overlaid
  same_type = refl

  pub same_offset : nat_abs (overlaid s x z).offset ≡ nat_abs x.offset
  unfolding overlaid
  same_offset = refl

  pub same_lag : next_lag s.prevlag (overlaid s x z) ≡ next_lag s.prevlag x
  unfolding overlaid next_lag
  same_lag = go (voiced_in x)
    where
      go : (t : Bool) → cond t (cond t x.lag z.lag) s.prevlag ≡ cond t x.lag s.prevlag
      go true = refl
      go false = refl

-- ---- pulses

module _ (p : List ℤ) (khz subframes signal offset rate : ℕ) (o : Out) (t : PulsesTook o p khz subframes signal offset rate) where
  abbrev ps : List (List ℤ)
  ps = pulse_blocks p khz subframes

  abbrev hand : Excitation
  hand = excited rate (shifts_of rate signal offset ps) ps

  runs : (b : List ℕ) (d q : Dec) → Gives b d (says (pulses p khz subframes signal offset rate)) q
      → run b d (excitation signal offset (blocks_of khz subframes)) ≡ got hand q
  runs b d q =
      subst (λ (n : ℕ). Gives b d (pulses_say signal offset n rate (shifts_of rate signal offset ps) ps) q → run b d (excitation signal offset n) ≡ got hand q)
      (rows_counted (blocks_of khz subframes) p)
      (pulses_read_back signal offset rate (shifts_of rate signal offset ps) ps (pulses_suit p khz subframes signal offset rate o t) b d q)

  numbers_zero : (n : ℕ) → n ≡ length p → pulse_rule n khz subframes signal offset ≡ 0
  unfolding pulse_rule
  numbers_zero n e = rw (t.numbers, eq-eqb n (16 * blocks_of khz subframes) (e ∙ t.size))

  pub pulses_given : (b : List ℕ) (d q : Dec) (v : List ℤ) → gate_r b d ≡ 0 → length v ≡ length p
      → Gives b d (says (pulses p khz subframes signal offset rate)) q → decode_pulses b d v khz subframes signal offset ≡ pulsed p (gives 0 q)
  pulses_given b d q v g e k =
      sym (pulses_read b d v khz subframes signal offset _ refl (none_first _ _ g (numbers_zero (length v) e)) p q hand (runs b d q k)
      (sym (rows_flat (blocks_of khz subframes) p (omega (arith, t.size)))))
