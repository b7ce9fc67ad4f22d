-- What a reading of side indices from a packet's start may answer, as far as its text needs it. Assumes nothing.
use Prim.Native.Nat.{ℕ, ◌≤◌}
use mathlib.Core.Path.{◌≡◌, refl}
use mathlib.Core.List.{List}
use native.Mathlib.Omega.{arith}
use borrow.Author.Tests.{eqb-false}
use lib.Dec.{eqb, leb}
use lib.IntN.{nat_abs}
use lib.ListN.{length}
use Rattle.deciding.proofs.Choice.{chosen}
use Rattle.refusals.specs.First.{first_of}
use Rattle.entcode.specs.declared.Dec.{Dec}
use Rattle.entcode.specs.Sound.{sound_r, gate_r}
use Rattle.entcode.specs.Reader.{Bytes}
use Rattle.entcode.specs.Reading.{dec_open}
use Rattle.silk.specs.declared.Indices.{Indices}
use Rattle.silk.specs.declared.IndicesRead.{IndicesRead}
use Rattle.silk.specs.declared.Setting.{Setting}
use Rattle.silk.specs.Inner.Indices.{Rate, Subframes, Upto}
use Rattle.silk.proofs.IndexCalls.{indices_accepted}
use Rattle.silk.specs.FrameCalls.{setting_ok, indices_rule, decode_indices}
use Rattle.lister_text.specs.ListerText.{blank, indices_of}

gate_most : (b : List ℕ) (d : Dec) → gate_r b d ≤ 3
unfolding gate_r
gate_most b d =
    chosen (λ (n : ℕ). n ≤ 3) (leb (length b) 1275)
    (λ e.
    chosen (λ (n : ℕ). n ≤ 3) (sound_r b d) (λ f. chosen (λ (n : ℕ). n ≤ 3) (leb d.total 1000000) (λ g. omega arith) (λ g. omega arith))
    (λ f. omega arith))
    (λ e. omega arith)

rule_most : (b : List ℕ) (d : Dec) (s : Setting) → indices_rule b d s ≤ 4
unfolding first_of
rule_most b d s =
    chosen (λ (n : ℕ). n ≤ 4) (eqb (gate_r b d) 0)
    (λ e. chosen (λ (n : ℕ). n ≤ 4) (setting_ok s) (λ f. omega arith) (λ f. omega arith))
    (λ e. omega (arith, gate_most b d))

-- no refusal is above 4
pub refusal_most : (b : List ℕ) (s : Setting) → (indices_of b s).refusal ≤ 4
unfolding decode_indices
refusal_most b s =
    let d = (dec_open b).state in
    chosen (λ (a : IndicesRead). a.refusal ≤ 4) (eqb (indices_rule b d s) 0) (λ e. omega arith) (λ e. rule_most b d s)

-- an accepted reading hands on this frame's type
type_of : (b : List ℕ) (d : Dec) (x : Indices) (s : Setting) → (decode_indices b d x s).refusal ≡ 0
    → (decode_indices b d x s).prevtype ≡ nat_abs (decode_indices b d x s).indices.signal
unfolding decode_indices
type_of b d x s =
    chosen (λ (a : IndicesRead). a.refusal ≡ 0 → a.prevtype ≡ nat_abs a.indices.signal) (eqb (indices_rule b d s) 0) (λ t e. refl)
    (λ t e. absurd (eqb-false (indices_rule b d s) 0 t e))

pub record Listable (s : Setting) (a : IndicesRead) : Type 0 where
  pub rate : Rate s.khz
  pub subframes : Subframes s.subframes
  pub signal : a.prevtype ≡ nat_abs a.indices.signal
  pub offset : Upto 1 a.indices.offset

pub listable : (b : List ℕ) (s : Setting) → Bytes b → (indices_of b s).refusal ≡ 0 → Listable s (indices_of b s)
listable b s y e =
    let d = (dec_open b).state in
    let a = indices_accepted b d blank s y (record { gains = refl; ltp = refl; nlsf = refl }) e in
    record {
      rate = a.was.numbers.rate;
      subframes = a.was.numbers.subframes;
      signal = type_of b d blank s e;
      offset = a.read.range.offset;
    }
