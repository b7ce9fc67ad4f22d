-- What reading the frame's side indices will say: the types that a call answers beforehand are those of the record. Assumes nothing.
use Prim.Native.Nat.{ℕ, ◌/◌, ◌%◌, ◌<◌}
use mathlib.Core.Path.{◌≡◌, refl, subst, subst⁻¹}
use mathlib.Core.List.{List}
use native.Mathlib.Omega.{arith}
use borrow.Author.Tests.{eq-eqb}
use lib.IntN.{ℤ, pos}
use Rattle.entcode.specs.Reader.{Bytes}
use Rattle.entcode.specs.Reading.{dec_open}
use Rattle.tree.specs.Asks.{Asks, then, Got, run}
use Rattle.tree.proofs.AsksLaws.{run_then}
use Rattle.tree.proofs.Outcomes.{Ends, ends, ends_then, ends_run}
use Rattle.silk.specs.declared.Indices.{Indices}
use Rattle.silk.specs.declared.IndicesRead.{IndicesRead}
use Rattle.silk.specs.declared.Setting.{Setting}
use Rattle.silk.specs.Record.{with_kind, with_seed, with_gains, with_nlsfs, Shape}
use Rattle.silk.proofs.RecordLaws.{with_interp}
use Rattle.silk.specs.Inner.Indices.{Rate, Subframes}
use Rattle.silk.specs.IndexSyntax.{book_of, kind, gains, spectrum, interpolation, voicing, seed, indices}
use Rattle.silk.proofs.IndexParts.{row_asks, kind_ends, Gained, gained, GainsRead, gains_end, Nlsfed, nlsfed, NlsfRead, spectrum_end, Interped, interped, interpolation_end, Voiced, voiced, unvoiced, voicing_end}
use Rattle.silk.specs.FrameCalls.{indices_rule, decode_indices}
use Rattle.silk.proofs.IndexCalls.{rule_accepts, indices_runs}
use Rattle.frame_type.specs.Kind.{frame_type}
use Rattle.frame_type.proofs.KindLaws.{type_passes}

-- a record with the types of number k
pub record Typed (k : ℕ) (y : Indices) : Type 0 where
  pub signal : y.signal ≡ pos (k / 2)
  pub offset : y.offset ≡ pos (k % 2)

-- ---- what follows the types leaves them

module _ (s : Setting) (x : Indices) (r : Rate s.khz) (f : Subframes s.subframes) (h : Shape x) (k : ℕ) (small : k < 6) where
  abbrev after_kind : Asks Indices Indices
  after_kind =
      then (gains s.mode s.subframes (k / 2) (with_kind x k)) (λ g.
      then (spectrum s.khz (k / 2) g) (λ q. then (interpolation s.subframes q) (λ i. then (voicing (k / 2) s i) seed)))

  module _ (l m : List ℤ) where
    abbrev so_far : ℕ → Indices
    so_far i = with_interp (with_nlsfs (with_gains (with_kind x k) l) m) i

    typed : (i : ℕ) (y : Indices) → Voiced (k / 2) s (so_far i) y → (w : ℕ) → Typed k (with_seed y w)
    typed i y (voiced e z c q v o t) w = record { signal = refl; offset = refl }
    typed i y (unvoiced e) w = record { signal = refl; offset = refl }

    after_interpolation : (z : Indices) → Interped s.subframes (with_nlsfs (with_gains (with_kind x k) l) m) z → Ends (Typed k) 11 (then (voicing (k / 2) s z) seed)
    unfolding seed
    after_interpolation z (interped i p) =
        ends_then {n = 10} {m = 1} _ (voicing_end (k / 2) s _ r f h.ltp)
        (λ y q. row_asks 42 (omega arith) (λ w b. ends (typed i y q w)))

  after_gains : (y : Indices) → Gained (GainsRead s.mode s.subframes) (with_kind x k) y
      → Ends (Typed k) 45 (then (spectrum s.khz (k / 2) y) (λ q. then (interpolation s.subframes q) (λ i. then (voicing (k / 2) s i) seed)))
  after_gains y (gained l g) = ends_then {n = 33} {m = 12} _ (spectrum_end s.khz (k / 2) _ r (omega arith) h.nlsf) after
    where
      after : (z : Indices) → Nlsfed (NlsfRead (book_of s.khz).order) (with_gains (with_kind x k) l) z
          → Ends (Typed k) 12 (then (interpolation s.subframes z) (λ i. then (voicing (k / 2) s i) seed))
      after z (nlsfed m n) = ends_then {n = 1} {m = 11} _ (interpolation_end s.subframes _) (after_interpolation l m)

  types_stay : Ends (Typed k) 50 after_kind
  types_stay = ends_then {n = 5} {m = 45} _ (gains_end s.mode s.subframes (k / 2) (with_kind x k) f (omega arith) h.gains) after_gains

-- ---- the promise

-- after opening, an accepted reading of side indices gives the types that the call answered
pub record Agrees (b : List ℕ) (active : ℕ) (y : Indices) : Type 0 where
  pub refusal : (frame_type b active).refusal ≡ 0
  pub signal : y.signal ≡ pos (frame_type b active).signal
  pub offset : y.offset ≡ pos (frame_type b active).offset

pub types_agree : (b : List ℕ) (x : Indices) (s : Setting) → Bytes b → Shape x → indices_rule b (dec_open b).state s ≡ 0
    → Agrees b s.active (decode_indices b (dec_open b).state x s).indices
unfolding frame_type indices
types_agree b x s y h z =
    let d = (dec_open b).state in
    let a = rule_accepts b d s z in
    let c = a.numbers in
    let p = ends_run (kind_ends s.active c.active) b d y a.passed.sound.core in
    let k = (run b d (kind s.active)).value in
    let e = ends_run (types_stay s x c.rate c.subframes h k (omega (arith, p.holds.most, c.active))) b
    (run b d (kind s.active)).state y p.core in
    let t : Typed k (run b d (indices s x)).value = subst⁻¹ (λ (g : Got Indices). Typed k g.value) (run_then b d (kind s.active) _) e.holds in
    let u : Typed k (decode_indices b d x s).indices = subst (λ (g : IndicesRead). Typed k g.indices) (indices_runs b d x s z) t in
    let o = eq-eqb _ _ (type_passes b s.active a.passed.sound.core.short c.active) in
    record { refusal = rw o; signal = rw o u.signal; offset = rw o u.offset }
