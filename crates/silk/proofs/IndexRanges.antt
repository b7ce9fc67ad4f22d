-- What reading a frame's side indices gives, whatever the packet holds: the range of every field that the frame reads, and the fields
-- that it keeps (document 01, "Side indices"; RFC 6716, section 4.2.7). Assumes nothing.
use Prim.Native.Nat.{ℕ, ◌+◌, ◌-◌, ◌*◌, ◌/◌, ◌%◌, ◌^◌, ◌≤◌, ◌<◌}
use mathlib.Core.Path.{◌≡◌, refl, ap, ◌∙◌}
use mathlib.Core.Bool.{false}
use mathlib.Core.List.{List}
use native.Mathlib.Omega.{arith}
use lib.IntN.{ℤ, pos, nat_abs}
use lib.ListN.{get_or}
use Rattle.tree.specs.Asks.{then}
use Rattle.tree.proofs.Outcomes.{Ends, ends, ends_then}
use Rattle.sheet.proofs.Places.{sizes, row_size}
use Rattle.silk.specs.declared.Indices.{Indices}
use Rattle.silk.specs.declared.Setting.{Setting}
use Rattle.silk.specs.Record.{with_kind, with_seed, with_gains, with_nlsfs, Shape}
use Rattle.silk.proofs.RecordLaws.{with_interp}
use Rattle.silk.specs.Inner.Indices.{Rate, Subframes, contour_size, Upto, Kind, first_most}
use Rattle.silk.specs.IndexSyntax.{book_of, relative_lag, interpolation, spectrum, voicing, seed, indices}
use Rattle.silk.proofs.IndexParts.{upto, row_asks, kind_ends, Gained, gained, GainsRead, gains_end, Nlsfed, nlsfed, NlsfRead, spectrum_end, Interped, interped, InterpRead, interpolation_end, Voiced, voiced, unvoiced, voicing_end}

-- ---- ranges

-- what a voiced frame reads (section 4.2.7.6); a lag against the frame before is any number of 16 bits
pub record PitchRange (s : Setting) (y : Indices) : Type 0 where
  pub absolute : relative_lag s ≡ false → Upto (16 * s.khz - 1) y.lag
  pub contour : Upto (contour_size s.khz s.subframes - 1) y.contour
  pub period : Upto 2 y.period
  pub filters : (k : ℕ) → k < s.subframes → Upto (8 * 2 ^ nat_abs y.period - 1) (get_or y.ltp k (pos 0))
  pub scale : Upto 2 y.scale
  pub unscaled : (s.mode ≡ 0 → ⊥) → y.scale ≡ pos 0

pub record InRange (s : Setting) (y : Indices) : Type 0 where
  pub kind : Kind s.active (nat_abs y.signal * 2 + nat_abs y.offset)
  pub signal : Upto 2 y.signal
  pub offset : Upto 1 y.offset
  pub first : Upto (first_most s.mode) (get_or y.gains 0 (pos 0))
  pub gains : (k : ℕ) → 1 ≤ k → k < s.subframes → Upto 40 (get_or y.gains k (pos 0))
  pub index : Upto 31 (get_or y.nlsf 0 (pos 0))
  pub residuals : (k : ℕ) → 1 ≤ k → k ≤ (book_of s.khz).order → nat_abs (get_or y.nlsf k (pos 0)) ≤ 10
  pub interp : Upto 4 y.interp
  pub fixed : s.subframes ≡ 2 → y.interp ≡ pos 4
  pub voiced : y.signal ≡ pos 2 → PitchRange s y
  pub seed : Upto 3 y.seed

-- ---- fields that the frame does not read

pub record SamePitch (x y : Indices) : Type 0 where
  pub ltp : y.ltp ≡ x.ltp
  pub lag : y.lag ≡ x.lag
  pub contour : y.contour ≡ x.contour
  pub period : y.period ≡ x.period
  pub scale : y.scale ≡ x.scale

-- gains and filters past the subframes, spectrum places past the order, the pitch of an unvoiced frame
pub record Kept (s : Setting) (x y : Indices) : Type 0 where
  pub gains : (k : ℕ) → s.subframes ≤ k → get_or y.gains k (pos 0) ≡ get_or x.gains k (pos 0)
  pub ltp : (k : ℕ) → s.subframes ≤ k → get_or y.ltp k (pos 0) ≡ get_or x.ltp k (pos 0)
  pub nlsf : (k : ℕ) → (book_of s.khz).order < k → get_or y.nlsf k (pos 0) ≡ get_or x.nlsf k (pos 0)
  pub unvoiced : (y.signal ≡ pos 2 → ⊥) → SamePitch x y

pub record ReadOver (s : Setting) (x y : Indices) : Type 0 where
  pub range : InRange s y
  pub kept : Kept s x y
  pub shape : Shape y

-- ---- every way through the tree: at most 51 symbols

module _ (s : Setting) (x : Indices) (r : Rate s.khz) (f : Subframes s.subframes) (h : Shape x) where
  module _ (k : ℕ) (a : Kind s.active k) (l : List ℤ) (g : GainsRead s.mode s.subframes x.gains l) (active : s.active < 2) where
    module _ (m : List ℤ) (n : NlsfRead (book_of s.khz).order x.nlsf m) (i : ℕ) (p : InterpRead s.subframes i) where
      abbrev so_far : Indices
      so_far = with_interp (with_nlsfs (with_gains (with_kind x k) l) m) i

      read_all : (y : Indices) → Voiced (k / 2) s so_far y → (w : ℕ) → w ≤ 3 → ReadOver s x (with_seed y w)
      read_all y (voiced e z c q v o t) w u =
          record {
            range = record {
              kind = record { least = omega (arith, a.least); most = omega (arith, a.most) };
              signal = upto (k / 2) (omega arith);
              offset = upto (k % 2) (omega arith);
              first = g.first;
              gains = g.others;
              index = n.first;
              residuals = n.residuals;
              interp = upto i p.most;
              fixed = λ b. ap pos (p.fixed b);
              voiced = λ b.
                  record {
                    absolute = t.lag.absolute;
                    contour = upto c (omega (arith, t.contour));
                    period = upto q t.period;
                    filters = λ j b. t.filters.inside j (omega arith) (omega arith);
                    scale = upto v t.scale.most;
                    unscaled = λ b. ap pos (t.scale.fixed b);
                  };
              seed = upto w u;
            };
            kept = record {
              gains = g.kept;
              ltp = λ j b. t.filters.behind j (omega arith);
              nlsf = n.kept;
              unvoiced = λ b. absurd (b (ap pos e));
            };
            shape = record { gains = g.size ∙ h.gains; ltp = t.filters.size ∙ h.ltp; nlsf = n.size ∙ h.nlsf };
          }
      read_all y (unvoiced e) w u =
          record {
            range = record {
              kind = record { least = omega (arith, a.least); most = omega (arith, a.most) };
              signal = upto (k / 2) (omega (arith, a.most));
              offset = upto (k % 2) (omega arith);
              first = g.first;
              gains = g.others;
              index = n.first;
              residuals = n.residuals;
              interp = upto i p.most;
              fixed = λ b. ap pos (p.fixed b);
              voiced = λ b. absurd (e (ap nat_abs b));
              seed = upto w u;
            };
            kept = record {
              gains = g.kept;
              ltp = λ j b. refl;
              nlsf = n.kept;
              unvoiced = λ b. record { ltp = refl; lag = refl; contour = refl; period = refl; scale = refl };
            };
            shape = record { gains = g.size ∙ h.gains; ltp = h.ltp; nlsf = n.size ∙ h.nlsf };
          }

      after_voicing : (y : Indices) → Voiced (k / 2) s so_far y → Ends (ReadOver s x) 1 (seed y)
      unfolding seed sizes
      after_voicing y q = row_asks 42 (omega arith) (λ w b. ends (read_all y q w (omega (arith, row_size 42))))

    after_spectrum : (y : Indices) → Nlsfed (NlsfRead (book_of s.khz).order) (with_gains (with_kind x k) l) y
        → Ends (ReadOver s x) 12 (then (interpolation s.subframes y) (λ i. then (voicing (k / 2) s i) seed))
    after_spectrum y (nlsfed m n) = ends_then {n = 1} {m = 11} _ (interpolation_end s.subframes _) after
      where
        after : (z : Indices) → Interped s.subframes (with_nlsfs (with_gains (with_kind x k) l) m) z
            → Ends (ReadOver s x) 11 (then (voicing (k / 2) s z) seed)
        after z (interped i p) =
            ends_then {n = 10} {m = 1} _ (voicing_end (k / 2) s _ r f h.ltp)
            (after_voicing m n i p)

  pub indices_end : s.active < 2 → Ends (ReadOver s x) 51 (indices s x)
  unfolding indices
  indices_end active =
      ends_then {n = 1} {m = 50} _ (kind_ends s.active active) (λ k a.
      ends_then {n = 5} {m = 45} _ (gains_end s.mode s.subframes (k / 2) (with_kind x k) f (omega (arith, a.most)) h.gains) (after_gains k a))
    where
      after_gains : (k : ℕ) → Kind s.active k → (y : Indices) → Gained (GainsRead s.mode s.subframes) (with_kind x k) y
          → Ends (ReadOver s x) 45 (then (spectrum s.khz (k / 2) y) (λ q. then (interpolation s.subframes q) (λ i. then (voicing (k / 2) s i) seed)))
      after_gains k a y (gained l g) =
          ends_then {n = 33} {m = 12} _ (spectrum_end s.khz (k / 2) _ r (omega (arith, a.most)) h.nlsf) (after_spectrum k a l g active)
