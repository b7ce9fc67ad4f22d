-- A record written and read into another: the writer of x says the same along the syntax started from any record z, and means z with the fields that the
-- frame codes as x has them. Part by part, the syntax started from both. Assumes nothing.
use Prim.Native.Nat.{ℕ, zero, suc, ◌+◌, ◌-◌, ◌/◌, ◌≤◌, ◌<◌}
use mathlib.Core.Path.{◌≡◌, refl, sym, ap, subst, ◌∙◌}
use mathlib.Core.Bool.{Bool, true, false, cond}
use mathlib.Core.List.{List, [], ◌∷◌}
use native.Mathlib.Nat.{le_of_suc-le-suc, not-suc-le-zero}
use native.Mathlib.Omega.{arith}
use lib.Dec.{eqb}
use lib.IntN.{ℤ, pos}
use lib.ListN.{length, set, length-set, take-append-drop}
use Rattle.tree.specs.Asks.{Asks, then, symbols, meant}
use Rattle.tree.specs.Telling.{all_said}
use Rattle.tree.proofs.TellingLaws.{ends_meant}
use Rattle.silk.specs.declared.Indices.{Indices}
use Rattle.silk.specs.declared.Setting.{Setting}
use Rattle.silk.specs.Record.{with_kind, with_gain, with_gains, with_nlsfs, with_filters, with_lag, with_contour, with_period, with_seed, Shape}
use Rattle.silk.proofs.RecordLaws.{with_interp, with_scale}
use Rattle.silk.specs.Inner.Indices.{Subframes}
use Rattle.silk.proofs.IndexRows.{subframes_least, subframes_most}
use Rattle.silk.specs.IndexSyntax.{said, said_at, kind, first_gain, more_gains, gains, book_of, selectors_of, residuals, spectrum, interpolation, absolute_lag, lag, contour, filters, period, scale, pitch, relative_lag, voicing, seed, indices}
use Rattle.silk.proofs.IndexCalls.{Chosen}
use Rattle.silk.proofs.IndexParts.{order_most}
use Rattle.silk.proofs.IndexRanges.{ReadOver, indices_end}
use Rattle.silk.specs.IndexWriting.{sayable}
use Rattle.silk.proofs.IndexWritingLaws.{meant_is, all_said_lem}
use Rattle.frame_roundtrip.specs.Statement.{front, voiced_in, overlaid}
use Rattle.frame_roundtrip.proofs.Alike.{Alike, ended, asked, alike_in, alike_then, alike_behind, alike_symbols, alike_meant}

-- ---- what a part leaves of x and of z

-- a field set to one value in both
data Both {A : Type 0} (with : Indices → A → Indices) (x z : Indices) : Indices → Indices → Type 0 where
  both : (v : A) → Both with x z (with x v) (with z v)

-- an array's first k entries set: l in one, in the other the first k of l and then z's
data Fronts (with : Indices → List ℤ → Indices) (array : Indices → List ℤ) (k : ℕ) (x z : Indices) : Indices → Indices → Type 0 where
  fronts : (l : List ℤ) → length l ≡ length (array x) → Fronts with array k x z (with x l) (with z (front k l (array z)))

abbrev Gained : ℕ → Indices → Indices → Indices → Indices → Type 0
Gained = Fronts with_gains (λ x. x.gains)

abbrev Nlsfed : ℕ → Indices → Indices → Indices → Indices → Type 0
Nlsfed = Fronts with_nlsfs (λ x. x.nlsf)

abbrev Filtered : ℕ → Indices → Indices → Indices → Indices → Type 0
Filtered = Fronts with_filters (λ x. x.ltp)

-- the pitch of a voiced frame
abbrev with_pitch : Indices → ℤ → ℕ → ℕ → List ℤ → ℕ → Indices
with_pitch x g c p l v = with_scale (with_filters (with_period (with_contour (with_lag x g) c) p) l) v

data Pitched (n : ℕ) (x z : Indices) : Indices → Indices → Type 0 where
  pitched : (g : ℤ) (c p : ℕ) (l : List ℤ) (v : ℕ) → Pitched n x z (with_pitch x g c p l v) (with_pitch z g c p (front n l z.ltp) v)

data Voiced (signal n : ℕ) (x z : Indices) : Indices → Indices → Type 0 where
  voiced : {a b : Indices} → eqb signal 2 ≡ true → Pitched n x z a b → Voiced signal n x z a b
  unvoiced : eqb signal 2 ≡ false → Voiced signal n x z x z

-- entry k set in both
set_front : (k : ℕ) (l m : List ℤ) (v : ℤ) → k < length l → k < length m → front (suc k) (set l k v) m ≡ set (front k l m) k v
set_front k [] m v h i = absurd (not-suc-le-zero h)
set_front k (a ∷ l) [] v h i = absurd (not-suc-le-zero i)
set_front zero (a ∷ l) (b ∷ m) v h i = refl
set_front (suc k) (a ∷ l) (b ∷ m) v h i = ap {B = List ℤ} (λ (r : List ℤ). a ∷ r) (set_front k l m v (le_of_suc-le-suc h) (le_of_suc-le-suc i))

-- all e entries are set
fronts_done : {with : Indices → List ℤ → Indices} {array : Indices → List ℤ} (k e : ℕ) (x z : Indices) (l : List ℤ) → k ≡ e
    → length l ≡ length (array x) → Fronts with array e x z (with x l) (with z (front k l (array z)))
fronts_done {with} {array} k e x z l p h = subst (λ (c : ℕ). Fronts with array c x z (with x l) (with z (front k l (array z)))) p (fronts l h)

module _ (y : Indices) where
  -- a test that both trees share
  by_test : {P : Indices → Indices → Type 0} {a b c d : Asks Indices Indices} (t : Bool) → (t ≡ true → Alike y P a b) → (t ≡ false → Alike y P c d)
      → Alike y P (cond t a c) (cond t b d)
  by_test true h k = h refl
  by_test false h k = k refl

  -- ---- gains

  more_alike : (n k e : ℕ) (x z : Indices) (l : List ℤ) → k + n ≡ e → length l ≡ length x.gains → e ≤ length l → e ≤ length z.gains
      → Alike y (Gained e x z) (more_gains n k (with_gains x l)) (more_gains n k (with_gains z (front k l z.gains)))
  unfolding more_gains
  more_alike zero k e x z l p h i j = ended (fronts_done k e x z l (omega arith) h)
  more_alike (suc n) k e x z l p h i j =
      let v = pos (said_at y.gains k) in
      asked (subst (λ (r : List ℤ). Alike y (Gained e x z) (more_gains n (suc k) (with_gains x (set l k v))) (more_gains n (suc k) (with_gains z r)))
      (set_front k l z.gains v (omega arith) (omega arith))
      (more_alike n (suc k) e x z (set l k v) (omega arith) (length-set l k v ∙ h) (omega (arith, length-set l k v)) j))

  first_alike : (mode signal : ℕ) (x z : Indices) → 0 < length x.gains → 0 < length z.gains
      → Alike y (Gained 1 x z) (first_gain mode signal x) (first_gain mode signal z)
  unfolding first_gain
  first_alike mode signal x z h i = by_test (eqb mode 2) (λ e. asked (ended (set_first _))) (λ e. asked (asked (ended (set_first _))))
    where
      set_first : (v : ℕ) → Gained 1 x z (with_gain x 0 v) (with_gain z 0 v)
      set_first v =
          subst (λ (r : List ℤ). Gained 1 x z (with_gain x 0 v) (with_gains z r)) (set_front 0 x.gains z.gains (pos v) h i)
          (fronts (set x.gains 0 (pos v)) (length-set x.gains 0 (pos v)))

  gains_alike : (mode n signal : ℕ) (x z : Indices) → 1 ≤ n → n ≤ length x.gains → n ≤ length z.gains
      → Alike y (Gained n x z) (gains mode n signal x) (gains mode n signal z)
  unfolding gains
  gains_alike mode n signal x z o h i =
      alike_then _ _ (first_alike mode signal x z (omega arith) (omega arith)) next
    where
      next : (a b : Indices) → Gained 1 x z a b → Alike y (Gained n x z) (more_gains (n - 1) 1 a) (more_gains (n - 1) 1 b)
      next a b (fronts l p) = more_alike (n - 1) 1 n x z l (omega arith) p (omega arith) i

  -- ---- line spectrum

  residuals_alike : (khz : ℕ) (selectors : List ℕ) (n k e : ℕ) (x z : Indices) (l : List ℤ) → suc k + n ≡ e → length l ≡ length x.nlsf
      → e ≤ length l → e ≤ length z.nlsf
      → Alike y (Nlsfed e x z) (residuals khz selectors n k (with_nlsfs x l)) (residuals khz selectors n k (with_nlsfs z (front (suc k) l z.nlsf)))
  unfolding residuals
  residuals_alike khz selectors zero k e x z l p h i j = ended (fronts_done (suc k) e x z l (omega arith) h)
  residuals_alike khz selectors (suc n) k e x z l p h i j =
      alike_behind _ _ _ (λ v.
      subst (λ (r : List ℤ). Alike y (Nlsfed e x z) (residuals khz selectors n (suc k) (with_nlsfs x (set l (suc k) v))) (residuals khz selectors n (suc k) (with_nlsfs z r)))
      (set_front (suc k) l z.nlsf v (omega arith) (omega arith))
      (residuals_alike khz selectors n (suc k) e x z (set l (suc k) v) (omega arith) (length-set l (suc k) v ∙ h) (omega (arith, length-set l (suc k) v)) j))

  spectrum_alike : (khz signal : ℕ) (x z : Indices) → suc (book_of khz).order ≤ length x.nlsf → suc (book_of khz).order ≤ length z.nlsf
      → Alike y (Nlsfed (suc (book_of khz).order) x z) (spectrum khz signal x) (spectrum khz signal z)
  unfolding spectrum
  spectrum_alike khz signal x z h i =
      let v = said_at y.nlsf 0 in
      let n = (book_of khz).order in
      let l = set x.nlsf 0 (pos v) in
      let q = selectors_of khz v in
      let e = length-set x.nlsf 0 (pos v) in
      asked (subst (λ (r : List ℤ). Alike y (Nlsfed (suc n) x z) (residuals khz q n 0 (with_nlsfs x l)) (residuals khz q n 0 (with_nlsfs z r)))
      (set_front 0 x.nlsf z.nlsf (pos v) (omega arith) (omega arith))
      (residuals_alike khz q n 0 (suc n) x z l (omega arith) e (omega (arith, e)) i))

  interpolation_alike : (n : ℕ) (x z : Indices) → Alike y (Both with_interp x z) (interpolation n x) (interpolation n z)
  unfolding interpolation
  interpolation_alike n x z = by_test (eqb n 4) (λ e. asked (ended (both _))) (λ e. ended (both 4))

  -- ---- pitch: the writer's lag is absolute, after delta symbol 0 or without

  absolute_alike : (khz : ℕ) (x z : Indices) → Alike y (Both with_lag x z) (absolute_lag khz x) (absolute_lag khz z)
  unfolding absolute_lag
  absolute_alike khz x z = asked (asked (ended (both _)))

  lag_alike : (relative : Bool) (khz : ℕ) (before : ℤ) (x z : Indices) → Alike y (Both with_lag x z) (lag relative khz before x) (lag relative khz before z)
  unfolding lag
  lag_alike relative khz before x z = by_test relative (λ e. asked (absolute_alike khz x z)) (λ e. absolute_alike khz x z)

  contour_alike : (khz n : ℕ) (x z : Indices) → Alike y (Both with_contour x z) (contour khz n x) (contour khz n z)
  unfolding contour
  contour_alike khz n x z = asked (ended (both _))

  filters_alike : (p n k e : ℕ) (x z : Indices) (l : List ℤ) → k + n ≡ e → length l ≡ length x.ltp → e ≤ length l → e ≤ length z.ltp
      → Alike y (Filtered e x z) (filters p n k (with_filters x l)) (filters p n k (with_filters z (front k l z.ltp)))
  unfolding filters
  filters_alike p zero k e x z l q h i j = ended (fronts_done k e x z l (omega arith) h)
  filters_alike p (suc n) k e x z l q h i j =
      let v = pos (said_at y.ltp k) in
      asked (subst (λ (r : List ℤ). Alike y (Filtered e x z) (filters p n (suc k) (with_filters x (set l k v))) (filters p n (suc k) (with_filters z r)))
      (set_front k l z.ltp v (omega arith) (omega arith))
      (filters_alike p n (suc k) e x z (set l k v) (omega arith) (length-set l k v ∙ h) (omega (arith, length-set l k v)) j))

  period_alike : (n : ℕ) (x z : Indices) → n ≤ length x.ltp → n ≤ length z.ltp
      → Alike y (Filtered n (with_period x (said y.period)) (with_period z (said y.period))) (period n x) (period n z)
  unfolding period
  period_alike n x z h i =
      let p = said y.period in
      asked (filters_alike p n 0 n (with_period x p) (with_period z p) x.ltp (omega arith) refl h i)

  module _ (s : Setting) (x z : Indices) (h : s.subframes ≤ length x.ltp) (i : s.subframes ≤ length z.ltp) where
    abbrev Alike_pitch : Asks Indices Indices → Asks Indices Indices → Type 0
    Alike_pitch = Alike y (Pitched s.subframes x z)

    -- the syntax from the contour and from the filters on
    abbrev from_filters : Indices → Asks Indices Indices
    from_filters a = then (period s.subframes a) (scale s.mode)

    abbrev from_contour : Indices → Asks Indices Indices
    from_contour a = then (contour s.khz s.subframes a) from_filters

    pitch_alike : Alike_pitch (pitch s x) (pitch s z)
    unfolding pitch scale
    pitch_alike = alike_then _ _ (lag_alike (relative_lag s) s.khz s.prevlag x z) after_lag
      where
        after_period : (g : ℤ) (c p : ℕ) (a b : Indices)
            → Filtered s.subframes (with_period (with_contour (with_lag x g) c) p) (with_period (with_contour (with_lag z g) c) p) a b
            → Alike_pitch (scale s.mode a) (scale s.mode b)
        after_period g c p a b (fronts l e) = by_test (eqb s.mode 0) (λ t. asked (ended (pitched g c p l _))) (λ t. ended (pitched g c p l 0))

        after_contour : (g : ℤ) (a b : Indices) → Both with_contour (with_lag x g) (with_lag z g) a b → Alike_pitch (from_filters a) (from_filters b)
        after_contour g a b (both c) =
            alike_then _ _ (period_alike s.subframes (with_contour (with_lag x g) c) (with_contour (with_lag z g) c) h i) (after_period g c _)

        after_lag : (a b : Indices) → Both with_lag x z a b → Alike_pitch (from_contour a) (from_contour b)
        after_lag a b (both g) = alike_then _ _ (contour_alike s.khz s.subframes (with_lag x g) (with_lag z g)) (after_contour g)

    voicing_alike : (signal : ℕ) → Alike y (Voiced signal s.subframes x z) (voicing signal s x) (voicing signal s z)
    unfolding voicing
    voicing_alike signal =
        by_test (eqb signal 2) (λ e. alike_in (λ a b p. voiced e p) pitch_alike) (λ e. ended (unvoiced e))

-- ---- the whole

module _ (s : Setting) (y x z : Indices) (f : Subframes s.subframes) (h : Shape x) (i : Shape z) where
  abbrev n : ℕ
  n = s.subframes

  abbrev places : ℕ
  places = suc (book_of s.khz).order

  -- both records with type k, gains g, spectrum m and interpolation v
  abbrev gains_x : ℕ → List ℤ → Indices
  gains_x k g = with_gains (with_kind x k) g

  abbrev gains_z : ℕ → List ℤ → Indices
  gains_z k g = with_gains (with_kind z k) (front n g z.gains)

  abbrev spectrum_x : ℕ → List ℤ → List ℤ → Indices
  spectrum_x k g m = with_nlsfs (gains_x k g) m

  abbrev spectrum_z : ℕ → List ℤ → List ℤ → Indices
  spectrum_z k g m = with_nlsfs (gains_z k g) (front places m z.nlsf)

  -- of the record that comes of x, z takes what the frame codes
  abbrev Over : Indices → Indices → Type 0
  Over a b = b ≡ overlaid s a z

  read_over : (k : ℕ) (g m : List ℤ) (v : ℕ) (a b : Indices)
      → Voiced (k / 2) n (with_interp (spectrum_x k g m) v) (with_interp (spectrum_z k g m) v) a b → (w : ℕ) → Over (with_seed a w) (with_seed b w)
  unfolding overlaid
  read_over k g m v a b (voiced e (pitched d c p q t)) w = rw e
  read_over k g m v a b (unvoiced e) w = rw e

  -- the syntax from voicing, interpolation and spectrum on
  abbrev from_voicing : ℕ → Indices → Asks Indices Indices
  from_voicing k a = then (voicing (k / 2) s a) seed

  abbrev from_interpolation : ℕ → Indices → Asks Indices Indices
  from_interpolation k a = then (interpolation n a) (from_voicing k)

  abbrev from_spectrum : ℕ → Indices → Asks Indices Indices
  from_spectrum k a = then (spectrum s.khz (k / 2) a) (from_interpolation k)

  few : n ≤ 4
  few = subframes_most f

  after_interpolation : (k : ℕ) (g m : List ℤ) (a b : Indices) → Both with_interp (spectrum_x k g m) (spectrum_z k g m) a b
      → Alike y Over (from_voicing k a) (from_voicing k b)
  unfolding seed
  after_interpolation k g m a b (both v) =
      alike_then _ _
      (voicing_alike y s (with_interp (spectrum_x k g m) v) (with_interp (spectrum_z k g m) v) (omega (arith, few, h.ltp)) (omega (arith, few, i.ltp)) (k / 2))
      (λ c d p. asked (ended (read_over k g m v c d p _)))

  after_spectrum : (k : ℕ) (g : List ℤ) (a b : Indices) → Nlsfed places (gains_x k g) (gains_z k g) a b
      → Alike y Over (from_interpolation k a) (from_interpolation k b)
  after_spectrum k g a b (fronts m e) =
      alike_then _ _ (interpolation_alike y n (spectrum_x k g m) (spectrum_z k g m)) (after_interpolation k g m)

  after_gains : (k : ℕ) (a b : Indices) → Gained n (with_kind x k) (with_kind z k) a b → Alike y Over (from_spectrum k a) (from_spectrum k b)
  after_gains k a b (fronts g e) =
      let o = order_most s.khz in
      alike_then _ _ (spectrum_alike y s.khz (k / 2) (gains_x k g) (gains_z k g) (omega (arith, h.nlsf, o)) (omega (arith, i.nlsf, o)))
      (after_spectrum k g)

  indices_alike : Alike y Over (indices s x) (indices s z)
  unfolding indices
  indices_alike =
      alike_behind (kind s.active) _ _ (λ k.
      alike_then _ _
      (gains_alike y s.mode n (k / 2) (with_kind x k) (with_kind z k) (omega (arith, subframes_least f)) (omega (arith, few, h.gains))
      (omega (arith, few, i.gains)))
      (after_gains k))

-- ---- a record that may be written

module _ (s : Setting) (x z : Indices) (f : Subframes s.subframes) (h : Shape x) (i : Shape z) where
  -- it is said alike whatever record the syntax starts from
  pub says_alike : symbols x (indices s x) ≡ symbols x (indices s z)
  says_alike = alike_symbols (indices_alike s x x z f h i)

  -- and means that record with what the frame codes
  pub means_overlaid : sayable s x ≡ true → meant x (indices s z) ≡ overlaid s x z
  means_overlaid e = alike_meant (indices_alike s x x z f h i) ∙ ap (λ (a : Indices). overlaid s a z) (meant_is s x e)

-- ---- what a record over another is

-- over itself it is itself
pub overlaid_itself : (s : Setting) (x : Indices) → overlaid s x x ≡ x
unfolding overlaid
overlaid_itself s x = go (voiced_in x) refl
  where
    same_gains : front s.subframes x.gains x.gains ≡ x.gains
    same_gains = take-append-drop s.subframes x.gains

    same_filters : front s.subframes x.ltp x.ltp ≡ x.ltp
    same_filters = take-append-drop s.subframes x.ltp

    same_nlsf : front (suc (book_of s.khz).order) x.nlsf x.nlsf ≡ x.nlsf
    same_nlsf = take-append-drop (suc (book_of s.khz).order) x.nlsf

    go : (t : Bool) → voiced_in x ≡ t → overlaid s x x ≡ x
    go true e = rw (e, same_gains, same_filters, same_nlsf)
    go false e = rw (e, same_gains, same_nlsf)

-- its fields lie in the ranges that a reader gives, and those that the frame does not read are z's
pub overlaid_kept : (s : Setting) (x z : Indices) → Chosen s → Shape x → Shape z → sayable s x ≡ true → ReadOver s z (overlaid s x z)
overlaid_kept s x z c h i e =
    let f = c.subframes in
    subst (ReadOver s z) (means_overlaid s x z f h i e)
    (ends_meant x (indices_end s z c.rate f i c.active) (ap all_said (sym (says_alike s x z f h i)) ∙ all_said_lem s x e))
