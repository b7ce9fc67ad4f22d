-- What reading answers of a packet that keeps the rules, put together. Assumes nothing.
use Prim.Native.Nat.{ℕ, ◌+◌, ◌/◌, ◌%◌, ◌≤◌}
use mathlib.Core.Path.{◌≡◌, sym, ap, ◌∙◌}
use mathlib.Core.Bool.{Bool, true, false, cond}
use mathlib.Core.List.{List}
use native.Mathlib.Omega.{arith}
use Rattle.std.specs.Prelude.{Some, None}
use Rattle.std.proofs.lemmas.Option.{same_Some, none-some}
use lib.ListN.{length, get_or}
use Rattle.framing.specs.declared.Form.{Form}
use Rattle.framing.specs.declared.Packet.{Packet}
use Rattle.framing.specs.Toc.{config_of, code_of, stereo_of}
use Rattle.framing.specs.Form.{form_of, head, sizes, sizes_of, head_of, padding_of}
use Rattle.framing.specs.Rules.{keeps}
use Rattle.framing.specs.Reading.{starts, twelve, accepted}
use Rattle.framing.proofs.Kept.{kept, by_bool}
use Rattle.framing.proofs.Whole.{sizes_count}
use Rattle.framing.proofs.Written.{at_most_twelve}
use Rattle.packet_share.specs.declared.Span.{Span}
use Rattle.packet_share.specs.Inner.{none, span}
use Rattle.packet_form.specs.Inner.{Bounded}
use Rattle.packet_span.specs.Inner.{last_by, span_of}
use Rattle.packet_places.specs.declared.Places.{Places}
use Rattle.packet_places.specs.Inner.{Spanned, Stands}
use Rattle.packet_read.specs.Inner.{answer_of}

-- ---- the answer

made : ℕ → ℕ → ℕ → ℕ → List ℕ → List ℕ → Packet
made c a n p st sz = record { refusal = 0; config = c; arrangement = a; count = n; padding = p; start = st; size = sz }

pub answered : (s : List ℕ) (f : Form) → f ≡ form_of s → keeps s ≡ true → (toc : ℕ) → toc ≡ get_or s 0 0 → (h : ℕ) → h ≡ head_of s
    → (st sz : List ℕ) → sz ≡ twelve (sizes f s) → st ≡ twelve (starts h (sizes f s))
    → record { refusal = 0; config = toc / 8; arrangement = toc % 4; count = f.count; padding = f.lens + f.pad; start = st; size = sz }
    ≡ accepted s
unfolding made accepted
answered s f e k toc t h g st sz q r =
    let m : length (sizes_of s) ≡ f.count = sizes_count (form_of s) s (kept s k) ∙ ap (λ (x : Form). x.count) (sym e) in
    let z : sz ≡ twelve (sizes_of s) = q ∙ ap (λ (x : Form). twelve (sizes x s)) e in
    let y : st ≡ twelve (starts (head_of s) (sizes_of s)) =
    r ∙ ap (λ (x : Form). twelve (starts h (sizes x s))) e ∙ ap (λ (n : ℕ). twelve (starts n (sizes_of s))) g in
    ap (λ (n : ℕ). made (n / 8) (n % 4) f.count (f.lens + f.pad) st sz) t
    ∙ ap (λ (n : ℕ). made (config_of s) (code_of s) n (f.lens + f.pad) st sz) (sym m)
    ∙ ap (λ (x : Form). made (config_of s) (code_of s) (length (sizes_of s)) (x.lens + x.pad) st sz) e
    ∙ ap (λ (x : List ℕ). made (config_of s) (code_of s) (length (sizes_of s)) (padding_of s) x sz) y
    ∙ ap (λ (x : List ℕ). made (config_of s) (code_of s) (length (sizes_of s)) (padding_of s) (twelve (starts (head_of s) (sizes_of s))) x) z

pub answer : (s : List ℕ) (f : Form) (head last toc : ℕ) (p : Places) (a : Packet) → Spanned s f head last → toc ≡ get_or s 0 0
    → Stands (sizes f s) head p → a ≡ answer_of f toc p → a ≡ accepted s
answer s f head last toc p a r t q e =
    e ∙ answered s f r.form r.rules toc t head r.head p.start p.size q.size q.start

-- ---- the span

pub record Told (s : List ℕ) (a : Span) : Type 0 where
  pub rules : keeps s ≡ true
  pub head : a.head ≡ head_of s
  pub last : a.last ≡ last_by (form_of s) s

pub told : (s : List ℕ) (a : Span) → Some a ≡ span_of s → Told s a
unfolding span_of
told s a e =
    by_bool (keeps s)
    (λ t.
    let q : Some a ≡ span (head (form_of s) s) (last_by (form_of s) s) =
    e ∙ ap (λ (b : Bool). cond b (span (head (form_of s) s) (last_by (form_of s) s)) none) t in
    let r = same_Some _ _ q in
    record { rules = t; head = ap (λ (x : Span). x.head) r; last = ap (λ (x : Span). x.last) r })
    (λ t.
    absurd (none-some _ (sym (e ∙ ap (λ (b : Bool). cond b (span (head (form_of s) s) (last_by (form_of s) s)) none) t))))

pub broke : (s : List ℕ) → None ≡ span_of s → keeps s ≡ false
unfolding span_of
broke s e =
    by_bool (keeps s)
    (λ t.
    absurd (none-some _ (e ∙ ap (λ (b : Bool). cond b (span (head (form_of s) s) (last_by (form_of s) s)) none) t)))
    (λ t. t)

-- what the placing of frames is told
pub placed : (s : List ℕ) (f : Form) (a : Span) → length s ≤ 16384 → f ≡ form_of s → Bounded f → Told s a → Spanned s f a.head a.last
placed s f a h e b t =
    record {
      short = h;
      rules = t.rules;
      form = e;
      bounds = b;
      head = t.head;
      last = t.last ∙ ap (λ (x : Form). last_by x s) (sym e);
    }

pub mono : (s : List ℕ) (b : ℕ) → b ≡ get_or s 0 0 → (b / 4 % 2 ≡ 1 → ⊥) → stereo_of s ≡ 0
mono s b e h = let z : b / 4 % 2 ≡ 0 = omega arith in ap (λ (n : ℕ). n / 4 % 2) (sym e) ∙ z

pub twelve_count : (s : List ℕ) (f : Form) → f ≡ form_of s → keeps s ≡ true → config_of s ≤ 11 → f.count ≤ 12
twelve_count s f e k c =
    let n : f.count ≡ (form_of s).count = ap (λ (x : Form). x.count) e in
    omega (arith, at_most_twelve (form_of s).count (config_of s) c (kept s k).time)
