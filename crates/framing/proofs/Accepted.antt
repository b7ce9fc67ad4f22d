-- What an accepted packet keeps, and what reading answers of it. Assumes nothing.
use Prim.Native.Nat.{ℕ, zero, suc, ◌-◌, ◌≤◌, ◌<◌}
use mathlib.Core.Path.{◌≡◌, refl, ap, ◌∙◌}
use mathlib.Core.Bool.{Bool, true, false, ◌&&◌, cond}
use mathlib.Core.List.{List, [], ◌∷◌, ◌++◌}
use native.Mathlib.Omega.{arith}
use borrow.Author.Tests.{eq-eqb, ne_eqb, eqb-true, leb-true, le-leb, lt-leb}
use lib.Dec.{eqb, leb}
use lib.ListN.{length, get_or, replicate}
use Rattle.deciding.proofs.Both.{both_and, and_both}
use Rattle.deciding.proofs.Choice.{chosen}
use Rattle.refusals.specs.First.{first_of}
use Rattle.refusals.proofs.FirstLaws.{first_none, none_first}
use Rattle.framing.specs.declared.Packet.{Packet}
use Rattle.framing.specs.Toc.{config_of, stereo_of}
use Rattle.framing.specs.Rules.{keeps}
use Rattle.framing.specs.Reading.{unless, speech, read_rule, accepted, refused, packet_read, twelve}

pub passes : (t : Bool) (n : ℕ) → 0 < n → unless t n ≡ 0 → t ≡ true
passes true n h e = refl
passes false n h e = absurd (omega arith)

pub passed : (t : Bool) (n : ℕ) → t ≡ true → unless t n ≡ 0
passed t n e = rw e

pub record Readable (s : List ℕ) : Type 0 where
  pub short : length s ≤ 16384
  pub rules : keeps s ≡ true
  pub config : config_of s ≤ 11
  pub mono : stereo_of s ≡ 0

pub readable : (s : List ℕ) → read_rule s ≡ 0 → Readable s
unfolding read_rule
readable s e =
    let p = first_none (unless (leb (length s) 16384) 1) (first_of (unless (keeps s) 10) (unless (speech s) 11)) e in
    let q = first_none (unless (keeps s) 10) (unless (speech s) 11) p.1 in
    let r = and_both (leb (config_of s) 11) (eqb (stereo_of s) 0) (passes _ 11 (omega arith) q.1) in
    record {
      short = leb-true _ _ (passes _ 1 (omega arith) p.0);
      rules = passes _ 10 (omega arith) q.0;
      config = leb-true _ _ r.0;
      mono = eqb-true _ _ r.1;
    }

pub reads : (s : List ℕ) → Readable s → read_rule s ≡ 0
unfolding read_rule
reads s r =
    none_first _ _ (passed (leb (length s) 16384) 1 (le-leb _ _ r.short))
    (none_first _ _ (passed (keeps s) 10 r.rules)
    (passed (speech s) 11 (both_and (leb (config_of s) 11) (eqb (stereo_of s) 0) (le-leb _ _ r.config) (eq-eqb _ _ r.mono))))

-- the call's refusal is the rule's
pub rule_zero : (s : List ℕ) → (packet_read s).refusal ≡ 0 → read_rule s ≡ 0
unfolding packet_read accepted
rule_zero s =
    chosen (λ (a : Packet). a.refusal ≡ 0 → read_rule s ≡ 0) (eqb (read_rule s) 0) (λ t e. eqb-true _ _ t) (λ t e. e)

pub answer_is : (s : List ℕ) → read_rule s ≡ 0 → packet_read s ≡ accepted s
unfolding packet_read
answer_is s e = ap (λ (t : Bool). cond t (accepted s) (refused (read_rule s))) (eq-eqb _ _ e)

-- zeros behind a list change no entry
zeros_default : (n i : ℕ) → get_or {A = ℕ} (replicate n 0) i 0 ≡ 0
zeros_default zero i = refl
zeros_default (suc n) zero = refl
zeros_default (suc n) (suc i) = zeros_default n i

pub twelve_at : (l : List ℕ) (i : ℕ) → get_or (twelve l) i 0 ≡ get_or l i 0
twelve_at l i = go l (12 - length l) i
  where
    go : (l : List ℕ) (n i : ℕ) → get_or (l ++ replicate n 0) i 0 ≡ get_or l i 0
    go [] n i = zeros_default n i
    go (x ∷ l) n zero = refl
    go (x ∷ l) n (suc i) = go l n i

-- ---- which refusal

pub rule_one : (s : List ℕ) → 16384 < length s → read_rule s ≡ 1
unfolding read_rule first_of
rule_one s h = rw (lt-leb (length s) 16384 h)

pub rule_ten : (s : List ℕ) → length s ≤ 16384 → keeps s ≡ false → read_rule s ≡ 10
unfolding read_rule first_of
rule_ten s h k = rw (le-leb (length s) 16384 h, k)

pub rule_eleven : (s : List ℕ) → length s ≤ 16384 → keeps s ≡ true → speech s ≡ false → read_rule s ≡ 11
unfolding read_rule first_of
rule_eleven s h k q = rw (le-leb (length s) 16384 h, k, q)

pub refused_is : (s : List ℕ) (n : ℕ) → read_rule s ≡ n → 0 < n → packet_read s ≡ refused n
unfolding packet_read
refused_is s n e h =
    ap (λ (t : Bool). cond t (accepted s) (refused (read_rule s))) (ne_eqb (read_rule s) 0 (λ z. omega arith)) ∙ ap refused e

pub not_speech : (s : List ℕ) → 11 < config_of s → speech s ≡ false
not_speech s h = rw (lt-leb (config_of s) 11 h)

pub stereo_not : (s : List ℕ) → stereo_of s ≡ 1 → speech s ≡ false
stereo_not s e = go (leb (config_of s) 11)
  where
    off : eqb (stereo_of s) 0 ≡ false
    off = ne_eqb (stereo_of s) 0 (λ z. omega arith)

    go : (t : Bool) → t && eqb (stereo_of s) 0 ≡ false
    go true = off
    go false = refl
