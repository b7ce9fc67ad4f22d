-- The pieces put are the packet. Assumes nothing.
use Prim.Native.Nat.{ℕ, zero, suc, ◌+◌, ◌-◌, ◌*◌, ◌%◌, ◌≤◌, ◌<◌}
use mathlib.Core.Path.{◌≡◌, refl, sym, ap, subst, ◌∙◌}
use mathlib.Core.Bool.{Bool, true, false, not, cond}
use mathlib.Core.List.{List, [], ◌∷◌, ◌++◌}
use native.Mathlib.Omega.{arith}
use Rattle.std.specs.Prelude.{Ok}
use borrow.Author.Tests.{eq-eqb, ne_eqb, leb-true}
use lib.Dec.{eqb, ltb}
use lib.ListN.{length, get_or, drop, replicate, get_or-eq_default}
use Rattle.deciding.proofs.Choice.{by_lt}
use Rattle.lists.specs.Every.{every}
use Rattle.lists.proofs.EveryLaws.{every_at}
use Rattle.lists.specs.AtMost.{AtMost}
use Rattle.refusals.specs.declared.Refusal.{Refusal}
use Rattle.refusals.specs.Inner.{number_of}
use Rattle.refusals.proofs.RefusalLaws.{number_refuses}
use Rattle.framing.specs.Rules.{fits_frame}
use Rattle.framing.specs.Inner.{Writable}
use Rattle.framing.proofs.Shortest.{code_most, shortest_range}
use lib.Seq.{sets, sets-eq}
use Rattle.framing.specs.Toc.{by_code}
use Rattle.framing.specs.Lengths.{length_codes}
use Rattle.framing.specs.Padding.{pad_code, pad_tail}
use Rattle.framing.specs.Writing.{count_byte, laid, alike, shortest_code, bare, shortest, length_for, packet_of, write_rule, Wrote, packet_write}
use Rattle.framing.proofs.Written.{writable, packet_length}
use Rattle.packet_plan.specs.declared.Plan.{Plan}
use Rattle.packet_plan.specs.Inner.{Planned}
use Rattle.packet_shortest.specs.Inner.{codes_of}
use Rattle.packet_pieces.specs.Inner.{whole_of}
use Rattle.packet_shortest.proofs.CodeLaws.{but_last_take}
use Rattle.packet_plan.proofs.PlanLaws.{shortest_is}

by_three : (c : ℕ) (x : List ℕ) → c < 4 → cond (eqb c 3) x [] ≡ by_code c [] [] [] x
by_three zero x h = refl
by_three (suc zero) x h = refl
by_three (suc (suc zero)) x h = refl
by_three (suc (suc (suc zero))) x h = refl
by_three (suc (suc (suc (suc n)))) x h = absurd (omega arith)

pub whole_laid : (c code : ℕ) (v : Bool) (k : ℕ) (ns frames : List ℕ) → code < 4
    → whole_of (8 * c + code) (eqb code 3) k v ns frames ≡ laid (8 * c + code) v k ns frames (replicate (pad_tail k) 0)
unfolding laid
whole_laid c code v k ns frames h =
    let t = 8 * c + code in
    let x = count_byte (length ns) v k ∷ pad_code k in
    let z = frames ++ replicate (pad_tail k) 0 in
    let e : t % 4 ≡ code = omega arith in
    let f : cond (eqb code 3) x [] ≡ by_code (t % 4) [] [] [] x = by_three code x h ∙ ap (λ (n : ℕ). by_code n [] [] [] x) (sym e) in
    ap (λ (l : List ℕ). t ∷ (l ++ (cond v (codes_of ns (length ns - 1)) [] ++ z))) f
    ∙ ap (λ (l : List ℕ). t ∷ (by_code (t % 4) [] [] [] x ++ (cond v (length_codes l) [] ++ z))) (sym (but_last_take ns))

code_less : (ns : List ℕ) (t : Bool) → cond t (shortest_code ns) 3 < 4
code_less ns true = omega (arith, code_most ns)
code_less ns false = omega arith

-- the numbers that the code works out
pub record Worked (p : Plan) (k x code : ℕ) : Type 0 where
  pub pads : k ≡ p.length - (2 + p.bare)
  pub least : x ≡ cond (ltb p.code 3) 1 2 + p.bare
  pub coded : code ≡ cond (eqb p.length x) p.code 3

module _ (ns : List ℕ) (p : Plan) (q : (p.same ≡ alike ns) × (p.code ≡ shortest_code ns) × (p.bare ≡ bare ns)) where
  code_is : {k x code : ℕ} → Worked p k x code → code ≡ cond (eqb p.length (shortest ns)) (shortest_code ns) 3
  code_is {k} {x} {code} r =
      r.coded ∙ ap (λ (n : ℕ). cond (eqb p.length n) p.code 3)
      (shortest_is ns p.code p.bare x q.1 q.2 r.least)
      ∙ ap (λ (n : ℕ). cond (eqb p.length (shortest ns)) n 3) q.1

  pub code_four : {k x code : ℕ} → Worked p k x code → code < 4
  code_four r = omega (arith, code_is r, code_less ns (eqb p.length (shortest ns)))

  pub whole_is : (c : ℕ) (frames : List ℕ) {k x code : ℕ} → Worked p k x code
      → whole_of (8 * c + code) (eqb code 3) k (not p.same) ns frames ≡ packet_of c ns frames p.length
  unfolding packet_of
  whole_is c frames {k} {x} {code} r =
      let v : not p.same ≡ not (alike ns) = ap not q.0 in
      let m = p.length - (2 + bare ns) in
      let j : k ≡ m = r.pads ∙ ap (λ (n : ℕ). p.length - (2 + n)) q.2 in
      ap (λ (u : Bool). whole_of (8 * c + code) (eqb code 3) k u ns frames) v
      ∙ ap (λ (n : ℕ). whole_of (8 * c + code) (eqb code 3) n (not (alike ns)) ns frames) j
      ∙ whole_laid c code (not (alike ns)) m ns frames (code_four r)
      ∙ ap (λ (n : ℕ). laid (8 * c + n) (not (alike ns)) m ns frames (replicate (pad_tail m) 0)) (code_is r)

pub small_most : (ns : List ℕ) → every fits_frame ns ≡ true → AtMost 1275 ns
small_most ns e i =
    by_lt i (length ns) (λ h. leb-true (get_or ns i 0) 1275 (every_at fits_frame ns 0 e i h))
    (λ h. omega (arith, get_or-eq_default ns 0 {n = i} h))

pub bare_short : {len c n m b : ℕ} {ns : List ℕ} → Writable len c n ns m → b ≡ bare ns → b ≤ 16384
bare_short {ns = ns} w e = omega (arith, w.long, w.room, w.buffer, (shortest_range ns).0, e)

-- ---- the call

-- a plan that is kept
pub planned : {len c n : ℕ} {ns : List ℕ} {l : ℕ} {p : Plan} → Planned len c n ns l (Ok p) → Writable len c n ns p.length
planned {len} {c} {n} {ns} {l} {p} d =
    subst (λ (m : ℕ). Writable len c n ns m) (sym d.runs.length) (writable len c n ns l (sym d.rule))

abbrev made : List ℕ → ℕ → ℕ → Wrote
made b r k = record { buf = b; answer = record { refusal = r; length = k } }

pub wrote_is : (buf out : List ℕ) (c : ℕ) (frames ns : List ℕ) (l m : ℕ) → out ≡ sets buf 0 (packet_of c ns frames m)
    → write_rule (length buf) c (length frames) ns l ≡ 0 → m ≡ length_for ns l
    → record { buf = out; answer = record { refusal = 0; length = m } } ≡ packet_write buf c frames ns l
unfolding packet_write
wrote_is buf out c frames ns l m o e q =
    let w = writable (length buf) c (length frames) ns l e in
    let m' = length_for ns l in
    let t = packet_of c ns frames m' in
    let z : length t ≡ m' = packet_length (length buf) c frames ns m' w in
    let n : 0 + length t ≡ m' = omega arith in
    let s : sets buf 0 t ≡ t ++ drop m' buf = sets-eq t buf 0 (omega (arith, w.room)) ∙ ap (λ (k : ℕ). t ++ drop k buf) n in
    ap (λ (b : List ℕ). made b 0 m) o
    ∙ ap (λ (k : ℕ). made (sets buf 0 (packet_of c ns frames k)) 0 k) q ∙ ap (λ (b : List ℕ). made b 0 m') s
    ∙ sym (ap (λ (b : Bool). cond b (made (t ++ drop m' buf) 0 m') (made buf (write_rule (length buf) c (length frames) ns l) 0))
    (eq-eqb (write_rule (length buf) c (length frames) ns l) 0 e))

pub kept_is : (buf : List ℕ) (c : ℕ) (frames ns : List ℕ) (l : ℕ) (r : Refusal)
    → number_of r ≡ write_rule (length buf) c (length frames) ns l
    → record { buf = buf; answer = record { refusal = number_of r; length = 0 } } ≡ packet_write buf c frames ns l
unfolding packet_write
kept_is buf c frames ns l r e =
    let n = write_rule (length buf) c (length frames) ns l in
    let m' = length_for ns l in
    ap (λ (k : ℕ). made buf k 0) e
    ∙ sym (ap (λ (b : Bool). cond b (made (packet_of c ns frames m' ++ drop m' buf) 0 m') (made buf n 0))
    (ne_eqb n 0 (λ z. number_refuses r (e ∙ z))))
