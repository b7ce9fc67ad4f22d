-- Laws of a frame's types: what an accepted call was given, and that its answer is the first symbol of the type row. Assumes nothing.
use Prim.Native.Nat.{ℕ, ◌+◌, ◌*◌, ◌≤◌, ◌<◌}
use mathlib.Core.Path.{◌≡◌, ap, subst⁻¹, ◌∙◌}
use mathlib.Core.List.{List}
use native.Mathlib.Omega.{arith}
use borrow.Author.Tests.{eq-eqb, ne_eqb, le-leb}
use lib.ListN.{length}
use Rattle.deciding.proofs.Choice.{chosen_le}
use Rattle.icdf.specs.Rule.{Icdf}
use Rattle.icdf.proofs.RuleLaws.{icdf_accepts}
use Rattle.refusals.proofs.FirstLaws.{first_none, none_first}
use Rattle.sheet.specs.Directory.{type_row}
use Rattle.entcode.specs.declared.Decoded.{Decoded}
use Rattle.entcode.specs.Models.{tab}
use Rattle.entcode.specs.Reader.{opened, read_val, Bytes}
use Rattle.entcode.proofs.ReadLaws.{read_inside}
use Rattle.entcode.specs.Reading.{dec_open, dec_sym}
use Rattle.tree.specs.Asks.{run}
use Rattle.silk.specs.IndexSyntax.{kind}
use Rattle.packet_view.proofs.Opening.{opens, first_runs}
use Rattle.frame_type.specs.Kind.{type_rule, types_of, refused_type, frame_type}

pub type_accepts : (b : List ℕ) (active : ℕ) → type_rule b active ≡ 0 → (length b ≤ 1275) × (active < 2)
unfolding type_rule dec_open
type_accepts b active e =
    let f = first_none (dec_open b).refusal _ e in (
      chosen_le (λ (a : Decoded). a.refusal ≡ 0 → length b ≤ 1275) (length b) 1275 (λ h z. h) (λ h z. absurd (omega arith)) f.0,
      chosen_le (λ (n : ℕ). n ≡ 0 → active < 2) active 1 (λ h z. omega arith) (λ h z. absurd (omega arith)) f.1,
    )

pub type_passes : (b : List ℕ) (active : ℕ) → length b ≤ 1275 → active < 2 → type_rule b active ≡ 0
unfolding type_rule
type_passes b active short flag = none_first _ _ (ap (λ (a : Decoded). a.refusal) (opens b short)) (let l : active ≤ 1 = omega arith in rw (le-leb _ _ l))

-- the first symbol of the type row t gives the types
pub record Types (b : List ℕ) (active : ℕ) (t : List ℕ) : Type 0 where
  pub inside : (dec_sym b (dec_open b).state (tab 8 t)).value < length t
  pub is : types_of ((dec_sym b (dec_open b).state (tab 8 t)).value + active * 2) ≡ frame_type b active

pub first_types : (b : List ℕ) (active : ℕ) (t : List ℕ) → Bytes b → Icdf 8 t → t ≡ type_row active → type_rule b active ≡ 0 → Types b active t
unfolding frame_type kind run
first_types b active t y good e z =
    let short = (type_accepts b active z).0 in
    let v : (dec_sym b (dec_open b).state (tab 8 t)).value ≡ read_val b (tab 8 t) (opened b) =
    ap (λ (a : Decoded). a.value) (first_runs b (tab 8 t) y short (icdf_accepts 8 t good)) in
    record {
      inside = subst⁻¹ (λ (n : ℕ). n < length t) v (read_inside b (tab 8 t) (opened b) good);
      is = rw (v, eq-eqb _ _ z, opens b short, e);
    }

pub refused_types : (b : List ℕ) (active n : ℕ) → n ≡ type_rule b active → (n ≡ 0 → ⊥) → refused_type n ≡ frame_type b active
unfolding frame_type
refused_types b active n e h = rw (e, ne_eqb (type_rule b active) 0 (λ z. h (e ∙ z)))
