-- What a packet that keeps the rules gives. Assumes nothing.
use Prim.Native.Nat.{ℕ, ◌+◌, ◌-◌, ◌≤◌}
use mathlib.Core.Path.{◌≡◌, sym, ap, subst, ◌∙◌}
use mathlib.Core.Bool.{true}
use mathlib.Core.List.{List, [], ◌∷◌, ◌++◌}
use native.Mathlib.Omega.{arith}
use lib.ListN.{length}
use Rattle.framing.specs.declared.Form.{Form}
use Rattle.framing.specs.Lengths.{lengths, widths, total}
use Rattle.framing.specs.Form.{form_of, behind, firsts, head, room, sizes}
use Rattle.framing.proofs.Kept.{KeptBy, kept, head_varied, firsts_varied, sizes_varied}
use Rattle.framing.proofs.Whole.{sizes_count, whole}
use Rattle.packet_span.proofs.SpanLaws.{last_varied, last_most}
use Rattle.packet_places.specs.Inner.{Spanned}

module _ (s : List ℕ) (f : Form) (h last : ℕ) (p : Spanned s f h last) where
  pub by_form : KeptBy f s
  by_form = subst (λ (g : Form). KeptBy g s) (sym p.form) (kept s p.rules)

  pub many : length (sizes f s) ≡ f.count
  many = sizes_count f s by_form

  pub last_small : last ≤ 1275
  last_small = omega (arith, p.last, last_most s f p.form by_form)

  pub head_is : h ≡ head f s
  head_is = p.head ∙ ap (λ (g : Form). head g s) (sym p.form)

  pub inside : h ≤ length s
  inside = omega (arith, p.head, whole (form_of s) s (kept s p.rules))

  pub start_near : h ≤ 16384
  start_near = omega (arith, inside, p.short)

  pub sizes_read : f.varied ≡ true → lengths (f.count - 1) (behind f s) ++ (last ∷ []) ≡ sizes f s
  sizes_read v =
      sym
      (sizes_varied f s v
      ∙ ap (λ (a : List ℕ). a ++ ((room f s - total (firsts f s)) ∷ [])) (firsts_varied f s v)
      ∙ ap (λ (n : ℕ). lengths (f.count - 1) (behind f s) ++ (n ∷ [])) (sym (p.last ∙ last_varied s f p.form v)))

  -- as many bytes of lengths as there are lengths
  pub ones : f.varied ≡ true → h ≡ f.own + f.lens + (f.count - 1) → widths (f.count - 1) (behind f s) ≡ f.count - 1
  ones v e = omega (arith, head_is, head_varied f s v)
