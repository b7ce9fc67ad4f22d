-- The form of a packet of arrangement 3, by the bits of its count byte. Assumes nothing.
use Prim.Native.Nat.{ℕ, ◌/◌, ◌%◌}
use mathlib.Core.Path.{◌≡◌, sym, ap, ◌∙◌}
use mathlib.Core.Bool.{Bool, true, false, cond}
use mathlib.Core.List.{List}
use borrow.Author.Tests.{eq-eqb, ne_eqb}
use lib.Dec.{eqb}
use lib.ListN.{get_or, drop}
use Rattle.framing.specs.declared.Form.{Form}
use Rattle.framing.specs.Toc.{code_of}
use Rattle.framing.specs.Padding.{pad_lengths, pad_bytes}
use Rattle.framing.specs.Form.{counted, form_of}
use Rattle.framing.proofs.Kept.{form_3}

module _ (s : List ℕ) (c : code_of s ≡ 3) (b : ℕ) (e : b ≡ get_or s 1 0) where
  form_at : form_of s ≡ counted b (drop 2 s)
  form_at = form_3 s c ∙ ap (λ (n : ℕ). counted n (drop 2 s)) (sym e)

  abbrev pub three : ℕ → ℕ → Form
  three l p = record { count = b % 64; varied = eqb (b / 128 % 2) 1; own = 2; lens = l; pad = p }

  by_flag : (t : Bool) → eqb (b / 64 % 2) 1 ≡ t → three (cond t (pad_lengths (drop 2 s)) 0) (cond t (pad_bytes (drop 2 s)) 0) ≡ form_of s
  by_flag t q = sym (form_at ∙ ap (λ (u : Bool). three (cond u (pad_lengths (drop 2 s)) 0) (cond u (pad_bytes (drop 2 s)) 0)) q)

  pub form_padded : b / 64 % 2 ≡ 1 → (l p : ℕ) → l ≡ pad_lengths (drop 2 s) → p ≡ pad_bytes (drop 2 s) → three l p ≡ form_of s
  form_padded q l p i j = ap (λ (m : ℕ). three m p) i ∙ ap (λ (m : ℕ). three (pad_lengths (drop 2 s)) m) j ∙ by_flag true (eq-eqb _ _ q)

  pub form_unpadded : (b / 64 % 2 ≡ 1 → ⊥) → three 0 0 ≡ form_of s
  form_unpadded q = by_flag false (ne_eqb _ _ q)
