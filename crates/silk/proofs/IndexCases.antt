-- Worked cases of the side indices, over the syntax: which record some symbols lead to (document 01, case P13, and
-- "Side indices"). Assumes nothing.
use Prim.Native.Nat.{ℕ}
use mathlib.Core.Path.{refl}
use mathlib.Core.List.{List, [], ◌∷◌}
use lib.IntN.{pos, negsuc}
use Rattle.ints.specs.Wrap.{wrap16}
use Rattle.sheet.specs.Directory.{delta_lag_row, lag_row, lag_low_row, extension_row}
use Rattle.entcode.specs.Models.{Sym, tab}
use Rattle.tree.proofs.AsksLaws.{Leads}
use Rattle.silk.specs.declared.Indices.{Indices}
use Rattle.silk.specs.Record.{with_lag}
use Rattle.silk.proofs.RecordLaws.{with_interp, with_scale}
use Rattle.silk.specs.IndexSyntax.{residual, interpolation, absolute_lag, lag, relative_in, scale}

-- symbol v of a row
abbrev symbol : List ℕ → ℕ → Sym
symbol r v = record { model = tab 8 r; value = v }

module _ (x : Indices) where
  -- P13: previous lag 32,767, delta 11 (symbol 20): -32,758
  pub lag_wraps : Leads (lag (relative_in 2 2) 8 (pos 32767) x) (symbol delta_lag_row 20 ∷ []) (with_lag x (negsuc 32757))
  unfolding lag wrap16
  lag_wraps = (refl, refl)

  -- delta symbol 0: an absolute lag follows
  pub delta_zero_absolute : Leads (lag (relative_in 2 2) 8 (pos 100) x) (symbol delta_lag_row 0 ∷ symbol lag_row 31 ∷ symbol (lag_low_row 8) 3 ∷ []) (with_lag x (pos 127))
  unfolding lag absolute_lag
  delta_zero_absolute = (refl, (refl, (refl, refl)))

  -- no delta after an unvoiced frame, nor in mode 1
  pub unvoiced_absolute : Leads (lag (relative_in 2 1) 16 (pos 100) x) (symbol lag_row 31 ∷ symbol (lag_low_row 16) 7 ∷ []) (with_lag x (pos 255))
  unfolding lag absolute_lag
  unvoiced_absolute = (refl, (refl, refl))

  pub mode_one_absolute : Leads (lag (relative_in 1 2) 12 (pos 100) x) (symbol lag_row 31 ∷ symbol (lag_low_row 12) 5 ∷ []) (with_lag x (pos 191))
  unfolding lag absolute_lag
  mode_one_absolute = (refl, (refl, refl))

  -- scale is not read in mode 1
  pub scale_in_mode_one : Leads (scale 1 x) [] (with_scale x 0)
  unfolding scale
  scale_in_mode_one = refl

  -- interpolation is 4 for 2 subframes
  pub interpolation_of_two : Leads (interpolation 2 x) [] (with_interp x 4)
  unfolding interpolation
  interpolation_of_two = refl

-- symbol 0 takes an extension away, symbol 8 adds one: -10 and 10
pub residual_lowest : (r : List ℕ) → Leads (residual r) (symbol r 0 ∷ symbol extension_row 6 ∷ []) (negsuc 9)
unfolding residual
residual_lowest r = (refl, (refl, refl))

pub residual_highest : (r : List ℕ) → Leads (residual r) (symbol r 8 ∷ symbol extension_row 6 ∷ []) (pos 10)
unfolding residual
residual_highest r = (refl, (refl, refl))
