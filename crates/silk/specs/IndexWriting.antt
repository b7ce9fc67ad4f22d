-- What the call that writes a frame's side indices answers, and what it leaves in the buffer (document 01, "Side
-- indices"): the symbols that the record says along the frame's syntax, started from the record itself. Refused with
-- 8 exactly if one of them cannot be written, or if they mean another record. Assumes nothing.
use Rattle.std.specs.Prelude.{ℕ, Bool, true, false, ◌&&◌, cond, List, [], ◌∷◌, eqb, ℤ, nat_abs}
use Rattle.ints.specs.Parts.{up, down}
use Rattle.refusals.specs.First.{first_of}
use Rattle.entcode.specs.Flat.{Out}
use Rattle.entcode.specs.Sound.{gate_w}
use Rattle.tree.specs.Asks.{symbols, meant}
use Rattle.tree.specs.Telling.{written_all, all_said}
use Rattle.silk.specs.declared.Indices.{Indices}
use Rattle.silk.specs.declared.IndicesWritten.{IndicesWritten}
use Rattle.silk.specs.declared.Setting.{Setting}
use Rattle.silk.specs.IndexSyntax.{indices}
use Rattle.silk.specs.FrameCalls.{setting_ok, next_lag}

-- ---- one record or two

abbrev pub same_z : ℤ → ℤ → Bool
same_z a b = eqb (up a) (up b) && eqb (down a) (down b)

abbrev pub same_zs : List ℤ → List ℤ → Bool
same_zs [] [] = true
same_zs [] (b ∷ m) = false
same_zs (a ∷ l) [] = false
same_zs (a ∷ l) (b ∷ m) = same_z a b && same_zs l m

unfoldable pub same_indices : Indices → Indices → Bool
same_indices x y =
    same_zs x.gains y.gains && (same_zs x.ltp y.ltp && (same_zs x.nlsf y.nlsf
    && (same_z x.lag y.lag && (same_z x.contour y.contour
    && (same_z x.signal y.signal && (same_z x.offset y.offset
    && (same_z x.interp y.interp && (same_z x.period y.period
    && (same_z x.scale y.scale && same_z x.seed y.seed)))))))))

-- ---- the call

-- each symbol may be written, and they mean this record
unfoldable pub sayable : Setting → Indices → Bool
sayable s x = all_said (symbols x (indices s x)) && same_indices (meant x (indices s x)) x

abbrev pub tell_rule : Out → Setting → Indices → ℕ
tell_rule o s x = first_of (gate_w o.buf o.state) (first_of (cond (setting_ok s) 0 4) (cond (sayable s x) 0 8))

-- the buffer after a call, and its answer
pub record IndicesSent : Type 0 where
  pub buf : List ℕ
  pub answer : IndicesWritten

-- the previous lag and type that the reader hands back
abbrev pub indices_told : Setting → Indices → Out → IndicesSent
indices_told s x o =
    record {
      buf = o.buf;
      answer = record { refusal = 0; state = o.state; prevtype = nat_abs x.signal; prevlag = next_lag s.prevlag x };
    }

abbrev pub indices_untold : ℕ → Setting → Out → IndicesSent
indices_untold n s o =
    record {
      buf = o.buf;
      answer = record { refusal = n; state = o.state; prevtype = s.prevtype; prevlag = s.prevlag };
    }

unfoldable pub encode_indices : Out → Indices → Setting → IndicesSent
encode_indices o x s =
    cond (eqb (tell_rule o s x) 0)
    (indices_told s x (written_all o (symbols x (indices s x))))
    (indices_untold (tell_rule o s x) s o)
