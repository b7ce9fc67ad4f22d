-- What a fresh reader is: sound, so that the first read is accepted wherever its own numbers are. Assumes nothing.
use Prim.Native.Nat.{ℕ, ◌≤◌}
use mathlib.Core.Path.{◌≡◌, refl, sym, ap, ◌∙◌}
use mathlib.Core.List.{List}
use native.Mathlib.Nat.{mod-lt}
use native.Mathlib.Omega.{arith}
use borrow.Author.Tests.{le-leb}
use lib.Pow.{pow_pos}
use lib.ListN.{length}
use Rattle.refusals.proofs.FirstLaws.{none_first}
use Rattle.entcode.specs.declared.Decoded.{Decoded}
use Rattle.entcode.specs.Models.{Model}
use Rattle.entcode.specs.Rules.{ask_rule}
use Rattle.entcode.specs.Reader.{after, settled, opened, read_val, read_next, Bytes}
use Rattle.entcode.specs.Reading.{gives, dec_open, dec_sym}
use Rattle.entcode.proofs.ReadingLaws.{Open, gate_pass, call_runs}

pub opens : (b : List ℕ) → length b ≤ 1275 → dec_open b ≡ gives 0 (opened b)
unfolding dec_open
opens b short = rw (le-leb _ _ short)

pub opened_open : (b : List ℕ) → Bytes b → length b ≤ 1275 → Open b (opened b)
unfolding opened settled
opened_open b y short =
    record {
      sound = record {
        core = record {
          short = short;
          above = omega arith;
          most = omega arith;
          inside = mod-lt _ (pow_pos 31);
          kept = omega arith;
          place = omega arith;
          back = omega arith;
          held = omega (arith, y (after b (after b (after b 0))));
          flag = omega arith;
          used = omega arith;
          slim = omega arith;
        };
        least = omega arith;
        most = omega arith;
      };
      low = omega arith;
    }

-- the first read of a packet
pub first_runs : (b : List ℕ) (m : Model) → Bytes b → length b ≤ 1275 → ask_rule m ≡ 0
    → dec_sym b (dec_open b).state m ≡ gives (read_val b m (opened b)) (read_next b m (opened b))
first_runs b m y short z =
    ap (λ (a : Decoded). dec_sym b a.state m) (opens b short)
    ∙ sym (call_runs b (opened b) m 0 (sym (none_first _ _ (gate_pass b (opened b) (opened_open b y short)) z)) refl)
