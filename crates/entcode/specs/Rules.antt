-- What a call's own numbers are refused for (document 01): 4 for one outside its range, 5 for a table, 8 for a value
-- that cannot be written; 0 for none. Assumes nothing.
use Rattle.std.specs.Prelude.{ℕ, ◌^◌, Bool, ◌&&◌, cond, leb, ltb}
use Rattle.icdf.specs.Test.{icdf_rule, symbol_rule}
use Rattle.entcode.specs.Models.{Model, bit, raw, num, tab}

-- exponent 1 to 15; raw bits 1 to 25; total 2 to 4,294,967,295
abbrev pub exponent_ok : ℕ → Bool
exponent_ok lp = leb 1 lp && leb lp 15

abbrev pub count_ok : ℕ → Bool
count_ok n = leb 1 n && leb n 25

abbrev pub number_ok : ℕ → Bool
number_ok ft = leb 2 ft && ltb ft (2 ^ 32)

-- of a read
abbrev pub ask_rule : Model → ℕ
ask_rule (bit lp) = cond (exponent_ok lp) 0 4
ask_rule (raw n) = cond (count_ok n) 0 4
ask_rule (num ft) = cond (number_ok ft) 0 4
ask_rule (tab scale t) = icdf_rule scale t

-- of a write
abbrev pub say_rule : Model → ℕ → ℕ
say_rule (bit lp) v = cond (exponent_ok lp) (cond (leb v 1) 0 8) 4
say_rule (raw n) v = cond (count_ok n) (cond (ltb v (2 ^ n)) 0 8) 4
say_rule (num ft) v = cond (number_ok ft) (cond (ltb v ft) 0 8) 4
say_rule (tab scale t) v = symbol_rule scale t v
