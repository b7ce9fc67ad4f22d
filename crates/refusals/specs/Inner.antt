-- The numbers of refusals: document 01's table, and document 02's after it. Assumes nothing.
use Rattle.std.specs.Prelude.{ℕ, Result, Ok, Err}
use Rattle.refusals.specs.declared.Refusal.{Refusal}
use Rattle.refusals.specs.declared.Refusal.TheVariants.{TooLong, Unsound, Total, Number, Table, Length, Gaps, Value, Input, Framing, NotSpeech}

abbrev pub number_of : Refusal → ℕ
number_of TooLong = 1
number_of Unsound = 2
number_of Total = 3
number_of Number = 4
number_of Table = 5
number_of Length = 6
number_of Gaps = 7
number_of Value = 8
number_of Input = 9
number_of Framing = 10
number_of NotSpeech = 11

-- the number of a check's refusal, or 0 for none
abbrev pub refusal_of : {A : Type 0} → Result A Refusal → ℕ
refusal_of (Ok a) = 0
refusal_of (Err refusal) = number_of refusal
