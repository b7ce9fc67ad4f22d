-- What a packet's first frame says of itself (RFC 6716, section 4.2.7.3): signal and offset type, read at the
-- packet's start. Assumes nothing.
use Rattle.std.specs.Prelude.{ℕ, ◌/◌, ◌%◌, cond, List, eqb, leb}
use Rattle.refusals.specs.First.{first_of}
use Rattle.entcode.specs.Reading.{dec_open}
use Rattle.tree.specs.Asks.{run}
use Rattle.silk.specs.IndexSyntax.{kind}
use Rattle.frame_type.specs.declared.FrameType.{FrameType}

-- document 01: 1 for a packet that is not opened, then 4 for an active flag other than 0 or 1
unfoldable pub type_rule : List ℕ → ℕ → ℕ
type_rule b active = first_of (dec_open b).refusal (cond (leb active 1) 0 4)

-- both types, of the one number that codes them
abbrev pub types_of : ℕ → FrameType
types_of k = record { refusal = 0; signal = k / 2; offset = k % 2 }

abbrev pub refused_type : ℕ → FrameType
refused_type n = record { refusal = n; signal = 0; offset = 0 }

unfoldable pub frame_type : List ℕ → ℕ → FrameType
frame_type b active =
    cond (eqb (type_rule b active) 0) (types_of (run b (dec_open b).state (kind active)).value) (refused_type (type_rule b active))
