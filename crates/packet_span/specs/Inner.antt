-- What is told of a packet that keeps the rules: no public contract speaks of it. Assumes nothing.
use Rattle.std.specs.Prelude.{ℕ, ◌-◌, ◌/◌, cond, Option, List}
use Rattle.framing.specs.declared.Form.{Form}
use Rattle.framing.specs.Lengths.{total}
use Rattle.framing.specs.Form.{form_of, firsts, head, room}
use Rattle.framing.specs.Rules.{keeps}
use Rattle.packet_share.specs.declared.Span.{Span}
use Rattle.packet_share.specs.Inner.{none, span}

-- the last frame's size, which is each one's where no lengths are written
abbrev pub last_by : Form → List ℕ → ℕ
last_by f s = cond f.varied (room f s - total (firsts f s)) (room f s / f.count)

-- whether the rules are kept, where the first frame starts, and the last frame's size
unfoldable pub span_of : List ℕ → Option Span
span_of s = cond (keeps s) (span (head (form_of s) s) (last_by (form_of s) s)) none
