-- What is known of a packet before it is written: no public contract speaks of it. Assumes nothing.
use Rattle.std.specs.Prelude.{ℕ, ◌≡◌, Result, List, IfOk}
use Rattle.refusals.specs.declared.Refusal.{Refusal}
use Rattle.refusals.specs.Inner.{refusal_of}
use Rattle.framing.specs.Writing.{alike, shortest_code, bare as bareOf, length_for, write_rule}
use Rattle.packet_plan.specs.declared.Plan.{Plan}

-- the numbers of the packet
pub record Fits (ns : List ℕ) (l : ℕ) (p : Plan) : Type 0 where
  pub length : p.length ≡ length_for ns l
  pub same : p.same ≡ alike ns
  pub code : p.code ≡ shortest_code ns
  pub bare : p.bare ≡ bareOf ns

-- the refusal, and the numbers of the packet where there is none
pub record Planned (len c n : ℕ) (ns : List ℕ) (l : ℕ) (p : Result Plan Refusal) : Type 0 where
  pub rule : refusal_of p ≡ write_rule len c n ns l
  pub runs : IfOk p (Fits ns l)
