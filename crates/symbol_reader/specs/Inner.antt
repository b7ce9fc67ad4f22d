-- What inner reads promise of a reader that is lent; no public contract says it. Assumes nothing.
use Rattle.std.specs.Prelude.{ℕ, ◌+◌, ◌≤◌, ◌≡◌}
use Rattle.entcode.specs.Models.{Model}
use Rattle.entcode.specs.Reading.{gives}
use Rattle.entcode.specs.Inner.Reading.{Took}
use Rattle.tree.specs.Asks.{Asks, got, run}
use Rattle.symbol_reader.specs.declared.Reader.{Reader}

-- the value that the reader r gave by a model, and the reader z behind it
pub record Reads (r : Reader) (m : Model) (v : ℕ) (z : Reader) : Type 0 where
  pub took : Took r.packet.now m r.state (gives v z.state)
  pub packet : z.packet ≡ r.packet

-- the run of the tree t on the reader r, with the reader z behind it, and a total that grew by at most n
pub record Along {R A : Type 0} (r : Reader) (t : Asks R A) (n : ℕ) (x : A) (z : Reader) : Type 0 where
  pub is : run r.packet.now r.state t ≡ got x z.state
  pub packet : z.packet ≡ r.packet
  pub least : r.state.total ≤ z.state.total
  pub most : z.state.total ≤ r.state.total + n

-- a loop on the way through the tree whole: what is left of it, run from the reader z on, gives what the whole gives from r on
pub record Midway {R Q A : Type 0} (r : Reader) (whole : Asks R A) (n : ℕ) (z : Reader) (left : Asks Q A) : Type 0 where
  pub rest : run r.packet.now z.state left ≡ run r.packet.now r.state whole
  pub packet : z.packet ≡ r.packet
  pub least : r.state.total ≤ z.state.total
  pub most : z.state.total ≤ r.state.total + n
