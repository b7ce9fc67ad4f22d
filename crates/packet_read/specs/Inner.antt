-- What is answered of a packet that keeps the rules: no public contract speaks of it. Assumes nothing.
use Rattle.std.specs.Prelude.{ℕ, ◌+◌, ◌/◌, ◌%◌}
use Rattle.framing.specs.declared.Form.{Form}
use Rattle.framing.specs.declared.Packet.{Packet}
use Rattle.packet_places.specs.declared.Places.{Places}

abbrev pub answer_of : Form → ℕ → Places → Packet
answer_of f toc p =
    record {
      refusal = 0;
      config = toc / 8;
      arrangement = toc % 4;
      count = f.count;
      padding = f.lens + f.pad;
      start = p.start;
      size = p.size;
    }
