-- The writer's steps on flat states, which the code's contracts cite: each is the flat form of a step of the
-- definitions. Assumes nothing.
use Rattle.entcode.specs.Writer.{Writer}
use Rattle.entcode.specs.Finish.{held_after, fin_bytes, fin_front}
use Rattle.entcode.specs.Flat.{Out, as_writer, flat}

-- ---- finishing

-- the coded part is finished
abbrev pub front_w : Writer → Writer
front_w w =
    record {
      front = record { rng = w.front.rng; val = w.front.val; held = held_after (fin_bytes w.front); run = 0 };
      tail = fin_front w;
      total = w.total;
    }

unfoldable pub fronted : Out → Out
fronted o = flat (front_w (as_writer o))
