-- The part of a range that a symbol has. Assumes nothing.
use Rattle.std.specs.Prelude.{ℕ, ◌*◌, List, get_or}
use Rattle.entcode.specs.Inner.Reading.{top_of}
use Rattle.icdf.specs.Search.{search}
use Rattle.entdec_search.specs.declared.Part.{Part}

-- the symbol that the search finds, with the ends of its part
abbrev pub part_of : ℕ → ℕ → ℕ → List ℕ → Part
part_of rng unit v t =
    record { symbol = search unit v t; low = unit * get_or t (search unit v t) 0; top = top_of rng unit t (search unit v t) }
