-- Packets computed by the definitions: for each rule of section 3 one that just keeps it and one that breaks it,
-- padding at its ends, the order of refusals; and packets written at every kind of length. Assumes nothing.
use Prim.Native.Nat.{ℕ, ◌-◌}
use mathlib.Core.Path.{◌≡◌, refl}
use mathlib.Core.Bool.{Bool, true, false, ◌&&◌}
use mathlib.Core.List.{List, [], ◌∷◌, ◌++◌}
use lib.Dec.{eqb}
use lib.ListN.{length, replicate}
use Rattle.lists.specs.Every.{every}
use Rattle.refusals.specs.First.{first_of}
use Rattle.framing.specs.declared.Packet.{Packet}
use Rattle.framing.specs.Toc.{durations}
use Rattle.framing.specs.Lengths.{lengths, widths, length_code, length_codes, total}
use Rattle.framing.specs.Padding.{pad_lengths, pad_bytes, pad_code, pad_tail}
use Rattle.framing.specs.Form.{form_of, firsts, head, sizes}
use Rattle.framing.specs.Rules.{rule1, rule2, rule3, rule4, rule5, rule6, rule7, keeps}
use Rattle.framing.specs.Reading.{read_rule, starts, accepted, packet_read}
use Rattle.framing.specs.Writing.{but_last, laid, alike, shortest_code, bare, shortest, packet_of, frames_rule, write_rule, packet_write}

abbrev pub same : List ℕ → List ℕ → Bool
same [] [] = true
same [] (b ∷ l) = false
same (a ∷ k) [] = false
same (a ∷ k) (b ∷ l) = eqb a b && same k l

abbrev pub zeros : ℕ → List ℕ
zeros n = replicate n 0

pub data Case : Type 0 where
  -- the packet; configuration, arrangement, padding; starts and sizes of the frames
  reads : List ℕ → ℕ → ℕ → ℕ → List ℕ → List ℕ → Case
  -- the packet, the refusal
  stops : List ℕ → ℕ → Case
  -- the buffer's length, configuration, frames, sizes, length asked for; what stands in the buffer, of zeros before,
  -- and the answered length
  writes : ℕ → ℕ → List ℕ → List ℕ → ℕ → List ℕ → ℕ → Case
  -- the same, and the refusal
  fails : ℕ → ℕ → List ℕ → List ℕ → ℕ → ℕ → Case

abbrev pub filled : List ℕ → List ℕ
filled l = l ++ zeros (12 - length l)

pub shows : Packet → ℕ → ℕ → ℕ → List ℕ → List ℕ → Bool
shows a c n p st sz =
    eqb a.refusal 0 &&
    (eqb a.config c &&
    (eqb a.arrangement n &&
    (eqb a.padding p && (eqb a.count (length sz) && (same a.start (filled st) && same a.size (filled sz))))))

pub holds : Case → Bool
holds (reads s c n p st sz) = shows (packet_read s) c n p st sz
holds (stops s n) = eqb (packet_read s).refusal n && same (packet_read s).size (zeros 12)
holds (writes len c fr ns l buf m) =
    let w = packet_write (zeros len) c fr ns l in
    eqb w.answer.refusal 0 && (eqb w.answer.length m && same w.buf buf)
holds (fails len c fr ns l n) =
    let w = packet_write (zeros len) c fr ns l in
    eqb w.answer.refusal n && (eqb w.answer.length 0 && same w.buf (zeros len))

-- configuration 1 is 20 ms: first bytes 8 to 11
pub cases : List Case
cases =
    -- R1, arrangement 0
    stops [] 10 ∷
    reads (8 ∷ []) 1 0 0 (1 ∷ []) (0 ∷ []) ∷
    reads (8 ∷ 7 ∷ 7 ∷ []) 1 0 0 (1 ∷ []) (2 ∷ []) ∷
    -- R2
    reads (8 ∷ zeros 1275) 1 0 0 (1 ∷ []) (1275 ∷ []) ∷
    stops (8 ∷ zeros 1276) 10 ∷
    stops (9 ∷ zeros 2552) 10 ∷
    -- R3
    reads (9 ∷ []) 1 1 0 (1 ∷ 1 ∷ []) (0 ∷ 0 ∷ []) ∷
    reads (9 ∷ 1 ∷ 2 ∷ []) 1 1 0 (1 ∷ 2 ∷ []) (1 ∷ 1 ∷ []) ∷
    stops (9 ∷ 1 ∷ []) 10 ∷
    -- R4
    reads (10 ∷ 0 ∷ []) 1 2 0 (2 ∷ 2 ∷ []) (0 ∷ 0 ∷ []) ∷
    stops (10 ∷ 1 ∷ []) 10 ∷
    reads (10 ∷ 1 ∷ 5 ∷ 6 ∷ 7 ∷ []) 1 2 0 (2 ∷ 3 ∷ []) (1 ∷ 2 ∷ []) ∷
    reads (10 ∷ 2 ∷ 5 ∷ 6 ∷ []) 1 2 0 (2 ∷ 4 ∷ []) (2 ∷ 0 ∷ []) ∷
    stops (10 ∷ 3 ∷ 5 ∷ 6 ∷ []) 10 ∷
    stops (10 ∷ []) 10 ∷
    stops (10 ∷ 252 ∷ []) 10 ∷
    reads (10 ∷ 253 ∷ 1 ∷ zeros 258) 1 2 0 (3 ∷ 260 ∷ []) (257 ∷ 1 ∷ []) ∷
    stops (10 ∷ 253 ∷ 1 ∷ zeros 256) 10 ∷
    -- R5; 2.5 ms has 48 frames and is refused later
    stops (11 ∷ []) 10 ∷
    stops (11 ∷ 0 ∷ []) 10 ∷
    reads (11 ∷ 6 ∷ []) 1 3 0 (2 ∷ 2 ∷ 2 ∷ 2 ∷ 2 ∷ 2 ∷ []) (zeros 6) ∷
    stops (11 ∷ 7 ∷ []) 10 ∷
    stops (131 ∷ 48 ∷ []) 11 ∷
    stops (131 ∷ 49 ∷ []) 10 ∷
    -- R6
    reads (11 ∷ 2 ∷ []) 1 3 0 (2 ∷ 2 ∷ []) (0 ∷ 0 ∷ []) ∷
    reads (11 ∷ 2 ∷ 5 ∷ 6 ∷ []) 1 3 0 (2 ∷ 3 ∷ []) (1 ∷ 1 ∷ []) ∷
    stops (11 ∷ 2 ∷ 5 ∷ []) 10 ∷
    -- R7
    reads (11 ∷ 130 ∷ 0 ∷ []) 1 3 0 (3 ∷ 3 ∷ []) (0 ∷ 0 ∷ []) ∷
    stops (11 ∷ 130 ∷ 1 ∷ []) 10 ∷
    reads (11 ∷ 130 ∷ 1 ∷ 5 ∷ 6 ∷ 7 ∷ []) 1 3 0 (3 ∷ 4 ∷ []) (1 ∷ 2 ∷ []) ∷
    stops (11 ∷ 130 ∷ 4 ∷ 5 ∷ 6 ∷ 7 ∷ []) 10 ∷
    stops (11 ∷ 130 ∷ []) 10 ∷
    stops (11 ∷ 131 ∷ 1 ∷ 252 ∷ []) 10 ∷
    -- padding: none at all, at its ends, past the end, and lengths that run out
    reads (11 ∷ 65 ∷ 0 ∷ []) 1 3 1 (3 ∷ []) (0 ∷ []) ∷
    stops (11 ∷ 65 ∷ 1 ∷ []) 10 ∷
    reads (11 ∷ 65 ∷ 0 ∷ 5 ∷ []) 1 3 1 (3 ∷ []) (1 ∷ []) ∷
    reads (11 ∷ 65 ∷ 2 ∷ 5 ∷ 9 ∷ 9 ∷ []) 1 3 3 (3 ∷ []) (1 ∷ []) ∷
    reads (11 ∷ 65 ∷ 2 ∷ 9 ∷ 9 ∷ []) 1 3 3 (3 ∷ []) (0 ∷ []) ∷
    stops (11 ∷ 65 ∷ 2 ∷ 9 ∷ []) 10 ∷
    stops (11 ∷ 65 ∷ []) 10 ∷
    stops (11 ∷ 65 ∷ 255 ∷ []) 10 ∷
    reads (11 ∷ 65 ∷ 255 ∷ 0 ∷ 5 ∷ zeros 254) 1 3 256 (4 ∷ []) (1 ∷ []) ∷
    stops (11 ∷ 65 ∷ 255 ∷ 0 ∷ zeros 253) 10 ∷
    reads (11 ∷ 194 ∷ 1 ∷ 1 ∷ 5 ∷ 6 ∷ 9 ∷ []) 1 3 2 (4 ∷ 5 ∷ []) (1 ∷ 1 ∷ []) ∷
    -- the order: 1, then 10, then 11
    stops (96 ∷ []) 11 ∷
    stops (12 ∷ []) 11 ∷
    stops (97 ∷ 0 ∷ []) 10 ∷
    stops (zeros 16384) 10 ∷
    stops (zeros 16385) 1 ∷
    -- written: the shortest forms
    writes 4 1 (5 ∷ 6 ∷ []) (2 ∷ []) 0 (8 ∷ 5 ∷ 6 ∷ 0 ∷ []) 3 ∷
    writes 3 1 (5 ∷ 6 ∷ []) (1 ∷ 1 ∷ []) 0 (9 ∷ 5 ∷ 6 ∷ []) 3 ∷
    writes 4 1 (5 ∷ 6 ∷ []) (0 ∷ 2 ∷ []) 0 (10 ∷ 0 ∷ 5 ∷ 6 ∷ []) 4 ∷
    writes 5 1 (5 ∷ 6 ∷ 7 ∷ []) (1 ∷ 1 ∷ 1 ∷ []) 0 (11 ∷ 3 ∷ 5 ∷ 6 ∷ 7 ∷ []) 5 ∷
    writes 6 1 (5 ∷ 6 ∷ []) (1 ∷ 0 ∷ 1 ∷ []) 0 (11 ∷ 131 ∷ 1 ∷ 0 ∷ 5 ∷ 6 ∷ []) 6 ∷
    -- at a length: the shortest, one byte more, padding
    writes 3 1 (5 ∷ 6 ∷ []) (2 ∷ []) 3 (8 ∷ 5 ∷ 6 ∷ []) 3 ∷
    writes 4 1 (5 ∷ 6 ∷ []) (2 ∷ []) 4 (11 ∷ 1 ∷ 5 ∷ 6 ∷ []) 4 ∷
    writes 5 1 (5 ∷ 6 ∷ []) (2 ∷ []) 5 (11 ∷ 65 ∷ 0 ∷ 5 ∷ 6 ∷ []) 5 ∷
    writes 8 1 (5 ∷ 6 ∷ []) (2 ∷ []) 7 (11 ∷ 65 ∷ 2 ∷ 5 ∷ 6 ∷ 0 ∷ 0 ∷ 0 ∷ []) 7 ∷
    writes 259 1 (5 ∷ 6 ∷ []) (2 ∷ []) 259 (11 ∷ 65 ∷ 254 ∷ 5 ∷ 6 ∷ zeros 254) 259 ∷
    writes 260 1 (5 ∷ 6 ∷ []) (2 ∷ []) 260 (11 ∷ 65 ∷ 255 ∷ 0 ∷ 5 ∷ 6 ∷ zeros 254) 260 ∷
    writes 5 1 (5 ∷ 6 ∷ []) (0 ∷ 2 ∷ []) 5 (11 ∷ 130 ∷ 0 ∷ 5 ∷ 6 ∷ []) 5 ∷
    -- refused
    fails 16385 12 (5 ∷ []) [] 0 1 ∷
    fails 2 12 (5 ∷ []) (2 ∷ []) 0 6 ∷
    fails 1 12 (5 ∷ []) (1 ∷ []) 0 8 ∷
    fails 4 12 (5 ∷ 6 ∷ []) (2 ∷ []) 2 8 ∷
    fails 4 12 (5 ∷ 6 ∷ []) (2 ∷ []) 5 8 ∷
    fails 2 12 [] [] 0 10 ∷
    fails 1 12 [] [] 0 8 ∷
    fails 1277 12 (zeros 1276) (1276 ∷ []) 0 10 ∷
    fails 9 1 [] (zeros 7) 0 10 ∷
    fails 9 32 [] (zeros 7) 0 11 ∷
    fails 4 12 (5 ∷ 6 ∷ []) (2 ∷ []) 0 11 ∷
    []

pub cases_hold : every holds cases ≡ true
unfolding holds shows cases first_of durations lengths widths length_code length_codes total pad_lengths pad_bytes pad_code pad_tail form_of
    firsts head sizes rule1 rule2 rule3 rule4 rule5 rule6 rule7 keeps read_rule starts accepted packet_read but_last laid alike
    shortest_code bare shortest packet_of frames_rule write_rule packet_write
cases_hold = refl
