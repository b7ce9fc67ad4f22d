-- The writer's raw bits (RFC 6716, section 5.1.3): they wait in a window of 32 bits, low bits first, and leave it in
-- bytes for the back. Assumes nothing.
use Rattle.std.specs.Prelude.{ℕ, zero, suc, ◌+◌, ◌-◌, ◌*◌, ◌/◌, ◌%◌, ◌^◌, cond, ltb}
use Rattle.entcode.specs.Room.{Room, back}

pub record Tail : Type 0 where
  pub room : Room
  pub win : ℕ
  pub used : ℕ

-- a byte of the window goes to the back; c bytes
abbrev pub flush1 : Tail → Tail
flush1 t = record { room = back t.room (t.win % 256); win = t.win / 256; used = t.used - 8 }

abbrev pub flush : ℕ → Tail → Tail
flush zero t = t
flush (suc c) t = flush c (flush1 t)

-- where n more bits do not fit, every whole byte leaves first
abbrev pub spare : ℕ → Tail → Tail
spare n t = cond (ltb 32 (t.used + n)) (flush (t.used / 8) t) t

abbrev pub append : Tail → ℕ → ℕ → Tail
append t n v = record { room = t.room; win = t.win + v * 2 ^ t.used; used = t.used + n }

-- n bits, of value v
abbrev pub raw_t : Tail → ℕ → ℕ → Tail
raw_t t n v = append (spare n t) n v
