-- Which states are sound, as document 01 lists it, and the gate of refusals 1 to 3 that every call passes first. Assumes nothing.
use Rattle.std.specs.Prelude.{ℕ, ◌+◌, ◌^◌, Bool, ◌&&◌, cond, List, leb, ltb, eqb, pos, negsuc, length}
use Rattle.std.specs.Int.Signed.{le_z}
use Rattle.entcode.specs.declared.Dec.{Dec}
use Rattle.entcode.specs.declared.Enc.{Enc}

-- window bits 0 to 32 and window below 2^bits
abbrev pub window_ok : ℕ → ℕ → Bool
window_ok window wbits = leb wbits 32 && ltb window (2 ^ wbits)

-- total 33 to 1,100,000
abbrev pub total_ok : ℕ → Bool
total_ok total = leb 33 total && leb total 1100000

-- ---- a sound reader

-- range above 2^23 and at most 2^31; value below range
abbrev pub range_ok_r : Dec → Bool
range_ok_r d = ltb (2 ^ 23) d.rng && (leb d.rng (2 ^ 31) && ltb d.val d.rng)

-- kept length that of the slice; both offsets at most the length
abbrev pub places_ok_r : List ℕ → Dec → Bool
places_ok_r b d = eqb d.storage (length b) && (leb d.offs (length b) && leb d.endoffs (length b))

-- held byte 0 to 255; error 0 or 1
abbrev pub small_ok_r : Dec → Bool
small_ok_r d = leb d.rem 255 && leb d.error 1

unfoldable pub sound_r : List ℕ → Dec → Bool
sound_r b d = range_ok_r d && (places_ok_r b d && (small_ok_r d && (window_ok d.window d.wbits && total_ok d.total)))

-- ---- a sound writer

-- the same range rules; value plus range below 2^32
abbrev pub range_ok_w : Enc → Bool
range_ok_w w = ltb (2 ^ 23) w.rng && (leb w.rng (2 ^ 31) && ltb (w.val + w.rng) (2 ^ 32))

-- kept length that of the slice; front plus back offset at most the length
abbrev pub places_ok_w : List ℕ → Enc → Bool
places_ok_w b w = eqb w.storage (length b) && leb (w.offs + w.endoffs) (length b)

-- held byte -1 to 255; error 0 or -1
abbrev pub signs_ok_w : Enc → Bool
signs_ok_w w = le_z (negsuc 0) w.rem && (le_z w.rem (pos 255) && (le_z (negsuc 0) w.error && le_z w.error (pos 0)))

-- run of 255s at most 150,000
abbrev pub run_ok_w : Enc → Bool
run_ok_w w = leb w.ext 150000

unfoldable pub sound_w : List ℕ → Enc → Bool
sound_w b w = range_ok_w w && (places_ok_w b w && (signs_ok_w w && (window_ok w.window w.wbits && (run_ok_w w && total_ok w.total))))

-- the longest packet or buffer
abbrev pub longest : ℕ
longest = 1275

-- ---- the gate: 1 for a packet or buffer that is longer; 2 for a state not sound for it; 3 for a total above 1,000,000

abbrev pub gate : ℕ → Bool → ℕ → ℕ
gate n sound total = cond (leb n longest) (cond sound (cond (leb total 1000000) 0 3) 2) 1

unfoldable pub gate_r : List ℕ → Dec → ℕ
gate_r b d = gate (length b) (sound_r b d) d.total

unfoldable pub gate_w : List ℕ → Enc → ℕ
gate_w b w = gate (length b) (sound_w b w) w.total
