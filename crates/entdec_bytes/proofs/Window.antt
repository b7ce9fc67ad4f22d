-- The window: bytes from the end, and filling. Assumes nothing.
use Rattle.std.proofs.Common.{◌≡◌, ℕ, suc, ◌+◌, ◌-◌, ◌*◌, ◌/◌, ◌%◌, ◌^◌, ◌<◌, ◌≤◌, List, length, ap, arith}
use Rattle.entcode.specs.declared.Dec.{Dec}
use Rattle.entcode.specs.Reader.{last_of, fetch, fetches, Bytes}
use Rattle.entcode.proofs.ReaderLaws.{last_byte}
use Rattle.entcode.proofs.TailLaws.{append_slim}
use Rattle.entcode.proofs.Window.{window_sum}
use Rattle.entdec_bytes.specs.Inner.{Windowed}

-- a byte shifted above the window
pub byte_above : (b : List ℕ) (d : Dec) → Bytes b → Windowed b d → d.wbits ≤ 24
    → let x = last_of b (length b - d.endoffs) in
    (x * 2 ^ d.wbits % 2 ^ 32 ≡ x * 2 ^ d.wbits) × (d.window + x * 2 ^ d.wbits < 2 ^ 32)
byte_above b d y h l =
    window_sum d.window (last_of b (length b - d.endoffs)) d.wbits 8 h.slim (last_byte b y (length b - d.endoffs)) (omega arith)

pub fetch_windowed : (b : List ℕ) (d : Dec) → Bytes b → Windowed b d → d.wbits ≤ 24 → Windowed b (fetch b d)
fetch_windowed b d y h l =
    record {
      short = h.short;
      back = omega arith;
      used = omega arith;
      slim = append_slim d.window (last_of b (length b - d.endoffs)) d.wbits 8 h.slim (last_byte b y (length b - d.endoffs));
    }

-- filling goes on while a byte fits, and ends
pub fill_more : (b : List ℕ) (d : Dec) → d.wbits ≤ 24
    → fetches b ((32 - (d.wbits + 8)) / 8) (fetch b d) ≡ fetches b ((32 - d.wbits) / 8) d
fill_more b d l = let e : suc ((32 - (d.wbits + 8)) / 8) ≡ (32 - d.wbits) / 8 = omega arith in ap (λ (c : ℕ). fetches b c d) e

pub fill_done : (b : List ℕ) (d : Dec) → 24 < d.wbits → d.wbits ≤ 32 → d ≡ fetches b ((32 - d.wbits) / 8) d
fill_done b d l u = let e : 0 ≡ (32 - d.wbits) / 8 = omega arith in ap (λ (c : ℕ). fetches b c d) e
