-- A list of symbols read back, over the definitions: forwards with the reader, symbol by symbol, the packet lying within each interval on the way. It
-- starts from any writer whose state is that of its interval and raw number (`View`), however it came there. Part 15 of the argument. Assumes nothing.
use Prim.Native.Nat.{ℕ, suc, ◌+◌, ◌-◌, ◌*◌, ◌^◌, ◌≤◌, ◌<◌}
use mathlib.Core.Path.{◌≡◌, refl, ◌∙◌, subst}
use mathlib.Core.List.{List, [], ◌∷◌}
use native.Mathlib.Omega.{arith}
use lib.ListN.{length, take}
use Rattle.entcode.specs.declared.Dec.{Dec}
use Rattle.entcode.specs.Models.{Sym, raw_n, Allowed}
use Rattle.entcode.specs.Reader.{settled, opened, read_val, read_next, Bytes}
use Rattle.entcode.specs.Inner.Reading.{Core}
use Rattle.entcode.proofs.ReaderLaws.{core_read}
use Rattle.entcode.specs.Writer.{Writer, open_w, write_sym}
use Rattle.entcode.specs.Finish.{emits, spare_bits, finish}
use Rattle.roundtrip.specs.Statement.{AllAllowed}
use Rattle.roundtrip.proofs.Digits.{prefix, prefix_same}
use Rattle.roundtrip.proofs.Interval.{Interval, sym_i, run_i, open_i, raw_number, sym_size, run_size}
use Rattle.roundtrip.proofs.Progress.{digits_of, low_of}
use Rattle.roundtrip.proofs.Track.{View}
use Rattle.roundtrip.proofs.Within.{In, in_four, Within, run_back}
use Rattle.roundtrip.proofs.Finished.{bits_w, Finished, finished}
use Rattle.roundtrip.proofs.Bytes.{bytes_finish}
use Rattle.roundtrip.proofs.Stands.{StandsI, stands_open}
use Rattle.roundtrip.proofs.RawRead.{rest}
use Rattle.roundtrip.proofs.OneRead.{Level, next, gives_coded, gives_whole}

-- ---- what reading the list ss from d amounts to, w being the writer before it

-- a reader for the next read, level with the writer
pub record Beside (b : List ℕ) (d : Dec) (w : Writer) : Type 0 where
  pub core : Core b d
  pub least : 33 ≤ d.total
  pub level : Level d w

-- one symbol: a reader beside the writer; a symbol of the kind P gives its value, and leaves the error as it was
pub record Step (P : Sym → Type 0) (b : List ℕ) (d : Dec) (w : Writer) (s : Sym) : Type 0 where
  pub beside : Beside b d w
  pub value : P s → read_val b s.model d ≡ s.value
  pub error : P s → (read_next b s.model d).error ≡ d.error

abbrev pub Follows : (Sym → Type 0) → List ℕ → Dec → Writer → List Sym → Type 0
Follows P b d w [] = Beside b d w
Follows P b d w (s ∷ ss) = Step P b d w s × Follows P b (read_next b s.model d) (write_sym w s) ss

pub follows_beside : (P : Sym → Type 0) (b : List ℕ) (d : Dec) (w : Writer) (ss : List Sym) → Follows P b d w ss → Beside b d w
follows_beside P b d w [] f = f
follows_beside P b d w (s ∷ ss) f = f.0.beside

-- every symbol, or those without raw bits
abbrev pub Any : Sym → Type 0
Any s = Unit {0}

abbrev pub NoRaw : Sym → Type 0
NoRaw s = raw_n s.model ≡ 0

-- ---- from a reader that stands where the writer stood

-- a reader at the interval a, beside w
record Ready (b : List ℕ) (d : Dec) (w : Writer) (a : Interval) : Type 0 where
  big : 2 ^ 23 < a.size
  stands : StandsI b d a
  beside : Beside b d w

module _ (b : List ℕ) (bytes : Bytes b) where
  ready_next : (s : Sym) (d : Dec) (w : Writer) (a : Interval) → Allowed s.model s.value → Ready b d w a → Within b (sym_i a s)
      → Ready b (read_next b s.model d) (write_sym w s) (sym_i a s)
  ready_next s d w a ok r i =
      let h = r.beside in
      let n = next b bytes s.model s.value ok d w a r.big r.stands h.core h.level i in
      record {
        big = sym_size a s ok r.big;
        stands = n.stands;
        beside = record {
          core = n.core;
          least = omega (arith, h.least, (core_read b s.model d bytes ok.readable h.core).least);
          level = n.level;
        };
      }

  -- the packet lies within the last interval: its coded parts are read back
  follows_coded : (ss : List Sym) (d : Dec) (w : Writer) (a : Interval) → AllAllowed ss → Ready b d w a → Within b (run_i a ss)
      → Follows NoRaw b d w ss
  follows_coded [] d w a ok r i = r.beside
  follows_coded (s ∷ ss) d w a ok r i =
      let j : Within b (sym_i a s) = run_back b bytes ss (sym_i a s) ok.1 (sym_size a s ok.0 r.big) i in
      let q = ready_next s d w a ok.0 r j in
      let h = r.beside in
      let g = gives_coded b bytes s.model s.value ok.0 d w a r.big r.stands h.core h.level j in (
        record { beside = h; value = λ z. (g z).value; error = λ z. (g z).error },
        follows_coded ss (read_next b s.model d) (write_sym w s) (sym_i a s) ok.1 q i,
      )

  -- and the raw number ahead is that of the list: so is every symbol
  follows_whole : (ss : List Sym) (d : Dec) (w : Writer) (a : Interval) (X : ℕ) → AllAllowed ss → Ready b d w a → Within b (run_i a ss)
      → rest b d ≡ raw_number ss X → Follows Any b d w ss
  follows_whole [] d w a X ok r i e = r.beside
  follows_whole (s ∷ ss) d w a X ok r i e =
      let j : Within b (sym_i a s) = run_back b bytes ss (sym_i a s) ok.1 (sym_size a s ok.0 r.big) i in
      let q = ready_next s d w a ok.0 r j in
      let h = r.beside in
      let g = gives_whole b bytes s.model s.value ok.0 d w a r.big r.stands h.core h.level j (raw_number ss X) e in (
        record { beside = h; value = λ z. g.0.value; error = λ z. g.0.error },
        follows_whole ss (read_next b s.model d) (write_sym w s) (sym_i a s) X ok.1 q i g.1,
      )

  -- ---- a fresh reader is ready

  open_core : length b ≤ 1275 → Core b (opened b)
  unfolding opened settled
  open_core short =
      let s = stands_open b bytes in
      record {
        short = short;
        above = omega arith;
        most = omega arith;
        inside = omega (arith, s.val);
        kept = refl;
        place = omega (arith, s.offs);
        back = omega arith;
        held = omega (arith, s.rem, bytes 3);
        flag = omega arith;
        used = omega arith;
        slim = omega arith;
      }

  ready_open : (c : List ℕ) → length b ≤ 1275 → Ready b (opened b) (open_w c) open_i
  unfolding opened settled
  ready_open c short =
      record {
        big = omega arith;
        stands = stands_open b bytes;
        beside = record { core = open_core short; least = omega arith; level = record { rng = refl; total = refl } };
      }

-- the whole packet is its raw number
open_rest : (b : List ℕ) → rest b (opened b) ≡ prefix b (length b)
unfolding opened settled
open_rest b = let z : length b - 0 ≡ length b = omega arith in rw z (omega arith)

-- ---- from a writer that was finished without error

-- a packet that begins with the coded bytes of the finished buffer lies within the writer's interval, whatever follows them
front_within : (w : Writer) (a : Interval) (g : ℕ → ℕ) (n : ℕ) → View w a g n → Finished w → (c : List ℕ) → Bytes c
    → (finish w).offs ≤ length c → take (finish w).offs c ≡ take (finish w).offs (finish w).buf → Within c a
front_within w a g n v f c bytes l e =
    let m : ℕ = (finish w).offs in
    let k : ℕ = suc (suc (suc (digits_of w))) in
    let p : prefix c m ≡ prefix (finish w).buf m = prefix_same c (finish w).buf m l (omega (arith, f.room)) e in
    let i : In c (suc (suc (suc m))) (f.E * 2 ^ 31) (2 ^ spare_bits (bits_w w) * 2 ^ 31)
    = in_four c bytes m f.E (2 ^ spare_bits (bits_w w)) (omega (arith, f.front.0)) (omega (arith, f.front.1)) in
    let je : suc (suc (suc m)) ≡ emits (bits_w w) + k = omega (arith, f.offs) in
    let j : In c k (low_of w) w.front.rng
    = f.ending.inside c bytes k (subst (λ (x : ℕ). In c x (f.E * 2 ^ 31) (2 ^ spare_bits (bits_w w) * 2 ^ 31)) je i) in
    rw (← v.digits, ← v.low, ← v.size) j

module _ (ss : List Sym) (ok : AllAllowed ss) (w : Writer) (n : ℕ) (v : View w (run_i open_i ss) (λ X. raw_number ss X) n) (z : (finish w).err ≡ 0) where
  pub view_finished : Finished w
  view_finished = finished w v.fine (omega (arith, v.size, run_size ss open_i ok (omega arith))) z

  -- the finished buffer holds bytes
  pub view_bytes : Bytes w.tail.room.buf → Bytes (finish w).buf
  view_bytes y = bytes_finish w y v.fine.tame.byte view_finished.left

  -- a reader of the finished buffer follows a fresh writer through the list
  pub view_follows : Bytes w.tail.room.buf → length (finish w).buf ≤ 1275 → (c : List ℕ)
      → Follows Any (finish w).buf (opened (finish w).buf) (open_w c) ss
  view_follows y short c =
      let b = (finish w).buf in
      let f = view_finished in
      let q = view_bytes y in
      follows_whole b q ss (opened b) (open_w c) open_i f.above ok (ready_open b q c short)
      (front_within w (run_i open_i ss) (λ X. raw_number ss X) n v f b q (omega (arith, f.room)) refl) (open_rest b ∙ f.back ∙ v.raw f.above)

  -- a reader of any packet that begins with its coded bytes does so through the coded parts
  pub view_follows_coded : (b : List ℕ) → Bytes b → length b ≤ 1275 → (finish w).offs ≤ length b
      → take (finish w).offs b ≡ take (finish w).offs (finish w).buf → (c : List ℕ) → Follows NoRaw b (opened b) (open_w c) ss
  view_follows_coded b y short l e c =
      follows_coded b y ss (opened b) (open_w c) open_i ok (ready_open b y c short)
      (front_within w (run_i open_i ss) (λ X. raw_number ss X) n v view_finished b y l e)
