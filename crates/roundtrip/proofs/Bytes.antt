-- Every buffer holds bytes: what the writer stores is below 256. Part 11 of the argument. Assumes nothing.
use Prim.Native.Nat.{ℕ, zero, suc, ◌+◌, ◌-◌, ◌/◌, ◌%◌, ◌^◌, ◌≤◌, ◌<◌}
use mathlib.Core.Bool.{◌&&◌}
use mathlib.Core.List.{List, [], ◌∷◌, ◌++◌}
use native.Mathlib.Omega.{arith}
use native.Mathlib.Nat.{mod-le}
use lib.Bits.{or_lt}
use lib.Dec.{eqb, leb, ltb}
use lib.ListN.{length, get_or, take, drop, set, replicate}
use Rattle.deciding.proofs.Choice.{chosen}
use Rattle.entcode.specs.Models.{Sym, coded, lo, hi, all, raw_n}
use Rattle.entcode.specs.Cuts.{upper, lower}
use Rattle.entcode.specs.Front.{Front, unstored, stored, bytes_out, digit, shift, shift_out}
use Rattle.entcode.specs.Room.{Room, free, put, puts, back}
use Rattle.entcode.specs.Tail.{Tail, flush1, flush, spare}
use Rattle.entcode.specs.Writer.{Writer, norm_w, cut_w, code_w, write_sym, write_all}
use Rattle.entcode.proofs.WriterLaws.{held_most}
use Rattle.entcode.specs.Reader.{Bytes}
use Rattle.entcode.specs.Finish.{bits_of, emits, spare_bits, fin_out, fin_bytes, ending, clear, or_last, left_over, close, fin_front, fin_tail, finish}

-- every element is a byte
unfoldable All : List ℕ → Type 0
All [] = Unit {0}
All (x ∷ xs) = (x < 256) × All xs

all_of : (l : List ℕ) → Bytes l → All l
unfolding All
all_of [] y = tt
all_of (x ∷ xs) y = (y 0, all_of xs (λ i. y (suc i)))

all_at : (l : List ℕ) → All l → Bytes l
unfolding All
all_at [] a i = omega arith
all_at (x ∷ xs) a zero = a.0
all_at (x ∷ xs) a (suc i) = all_at xs a.1 i

-- ---- lists

all_set : (l : List ℕ) (i v : ℕ) → All l → v < 256 → All (set l i v)
unfolding All
all_set [] i v a h = tt
all_set (x ∷ xs) zero v a h = (h, a.1)
all_set (x ∷ xs) (suc i) v a h = (a.0, all_set xs i v a.1 h)

all_append : (l m : List ℕ) → All l → All m → All (l ++ m)
unfolding All
all_append [] m a b = b
all_append (x ∷ xs) m a b = (a.0, all_append xs m a.1 b)

all_replicate : (n x : ℕ) → x < 256 → All (replicate n x)
unfolding All
all_replicate zero x h = tt
all_replicate (suc n) x h = (h, all_replicate n x h)

all_take : (n : ℕ) (l : List ℕ) → All l → All (take n l)
unfolding All
all_take zero l a = tt
all_take (suc n) [] a = tt
all_take (suc n) (x ∷ xs) a = (a.0, all_take n xs a.1)

all_drop : (n : ℕ) (l : List ℕ) → All l → All (drop n l)
unfolding All
all_drop zero l a = a
all_drop (suc n) [] a = tt
all_drop (suc n) (x ∷ xs) a = all_drop n xs a.1

-- ---- what goes out

all_stored : (h k : ℕ) → All (stored h k)
unfolding All
all_stored zero k = tt
all_stored (suc b) k = (omega arith, tt)

all_out : (h x c : ℕ) → All (bytes_out h x c)
unfolding All
all_out h x c =
    chosen All (eqb c 255) (λ e. tt)
    (λ e. all_append (stored h (c / 256)) _ (all_stored h (c / 256)) (all_replicate x _ (omega arith)))

all_unstored : (h x : ℕ) → h ≤ 256 → All (unstored h x)
unfolding All
all_unstored zero x l = all_replicate x 255 (omega arith)
all_unstored (suc b) x l = (omega arith, all_replicate x 255 (omega arith))

all_fin : (c : ℕ) (f : Front) → f.held ≤ 256 → All (fin_out c f)
all_fin zero f l = all_unstored f.held f.run l
all_fin (suc c) f l =
    all_append (shift_out f) (fin_out c (shift f)) (all_out f.held f.run (digit f)) (all_fin c (shift f) (held_most f.held (digit f) l))

-- ---- where it goes

-- the room holds bytes
AllR : Room → Type 0
AllR r = All r.buf

all_put : (r : Room) (b : ℕ) → AllR r → b < 256 → AllR (put r b)
unfolding AllR
all_put r b a h = chosen AllR (free r) (λ e. all_set r.buf r.offs b a h) (λ e. a)

all_puts : (bs : List ℕ) (r : Room) → AllR r → All bs → AllR (puts r bs)
unfolding All
all_puts [] r a b = a
all_puts (x ∷ xs) r a b = all_puts xs (put r x) (all_put r x a b.0) b.1

all_back : (r : Room) (b : ℕ) → AllR r → b < 256 → AllR (back r b)
unfolding AllR
all_back r b a h = chosen AllR (free r) (λ e. all_set r.buf _ b a h) (λ e. a)

all_flush : (c : ℕ) (t : Tail) → AllR t.room → AllR (flush c t).room
all_flush zero t a = a
all_flush (suc c) t a = all_flush c (flush1 t) (all_back t.room (t.win % 256) a (omega arith))

-- ---- a list of symbols

AllW : Writer → Type 0
AllW w = AllR w.tail.room

all_norm : (w : Writer) → AllW w → AllW (norm_w w)
unfolding AllW
all_norm w a =
    chosen AllW (leb w.front.rng (2 ^ 23))
    (λ e. all_puts (shift_out w.front) w.tail.room a (all_out w.front.held w.front.run (digit w.front))) (λ e. a)

all_code : (w : Writer) (fl fh ft : ℕ) → AllW w → AllW (code_w w fl fh ft)
unfolding AllW
all_code w fl fh ft a =
    let v : Writer = cut_w w (upper w.front.rng fl ft) (lower w.front.rng fh ft) in
    all_norm (norm_w v) (all_norm v a)

all_spare : (n : ℕ) (t : Tail) → AllR t.room → AllR (spare n t).room
all_spare n t a = chosen (λ (s : Tail). AllR s.room) (ltb 32 (t.used + n)) (λ e. all_flush (t.used / 8) t a) (λ e. a)

all_writes : (ss : List Sym) (w : Writer) → AllW w → AllW (write_all w ss)
unfolding AllW
all_writes [] w a = a
all_writes (s ∷ ss) w a =
    let m = s.model in
    let c = coded m s.value in
    all_writes ss (write_sym w s)
    (all_spare (raw_n m) (code_w w (lo m c) (hi m c) (all m)).tail (all_code w (lo m c) (hi m c) (all m) a))

-- a buffer of bytes stays one through any writes
pub bytes_writes : (ss : List Sym) (w : Writer) → Bytes w.tail.room.buf → Bytes (write_all w ss).tail.room.buf
unfolding AllW AllR
bytes_writes ss w y = all_at _ (all_writes ss w (all_of _ y))

-- ---- finishing

all_clear : (r : Room) → AllR r → AllR (clear r)
unfolding AllR
all_clear r a =
    all_append (take r.offs r.buf) _ (all_take r.offs r.buf a)
    (all_append (replicate (length r.buf - r.end - r.offs) 0) _ (all_replicate (length r.buf - r.end - r.offs) 0 (omega arith))
    (all_drop (length r.buf - r.end) r.buf a))

all_or : (r : Room) (x e : ℕ) → AllR r → x < 256 → AllR (or_last r x e)
unfolding AllR
all_or r x e a h = all_set r.buf _ _ a (or_lt 8 (get_or r.buf (length r.buf - suc r.end) 0) x (all_at r.buf a _) h)

all_left : (r : Room) (x u j : ℕ) → AllR r → x < 256 → AllR (left_over r x u j)
unfolding AllR
all_left r x u j a h =
    chosen AllR (ltb r.end (length r.buf))
    (λ e. chosen AllR (leb (length r.buf) (r.offs + r.end) && ltb j u)
    (λ f. all_or r (x % 2 ^ j) 1 a (omega (arith, mod-le x (2 ^ j))))
    (λ f. all_or r x r.err a h))
    (λ e. a)

all_close : (t : Tail) (j : ℕ) → AllR t.room → t.win < 256 → AllR (close t j)
all_close t j a h =
    chosen AllR (eqb t.room.err 0)
    (λ e. chosen AllR (eqb t.used 0)
    (λ f. all_clear t.room a)
    (λ f. all_left (clear t.room) t.win t.used j (all_clear t.room a) h))
    (λ e. a)

-- and through finishing
pub bytes_finish : (w : Writer) → Bytes w.tail.room.buf → w.front.held ≤ 256 → (fin_tail w).win < 256 → Bytes (finish w).buf
unfolding AllR
bytes_finish w y l h =
    all_at _ (all_close (fin_tail w) (spare_bits (bits_of w.front.rng w.front.val))
    (all_flush (w.tail.used / 8) (fin_front w)
    (all_puts (fin_bytes w.front) w.tail.room (all_of _ y) (all_fin (emits (bits_of w.front.rng w.front.val)) (ending w.front) l))) h)
