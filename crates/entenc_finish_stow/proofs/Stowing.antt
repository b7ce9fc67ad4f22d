-- The bits left over: what the code makes of the byte below the back is what the definitions do. Assumes nothing.
use Prim.Native.Nat.{ℕ, suc, ◌+◌, ◌-◌, ◌%◌, ◌^◌, ◌≤◌, ◌<◌}
use mathlib.Core.Path.{◌≡◌, refl, sym, ap, ◌∙◌}
use mathlib.Core.Bool.{Bool, true, false, cond, ◌&&◌}
use mathlib.Core.List.{List}
use native.Mathlib.Omega.{arith}
use borrow.Author.Tests.{lt-ltb, le-ltb}
use lib.Bits.{bit_or}
use lib.Dec.{leb, ltb}
use lib.IntN.{ℤ, negsuc}
use lib.ListN.{length, get_or, set, length-set}
use Rattle.entcode.specs.Finish.{or_last, left_over}
use Rattle.entcode.specs.Flat.{err_of, error_of, Out, as_writer}
use Rattle.entcode.specs.Inner.Writing.{Roomy, with_room, stowed}
use Rattle.entcode.proofs.FlatLaws.{arrive}
use Rattle.entcode.proofs.WriterFacts.{at_front}

-- ---- the bits left over

-- bits joined to a byte
abbrev pub joined : List ℕ → ℕ → ℕ → List ℕ
joined b i x = set b i (bit_or (get_or b i 0) x)

-- there is a byte below the back, which takes the bits x: by the test whether it is full and cannot spare all of them
stow_by : (o : Out) (j x : ℕ) (t : Bool) (e : ℤ) → Roomy o → o.state.endoffs < o.state.storage
    → leb o.state.storage (o.state.offs + o.state.endoffs) && ltb j o.state.wbits ≡ t → error_of (err_of e) ≡ e
    → let r = (as_writer o).tail.room in
    or_last r x (err_of e) ≡ cond t (or_last r (o.state.window % 2 ^ j) 1) (or_last r o.state.window r.err)
    → at_front o (joined o.buf (o.state.storage - (o.state.endoffs + 1)) x) o.state.offs e ≡ stowed o j
unfolding stowed
stow_by o j x t e h l q f s =
    let n = length o.buf in
    let i = n - suc o.state.endoffs in
    let k : o.state.storage - (o.state.endoffs + 1) ≡ i = omega (arith, h.fair.kept) in
    let a : ltb o.state.endoffs n ≡ true = lt-ltb o.state.endoffs n (omega (arith, h.fair.kept)) in
    let b : leb n (o.state.offs + o.state.endoffs) && ltb j o.state.wbits ≡ t
    = ap (λ (m : ℕ). leb m (o.state.offs + o.state.endoffs) && ltb j o.state.wbits) (sym h.fair.kept) ∙ q in
    ap (λ (m : ℕ). at_front o (joined o.buf m x) o.state.offs e) k
    ∙ arrive (at_front o (joined o.buf i x) o.state.offs e)
    (with_room (as_writer o) (left_over (as_writer o).tail.room o.state.window o.state.wbits j))
    (record { kept = h.fair.kept ∙ sym (length-set o.buf i (bit_or (get_or o.buf i 0) x)); rem = h.fair.rem; error = f })
    (rw (a, b) (ap (with_room (as_writer o)) s))

pub stow_short : (o : Out) (j x : ℕ) → Roomy o → o.state.endoffs < o.state.storage
    → leb o.state.storage (o.state.offs + o.state.endoffs) && ltb j o.state.wbits ≡ true → x ≡ o.state.window % 2 ^ j
    → at_front o (joined o.buf (o.state.storage - (o.state.endoffs + 1)) x) o.state.offs (negsuc 0) ≡ stowed o j
stow_short o j x h l t e = stow_by o j x true (negsuc 0) h l t refl (ap (λ (y : ℕ). or_last (as_writer o).tail.room y 1) e)

pub stow_whole : (o : Out) (j : ℕ) → Roomy o → o.state.endoffs < o.state.storage
    → leb o.state.storage (o.state.offs + o.state.endoffs) && ltb j o.state.wbits ≡ false
    → at_front o (joined o.buf (o.state.storage - (o.state.endoffs + 1)) o.state.window) o.state.offs o.state.error
    ≡ stowed o j
stow_whole o j h l t = stow_by o j o.state.window false o.state.error h l t h.fair.error refl

pub stow_none : (o : Out) (j : ℕ) → Roomy o → o.state.storage ≤ o.state.endoffs
    → at_front o o.buf o.state.offs (negsuc 0) ≡ stowed o j
unfolding stowed
stow_none o j h l =
    arrive (at_front o o.buf o.state.offs (negsuc 0))
    (with_room (as_writer o) (left_over (as_writer o).tail.room o.state.window o.state.wbits j))
    (record { kept = h.fair.kept; rem = h.fair.rem; error = refl })
    (rw (le-ltb o.state.endoffs (length o.buf) (omega (arith, h.fair.kept))))
