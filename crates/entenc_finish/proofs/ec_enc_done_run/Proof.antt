-- `ec_enc_done_run` meets its contract: the front, the window's bytes and the rest, each the definitions' step. Assumes nothing.
use borrow.Author.Rules.{rules}
use Prim.Native.Nat.{ℕ, ◌+◌, ◌-◌, ◌*◌, ◌/◌, ◌^◌, ◌≤◌}
use mathlib.Core.Path.{◌≡◌, refl, sym, subst, ap, ap₂, ◌∙◌}
use native.Mathlib.Omega.{arith}
use Rattle.entcode.specs.Finish.{bits_of, end_of, emits, spare_bits, cell, round_up}
use Rattle.entcode.proofs.FinishLaws.{Enough, bits_enough}
use Rattle.entcode.specs.Flat.{Out, out}
use Rattle.entcode.specs.Inner.Writing.{Windowed, digits_out, flushed, closed}
use Rattle.entcode.proofs.WriterFacts.{at_window}
use Rattle.entcode.proofs.WriterSteps.{fronted}
use Rattle.entenc_finish.proofs.Finishing.{digits_front, front_windowed, finished_is}
use Rattle.entenc_finish.proofs.ec_enc_done_run.Statement.{statement}
use Rattle.entenc_finish.proofs.ec_enc_done_run.Tie as tie

-- the bits that were chosen
enough : (c : tie.Start) → Enough c.args.w.rng c.args.w.val (bits_of c.args.w.rng c.args.w.val)
enough c = bits_enough c.args.w.rng c.args.w.val c.requires.above c.requires.most

nine : (c : tie.After-end_bits_run-bits) → c.end_bits_run-bits.result ≤ 9
nine c = omega (arith, (enough c.before.before).few, c.end_bits_run-bits.ensures)

-- the coded part, from the numbers that the code computed
front : (o q : Out) (l e d : ℕ) → l ≡ bits_of o.state.rng o.state.val → e ≡ round_up o.state.val (2 ^ (31 - l)) → d ≡ (l + 7) / 8
    → q ≡ digits_out o e d → q ≡ fronted o
front o q l e d p r s t =
    let y : e ≡ end_of o.state.rng o.state.val = r ∙ ap (λ (k : ℕ). round_up o.state.val (cell k)) p in
    let x : d ≡ emits (bits_of o.state.rng o.state.val) = s ∙ ap emits p in
    t ∙ ap₂ (digits_out o) y x ∙ digits_front o

-- where the digits are out: the bits chosen, the start, and the coded part
abbrev chosen : tie.After-put_digits_run-a → tie.After-end_bits_run-bits
chosen c = c.before.before.before

abbrev begun : tie.After-put_digits_run-a → tie.Start
begun c = c.before.before.before.before.before

abbrev start : tie.After-put_digits_run-a → Out
start c = out (begun c).args.buf.now (begun c).args.w

coded : (c : tie.After-put_digits_run-a) → out c.put_digits_run-a.new.buf c.put_digits_run-a.result ≡ fronted (start c)
coded c = front (start c) _ _ _ _ (chosen c).end_bits_run-bits.ensures c.round_up_run-end.ensures refl c.put_digits_run-a.ensures

-- where the window's bytes are out
abbrev digits : tie.After-flush_all_run-b → tie.After-put_digits_run-a
digits c = c.before.before.before.before

sub_round_up_run : tie.Need-overflow_sub-bits
sub_round_up_run c = omega (arith, nine c)

round_up_run_requires : tie.Need-round_up_run-end-requires
round_up_run_requires c κs =
    let b = c.before.before in
    let e : cell c.end_bits_run-bits.result ≡ cell (bits_of b.args.w.rng b.args.w.val)
    = ap (λ (l : ℕ). cell l) c.end_bits_run-bits.ensures in
    (omega arith, omega (arith, (enough b).low, (enough b).high, b.requires.fits))

add_digits : tie.Need-overflow_add-digits
add_digits c = omega (arith, nine c.before)

put_digits_run_requires : tie.Need-put_digits_run-a-requires
put_digits_run_requires c κs =
    let b = c.before.before.before.before in
    (b.requires.roomy, (b.requires.held, omega (arith, b.requires.tidy, b.requires.few, nine c.before.before)))

flush_all_run_requires : tie.Need-flush_all_run-b-requires
flush_all_run_requires c κs =
    let p = c.before.before.before in
    subst Windowed (sym (coded p)) (front_windowed (start p) (begun p).requires)

mul_close_run : tie.Need-overflow_mul-digits
mul_close_run c = omega (arith, nine (chosen (digits c.before.before.before)))

sub_close_run : tie.Need-overflow_sub-digits
sub_close_run c = omega arith

close_run_requires : tie.Need-close_run-q-requires
close_run_requires c κs =
    let f = c.before.before.before in
    let l = f.flush_all_run-b.ensures in
    (l.windowed, (omega (arith, l.free), omega (arith, nine (chosen (digits f)))))

returns : tie.Need-returns
returns c =
    let f = c.before.before.before.before.before.before in
    let o = start (digits f) in
    let l = (chosen (digits f)).end_bits_run-bits in
    let j = 8 * ((l.result + 7) / 8) - l.result in
    let e : j ≡ spare_bits (bits_of o.state.rng o.state.val) = ap spare_bits l.ensures in
    ap (λ (q : Out). at_window q o.state.window o.state.wbits q.state.total)
    (c.close_run-q.ensures
    ∙ ap (λ (q : Out). closed q j) (f.flush_all_run-b.ensures.is ∙ ap flushed (coded (digits f)))
    ∙ ap (λ (i : ℕ). closed (flushed (fronted o)) i) e)
    ∙ finished_is o

pub ec_enc_done_run_spec : {M : Type 1} → statement M
ec_enc_done_run_spec =
    tie.close
    (tie.spec (λ c κs. search rules) sub_round_up_run round_up_run_requires add_digits put_digits_run_requires flush_all_run_requires
    mul_close_run sub_close_run close_run_requires (λ c. search rules) returns)
