-- `encode_indices::all_tell` meets its contract: type, gains, spectrum, interpolation, pitch, seed. Assumes nothing.
use borrow.Author.Rules.{rules}
use Prim.Native.Nat.{ℕ, ◌+◌, ◌^◌, ◌≤◌, ◌<◌}
use mathlib.Core.Path.{sym, ap, ◌∙◌}
use mathlib.Core.List.{List}
use native.Mathlib.Omega.{arith}
use lib.IntN.{pos}
use Rattle.entcode.specs.declared.Enc.{Enc}
use Rattle.entcode.specs.Flat.{out}
use Rattle.silk.specs.Inner.Indices.{Writing}
use Rattle.silk.specs.Record.{Shape}
use Rattle.silk.proofs.IndexTold.{writing_next}
use Rattle.encode_indices.proofs.Parts.{parts_told}
use Rattle.encode_indices.proofs.all_tell.Statement.{statement}
use Rattle.encode_indices.proofs.all_tell.Tie as tie

shape : (z : tie.Start) → Shape z.args.x
shape z = record { gains = search rules; ltp = search rules; nlsf = search rules }

-- ---- the start, from behind each part; and a writer for the next part there, whose total is at most n

abbrev Ready : tie.Start → List ℕ → Enc → ℕ → Type 0
Ready z b w n = Writing (out b w) z.args.rows.now n

abbrev kind_start : tie.After-kind_tell_run-k → tie.Start
kind_start c = c.before.before.before.before.before

kind_told : (c : tie.After-kind_tell_run-k) (n : ℕ) → 2 ^ 26 + 16 ≤ n → Ready (kind_start c) c.kind_tell_run-k.new.buf c.kind_tell_run-k.result n
kind_told c n h = writing_next n (kind_start c).requires.0 c.kind_tell_run-k.ensures (omega arith)

abbrev gains_start : tie.After-gains_tell_run-g → tie.Start
gains_start c = kind_start c.before.before.before.before

gains_told : (c : tie.After-gains_tell_run-g) (n : ℕ) → 2 ^ 26 + 96 ≤ n → Ready (gains_start c) c.gains_tell_run-g.new.buf c.gains_tell_run-g.result n
gains_told c n h =
    writing_next n (kind_told c.before.before.before.before (2 ^ 26 + 16) (omega arith)) c.gains_tell_run-g.ensures (omega arith)

abbrev spectrum_start : tie.After-spectrum_tell_run-q → tie.Start
spectrum_start c = gains_start c.before.before.before.before

spectrum_told : (c : tie.After-spectrum_tell_run-q) (n : ℕ) → 2 ^ 26 + 624 ≤ n → Ready (spectrum_start c) c.spectrum_tell_run-q.new.buf c.spectrum_tell_run-q.result n
spectrum_told c n h =
    writing_next n (gains_told c.before.before.before.before (2 ^ 26 + 96) (omega arith)) c.spectrum_tell_run-q.ensures (omega arith)

abbrev interpolation_start : tie.After-interpolation_tell_run-i → tie.Start
interpolation_start c = spectrum_start c.before.before.before.before

interpolation_told : (c : tie.After-interpolation_tell_run-i) (n : ℕ) → 2 ^ 26 + 640 ≤ n → Ready (interpolation_start c) c.interpolation_tell_run-i.new.buf c.interpolation_tell_run-i.result n
interpolation_told c n h =
    writing_next n (spectrum_told c.before.before.before.before (2 ^ 26 + 624) (omega arith)) c.interpolation_tell_run-i.ensures (omega arith)

abbrev pitch_start : tie.After-voicing_tell-v → tie.Start
pitch_start c = interpolation_start c.before.before.before.before

pitch_told : (c : tie.After-voicing_tell-v) (n : ℕ) → 2 ^ 26 + 800 ≤ n → Ready (pitch_start c) c.voicing_tell-v.new.buf c.voicing_tell-v.result n
pitch_told c n h =
    writing_next n (interpolation_told c.before.before.before.before (2 ^ 26 + 640) (omega arith)) c.voicing_tell-v.ensures (omega arith)

-- ---- the calls

-- the signal type
signal_small : (c : tie.After-next_type_run-signal) → c.next_type_run-signal.result < 3
signal_small c = omega (arith, c.next_type_run-signal.ensures, c.requires.1.3.kind.signal.most)

gains_tell_run_requires : tie.Need-gains_tell_run-g-requires
gains_tell_run_requires c κs =
    let k = c.before.before.before in
    let p = (kind_start k).requires.1 in
    (kind_told k (2 ^ 28) (omega arith), (p.1, signal_small k.before.before, p.3.gains))

spectrum_tell_run_requires : tie.Need-spectrum_tell_run-q-requires
spectrum_tell_run_requires c κs =
    let g = c.before.before.before in
    let k = g.before.before.before.before in
    let p = (kind_start k).requires.1 in
    (gains_told g (2 ^ 27) (omega arith), (p.0, signal_small k.before.before, p.3.spectrum))

interpolation_tell_run_requires : tie.Need-interpolation_tell_run-i-requires
interpolation_tell_run_requires c κs =
    let q = c.before.before.before in
    (spectrum_told q (2 ^ 29) (omega arith), (spectrum_start q).requires.1.3.interp)

voicing_tell_requires : tie.Need-voicing_tell-v-requires
voicing_tell_requires c κs =
    let i = c.before.before.before in
    let k = i.before.before.before.before.before.before.before.before.before.before.before.before in
    let p = (kind_start k).requires.1 in (
      interpolation_told i (2 ^ 27) (omega arith),
      (p.0, p.1, λ e. p.3.pitch (p.3.kind.signal.least ∙ ap pos (sym k.next_type_run-signal.ensures ∙ e))),
    )

seed_tell_run_requires : tie.Need-seed_tell_run-requires
seed_tell_run_requires c κs =
    let v = c.before.before.before in
    (pitch_told v (2 ^ 29) (omega arith), (pitch_start v).requires.1.3.seed)

same_length : tie.Need-shape_of-buf
same_length c =
    let v = c.before.before.before.before.before.before in
    let i = v.before.before.before.before in
    let q = i.before.before.before.before in
    let g = q.before.before.before.before in
    c.seed_tell_run.auto.buf
    ∙ v.voicing_tell-v.auto.buf
    ∙ i.interpolation_tell_run-i.auto.buf
    ∙ q.spectrum_tell_run-q.auto.buf
    ∙ g.gains_tell_run-g.auto.buf
    ∙ g.kind_tell_run-k.auto.buf

returns : tie.Need-returns
returns c =
    let v = c.before.before.before.before.before.before in
    let i = v.before.before.before.before in
    let q = i.before.before.before.before in
    let g = q.before.before.before.before in
    let k = g.before.before.before.before in
    let z = kind_start k in
    let a = z.args in
    let p = z.requires.1 in
    parts_told a.s a.x p.0 p.1 p.2 (shape z) p.3
    k.next_type_run-signal.result k.next_type_run-signal.ensures
    k.kind_tell_run-k.ensures
    g.gains_tell_run-g.ensures
    q.spectrum_tell_run-q.ensures
    i.interpolation_tell_run-i.ensures
    v.voicing_tell-v.ensures
    c.seed_tell_run.ensures

pub all_tell_spec : {M : Type 1} → statement M
all_tell_spec =
    tie.close
    (tie.spec
    (λ c κs. search rules)
    (λ c κs. search rules)
    gains_tell_run_requires
    spectrum_tell_run_requires
    interpolation_tell_run_requires
    voicing_tell_requires
    seed_tell_run_requires
    same_length
    returns)
