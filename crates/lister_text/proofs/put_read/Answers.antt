-- The side indices are those read from the packet's start. Assumes nothing.
use Rattle.std.proofs.Common.{◌≡◌, ℕ, List, sym, ap, ap₂, ◌∙◌, rules, arith}
use borrow.Author.Tests.{eq-eqb, ne_eqb}
use Rattle.numerals.proofs.Put.{put_as}
use Rattle.listing.specs.Lines.{refused_text}
use Rattle.entcode.specs.declared.Dec.{Dec}
use Rattle.entcode.specs.declared.Decoded.{Decoded}
use Rattle.entcode.specs.Reader.{Bytes}
use Rattle.silk.specs.declared.Indices.{Indices}
use Rattle.silk.specs.declared.IndicesRead.{IndicesRead}
use Rattle.silk.specs.declared.Setting.{Setting}
use Rattle.silk.specs.FrameCalls.{decode_indices}
use Rattle.lister_text.specs.ListerText.{accepted_text, read_text}
use Rattle.lister_text.proofs.Readings.{listable, refusal_most}
use Rattle.lister_text.proofs.put_read.Goals as goal

read : (b : List ℕ) (s : Setting) (a : IndicesRead) → a.refusal ≡ 0 → accepted_text b s.khz s.subframes a ≡ read_text b s a
unfolding read_text
read b s a h = rw (eq-eqb a.refusal 0 h)

refused : (b : List ℕ) (s : Setting) (a : IndicesRead) → (a.refusal ≡ 0 → ⊥) → refused_text a.refusal ≡ read_text b s a
unfolding read_text
refused b s a h = rw (ne_eqb a.refusal 0 h)

reading : (b : List ℕ) (s : Setting) {d e : Dec} {x y : Indices} {a : IndicesRead}
    → a ≡ decode_indices b d x s → d ≡ e → x ≡ y → a ≡ decode_indices b e y s
reading b s f g h = f ∙ ap₂ (λ (d : Dec) (x : Indices). decode_indices b d x s) g h

pub put_frame-requires-clause-rate : goal.put_frame-requires-clause-rate
put_frame-requires-clause-rate c =
    let b = c.args.packet.now in
    let y : Bytes b = λ i. omega (arith, c.type_inv.packet i) in
    let e = reading b c.args.s c.silk_decode_indices-a.ensures (ap (λ (a : Decoded). a.state) c.ec_dec_init.ensures) c.blank.ensures in
    let a = listable b c.args.s y (sym (ap (λ (a : IndicesRead). a.refusal) e) ∙ c.if-a-eq0.true) in
    (a.rate, a.subframes)

pub returns-then-a-eq0 : goal.returns-then-a-eq0
returns-then-a-eq0 c =
    let b = c.args.packet.now in
    let s = c.args.s in
    let e = reading b s c.silk_decode_indices-a.ensures (ap (λ (a : Decoded). a.state) c.ec_dec_init.ensures) c.blank.ensures in
    put_as c.put_frame.ensures (read b s c.silk_decode_indices-a.result c.if-a-eq0.true ∙ ap (read_text b s) e) (omega arith)

pub put_refused_run-requires : goal.put_refused_run-requires
put_refused_run-requires c =
    let b = c.args.packet.now in
    let s = c.args.s in
    let e = reading b s c.silk_decode_indices-a.ensures (ap (λ (a : Decoded). a.state) c.ec_dec_init.ensures) c.blank.ensures in
    (search rules, omega (arith, ap (λ (a : IndicesRead). a.refusal) e, refusal_most b s))

pub returns-else-a-eq0 : goal.returns-else-a-eq0
returns-else-a-eq0 c =
    let b = c.args.packet.now in
    let s = c.args.s in
    let e = reading b s c.silk_decode_indices-a.ensures (ap (λ (a : Decoded). a.state) c.ec_dec_init.ensures) c.blank.ensures in
    put_as c.put_refused_run.ensures (refused b s c.silk_decode_indices-a.result c.if-a-eq0.false ∙ ap (read_text b s) e) (omega arith)
