-- An input that ends where its packet does, or any other. Assumes nothing.
use Rattle.std.proofs.Common.{◌≡◌, ℕ, ℤ, ◌+◌, ◌-◌, ◌≤◌, List, Bool, true, false, sym, ap₂, ◌∙◌, rules, arith, length, take, drop}
use borrow.Author.Rules.{sfits_of}
use borrow.Author.Tests.{eqb-true}
use lib.Dec.{eqb}
use lib.ListN.{length-drop}
use lib.Seq.{take_all}
use mir.Syntax.{w16}
use mir.Facts.{to_z-of_z}
use Rattle.deciding.proofs.Both.{and_both}
use Rattle.numerals.specs.Inner.{Put}
use Rattle.numerals.proofs.Put.{put_as}
use Rattle.listing.specs.Lines.{refused_text}
use Rattle.listing.proofs.PrintedLaws.{printed_put}
use Rattle.sections.specs.Values.{byte_at, pair_at, value_at}
use Rattle.silk.specs.declared.Setting.{Setting}
use Rattle.lister_text_input.specs.ListerInput.{whole}
use Rattle.lister_text.specs.ListerText.{setting_at, frame_text, lister_text}
use Rattle.lister_text.proofs.lister_text.Goals as goal

long : (s : List ℕ) {t : Bool} → t ≡ whole s → t ≡ true → 10 ≤ length s
long s e f =
    let p = and_both (eqb (byte_at s 0) 7) (eqb (length s) (10 + pair_at s 8)) (sym e ∙ f) in
    omega (arith, eqb-true (length s) (10 + pair_at s 8) p.1)

same : (s : List ℕ) {khz subframes active mode type : ℕ} {lag : ℤ} → khz ≡ byte_at s 1 → subframes ≡ byte_at s 2 → active ≡ byte_at s 3
    → mode ≡ byte_at s 4 → type ≡ byte_at s 5 → lag ≡ value_at s 6
    → record { khz = khz; subframes = subframes; active = active; mode = mode; prevtype = type; prevlag = lag } ≡ setting_at s
same s a b d e f g = cc

put_whole : (s : List ℕ) {q : Setting} {l b : List ℕ} {i : ℕ} → whole s ≡ true → q ≡ setting_at s
    → Put 2564 l 0 (frame_text (take (length s - 10) (drop 10 s)) q) b i → Put 2564 l 0 (lister_text s) b i
unfolding lister_text
put_whole s {q} h e t =
    let p = take_all (length s - 10) (drop 10 s) (omega (arith, length-drop 10 s)) in
    rw h (put_as t (ap₂ frame_text p e) (omega arith))

put_cut : (s : List ℕ) {l b : List ℕ} {i : ℕ} → whole s ≡ false → Put 15 l 0 (refused_text 9) b i → Put 15 l 0 (lister_text s) b i
unfolding lister_text
put_cut s h t = rw h t

pub value_at_run-requires : goal.value_at_run-requires
value_at_run-requires c = omega (arith, long c.args.input.now c.whole.ensures c.if-whole.true)

pub returns-then-whole : goal.returns-then-whole
returns-then-whole c =
    let s = c.args.input.now in
    let lag = to_z-of_z {w = w16} (sfits_of c.value_at_run.type_inv) ∙ c.value_at_run.ensures in
    let e =
    same s c.number_at.ensures c.number_at-then-whole.ensures c.number_at-then-whole-2.ensures c.number_at-then-whole-3.ensures
    c.number_at-then-whole-4.ensures lag in
    printed_put (put_whole s (sym c.whole.ensures ∙ c.if-whole.true) e c.put_read.ensures) (search rules)

pub returns-else-whole : goal.returns-else-whole
returns-else-whole c = printed_put (put_cut c.args.input.now (sym c.whole.ensures ∙ c.if-whole.false) c.put_cut_run.ensures) (search rules)
