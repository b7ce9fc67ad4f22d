-- An input that ends where its last section does, or any other. Assumes nothing.
use Rattle.std.proofs.Common.{◌≡◌, ℕ, ◌+◌, ◌*◌, List, pos, sym, ap, ap₂, ◌∙◌, arith, rules, length, replicate}
use borrow.Author.Tests.{eq-eqb, ne_eqb}
use lib.Seq.{length-take-le}
use Rattle.numerals.specs.Inner.{Put}
use Rattle.numerals.proofs.Put.{put_as}
use Rattle.listing.specs.Lines.{refused_text}
use Rattle.listing.proofs.PrintedLaws.{printed_put}
use Rattle.sections.specs.Values.{byte_at}
use Rattle.stabiliser_text.specs.StabiliserText.{gaps_at, sections_text, stabiliser_text}
use Rattle.stabiliser_text.proofs.stabiliser_text.Goals as goal

module _ (s : List ℕ) (n m : ℕ) (first : n ≡ byte_at s 0) (second : m ≡ byte_at s (1 + 2 * n)) where
  place : 1 + 2 * n ≡ gaps_at s
  place = ap (λ (k : ℕ). 1 + 2 * k) first

  gap_count : m ≡ byte_at s (gaps_at s)
  gap_count = second ∙ ap (byte_at s) place

  put_whole : {k j i : ℕ} {l b : List ℕ} → length s ≡ 1 + 2 * n + 1 + 2 * m → k ≡ n → j ≡ m
      → Put 256 l 0 (sections_text s k j) b i → Put 256 l 0 (stabiliser_text s) b i
  unfolding stabiliser_text
  put_whole {k} {j} h p q t =
      rw (eq-eqb (length s) (gaps_at s + 1 + 2 * byte_at s (gaps_at s)) (omega (arith, place, gap_count)))
      (put_as t (ap₂ (sections_text s) (p ∙ first) (q ∙ gap_count)) (omega arith))

  put_cut : {i : ℕ} {l b : List ℕ} → (length s ≡ 1 + 2 * n + 1 + 2 * m → ⊥) → Put 15 l 0 (refused_text 9) b i → Put 15 l 0 (stabiliser_text s) b i
  unfolding stabiliser_text
  put_cut h t =
      let f : 1 + 2 * n + 1 + 2 * m ≡ gaps_at s + 1 + 2 * byte_at s (gaps_at s) = omega (arith, place, gap_count) in
      rw (ne_eqb (length s) (gaps_at s + 1 + 2 * byte_at s (gaps_at s)) (λ e. h (e ∙ sym f))) t

pub returns-then-input-second : goal.returns-then-input-second
returns-then-input-second c =
    let n = c.byte_at-n in
    let m = c.byte_at-m in
    let room = replicate 255 (pos 0) in
    let e = length-take-le n.result room (omega arith) in
    let f = length-take-le m.result room (omega arith) in
    printed_put
    (put_whole c.args.input.now n.result m.result n.ensures.0 m.ensures.0 c.if-input-second.true e f c.put_stabilised.ensures)
    (search rules)

pub returns-else-input-second : goal.returns-else-input-second
returns-else-input-second c =
    let n = c.byte_at-n in
    let m = c.byte_at-m in
    printed_put
    (put_cut c.args.input.now n.result m.result n.ensures.0 m.ensures.0 c.if-input-second.false c.put_refused_run.ensures)
    (search rules)
