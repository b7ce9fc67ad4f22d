-- A packet that is accepted, or one that is refused. Assumes nothing.
use Rattle.std.proofs.Common.{◌≡◌, ℕ, List, sym, ap, ◌∙◌, rules, arith}
use borrow.Author.Tests.{eq-eqb, ne_eqb}
use Rattle.listing.specs.Lines.{refused_text}
use Rattle.listing.proofs.PrintedLaws.{printed_put}
use Rattle.framing.specs.declared.Packet.{Packet}
use Rattle.framing.specs.Reading.{packet_read}
use Rattle.framing.specs.Statement.{Accepted}
use Rattle.packet_text_accepted.specs.AcceptedText.{accepted_text}
use Rattle.packet_text.specs.PacketText.{packet_text}
use Rattle.packet_text.proofs.AnswerLaws.{small, refusal_most}
use Rattle.packet_text.proofs.packet_text.Goals as goal

module _ (s : List ℕ) (a : Packet) (read : a ≡ packet_read s) where
  number : a.refusal ≡ (packet_read s).refusal
  number = ap (λ (p : Packet). p.refusal) read

  accepted : a.refusal ≡ 0 → accepted_text a ≡ packet_text s
  unfolding packet_text
  accepted h = ap accepted_text read ∙ rw (eq-eqb (packet_read s).refusal 0 (sym number ∙ h))

  refused : (a.refusal ≡ 0 → ⊥) → refused_text a.refusal ≡ packet_text s
  unfolding packet_text
  refused h = ap refused_text number ∙ rw (ne_eqb (packet_read s).refusal 0 (λ e. h (number ∙ e)))

pub put_accepted_run-requires : goal.put_accepted_run-requires
put_accepted_run-requires c =
    let s = c.args.input.now in
    let r = c.packet_read-a.ensures in
    let h : Accepted s = omega (arith, number s _ r, c.if-a-eq0.true) in
    (search rules, rw r (small s h))

pub returns-then-a-eq0 : goal.returns-then-a-eq0
returns-then-a-eq0 c =
    printed_put (rw (accepted c.args.input.now _ c.packet_read-a.ensures (omega (arith, c.if-a-eq0.true))) at c.put_accepted_run.ensures) (search rules)

pub put_refused_run-requires : goal.put_refused_run-requires
put_refused_run-requires c =
    let s = c.args.input.now in
    (search rules, omega (arith, number s _ c.packet_read-a.ensures, refusal_most s))

pub returns-else-a-eq0 : goal.returns-else-a-eq0
returns-else-a-eq0 c =
    printed_put (rw (refused c.args.input.now _ c.packet_read-a.ensures c.if-a-eq0.false) at c.put_refused_run.ensures) (search rules)
