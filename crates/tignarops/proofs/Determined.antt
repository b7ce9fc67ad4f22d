-- Each exported call has one outcome on one input (`specs/Statement`). `Post` is the contract itself, as the toolchain reads it from the call's
-- `ensures`. Assumes nothing.
use mathlib.Core.Path.{◌≡◌, sym, ap, ◌∙◌}
use Rattle.tignarops.specs.Statement.{Answers, Leaves}
use Rattle.tignarops.proofs.tg_dec_open.Reads as dec-open
use Rattle.tignarops.proofs.tg_dec_account.Reads as dec-account
use Rattle.tignarops.proofs.tg_dec_bit.Reads as dec-bit
use Rattle.tignarops.proofs.tg_dec_icdf.Reads as dec-icdf
use Rattle.tignarops.proofs.tg_dec_uint.Reads as dec-uint
use Rattle.tignarops.proofs.tg_dec_bits.Reads as dec-bits
use Rattle.tignarops.proofs.tg_enc_open.Reads as enc-open
use Rattle.tignarops.proofs.tg_enc_account.Reads as enc-account
use Rattle.tignarops.proofs.tg_enc_bit.Reads as enc-bit
use Rattle.tignarops.proofs.tg_enc_icdf.Reads as enc-icdf
use Rattle.tignarops.proofs.tg_enc_uint.Reads as enc-uint
use Rattle.tignarops.proofs.tg_enc_bits.Reads as enc-bits
use Rattle.tignarops.proofs.tg_enc_done.Reads as enc-done
use Rattle.tignarops.proofs.tg_frame_type.Reads as frame-type
use Rattle.tignarops.proofs.tg_decode_indices.Reads as decode-indices
use Rattle.tignarops.proofs.tg_encode_indices.Reads as encode-indices
use Rattle.tignarops.proofs.tg_decode_pulses.Reads as decode-pulses
use Rattle.tignarops.proofs.tg_encode_pulses.Reads as encode-pulses
use Rattle.tignarops.proofs.tg_nlsf_decode.Reads as nlsf-decode
use Rattle.tignarops.proofs.tg_nlsf_stabilise.Reads as nlsf-stabilise
use Rattle.tignarops.proofs.tg_packet_read.Reads as packet-read
use Rattle.tignarops.proofs.tg_packet_write.Reads as packet-write

-- two values of one equation agree in whatever they are made of
one : {D A : Type 0} (part : D → A) {p q d : D} → p ≡ d → q ≡ d → part p ≡ part q
one part p q = ap part (p ∙ sym q)

pub dec_open_one : Answers dec-open.Post
dec_open_one k x a c e f p q = one (λ s. s) p q

pub dec_account_one : Answers dec-account.Post
dec_account_one k x a c e f p q = one (λ s. s) p q

pub dec_bit_one : Answers dec-bit.Post
dec_bit_one k x a c e f p q = one (λ s. s) p q

pub dec_icdf_one : Answers dec-icdf.Post
dec_icdf_one k x a c e f p q = one (λ s. s) p q

pub dec_uint_one : Answers dec-uint.Post
dec_uint_one k x a c e f p q = one (λ s. s) p q

pub dec_bits_one : Answers dec-bits.Post
dec_bits_one k x a c e f p q = one (λ s. s) p q

pub enc_open_one : Answers enc-open.Post
enc_open_one k x a c e f p q = one (λ s. s.answer) p q

pub enc_account_one : Answers enc-account.Post
enc_account_one k x a c e f p q = one (λ s. s.answer) p q

pub enc_bit_one : Leaves enc-bit.Post (λ e. e.0.now)
enc_bit_one k x a c e f p q = (one (λ s. s.answer) p q, one (λ s. s.buf) p q)

pub enc_icdf_one : Leaves enc-icdf.Post (λ e. e.0.now)
enc_icdf_one k x a c e f p q = (one (λ s. s.answer) p q, one (λ s. s.buf) p q)

pub enc_uint_one : Leaves enc-uint.Post (λ e. e.0.now)
enc_uint_one k x a c e f p q = (one (λ s. s.answer) p q, one (λ s. s.buf) p q)

pub enc_bits_one : Leaves enc-bits.Post (λ e. e.0.now)
enc_bits_one k x a c e f p q = (one (λ s. s.answer) p q, one (λ s. s.buf) p q)

pub enc_done_one : Leaves enc-done.Post (λ e. e.0.now)
enc_done_one k x a c e f p q = (one (λ s. s.answer) p q, one (λ s. s.buf) p q)

pub frame_type_one : Answers frame-type.Post
frame_type_one k x a c e f p q = one (λ s. s) p q

pub decode_indices_one : Answers decode-indices.Post
decode_indices_one k x a c e f p q = one (λ s. s) p q

pub encode_indices_one : Leaves encode-indices.Post (λ e. e.0.now)
encode_indices_one k x a c e f p q = (one (λ s. s.answer) p q, one (λ s. s.buf) p q)

pub decode_pulses_one : Leaves decode-pulses.Post (λ e. e.1.1.0.now)
decode_pulses_one k x a c e f p q = (one (λ s. s.answer) p q, one (λ s. s.pulses) p q)

pub encode_pulses_one : Leaves encode-pulses.Post (λ e. e.0.now)
encode_pulses_one k x a c e f p q = (one (λ s. s.answer) p q, one (λ s. s.buf) p q)

pub nlsf_decode_one : Leaves nlsf-decode.Post (λ e. e.0.now)
nlsf_decode_one k x a c e f p q = (one (λ s. s.answer) p q, one (λ s. s.vector) p q)

pub nlsf_stabilise_one : Leaves nlsf-stabilise.Post (λ e. e.0.now)
nlsf_stabilise_one k x a c e f p q = (one (λ s. s.answer) p q, one (λ s. s.vector) p q)

pub packet_read_one : Answers packet-read.Post
packet_read_one k x a c e f p q = one (λ s. s) p q

pub packet_write_one : Leaves packet-write.Post (λ e. e.0.now)
packet_write_one k x a c e f p q = (one (λ s. s.answer) p q, one (λ s. s.buf) p q)
