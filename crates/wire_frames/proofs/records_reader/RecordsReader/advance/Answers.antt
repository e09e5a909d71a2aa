use Rattle.std.proofs.Common.{◌≡◌, ◌∙◌, ℕ, ◌<◌, ◌≤◌, sym, arith}
use Rattle.wire_frames.proofs.RecordSteps.{last_refuses, open_in_bytes, open_in_header}
use Rattle.wire_frames.proofs.records_reader.RecordsReader.advance.Goals as goal

no_left : {left : ℕ} → left ≤ 0 → left ≡ 0
no_left few = omega (arith, few)

-- some record is still to come
not_all : (closed servers len count : ℕ) → closed ≤ servers → len ≡ closed → count ≡ servers → (len ≡ count → ⊥) → closed < servers
not_all closed servers len count few is_len is_count differ = omega (arith, few, is_len, is_count, differ)

pub returns-then-len-from-clause-bytes : goal.returns-then-len-from-clause-bytes
returns-then-len-from-clause-bytes c =
    last_refuses c.args.self.now c.args.piece.now c.requires.«open» (no_left c.if-self-gt0.false) (sym c.len.ensures.count ∙ c.if-len-from.true ∙ c.from.ensures) c.requires.some

pub returns-clause-bytes : goal.returns-clause-bytes
returns-clause-bytes c = c.take_header.ensures.bytes

pub returns-then-self-gt0-clause-bytes : goal.returns-then-self-gt0-clause-bytes
returns-then-self-gt0-clause-bytes c = c.take_bytes.ensures.bytes

pub take_bytes-requires-clause-left : goal.take_bytes-requires-clause-left
take_bytes-requires-clause-left c = c.if-self-gt0.true

pub take_bytes-requires-clause-part : goal.take_bytes-requires-clause-part
take_bytes-requires-clause-part c = open_in_bytes c.args.self.now c.requires.«open» c.if-self-gt0.true

pub take_bytes-requires-clause-steady : goal.take_bytes-requires-clause-steady
take_bytes-requires-clause-steady c = c.requires.«open».steady

pub take_header-requires-clause-few : goal.take_header-requires-clause-few
take_header-requires-clause-few c = not_all _ _ _ _ c.requires.«open».steady.few c.len.ensures.count c.from.ensures c.if-len-from.false

pub take_header-requires-clause-part : goal.take_header-requires-clause-part
take_header-requires-clause-part c = open_in_header c.args.self.now c.requires.«open» c.if-self-gt0.false

pub take_header-requires-clause-steady : goal.take_header-requires-clause-steady
take_header-requires-clause-steady c = c.requires.«open».steady
