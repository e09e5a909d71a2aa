use Rattle.std.proofs.Common.{ℕ, ◌<◌, List, length, ap, subst, sym, refl, ◌∙◌}
use Rattle.std.specs.Prelude.{Option, Result, Ok, Err}
use Rattle.std.proofs.lemmas.Result.{err_from_is_err_and}
use Rattle.wire_frames.specs.declared.records_reader.RecordsReader.{RecordsReader}
use Rattle.wire_frames.specs.declared.reader.State.{State}
use Rattle.wire_frames.specs.declared.reader.State.TheVariants.{Header, Records}
use Rattle.wire_frames.specs.declared.reader.Stop.{Stop}
use Rattle.wire_frames.specs.declared.reader.Stop.TheVariants.{Wrong, Memory}
use Rattle.wire_frames.specs.declared.sizes.TheConstants.{SESSION_HEADER_LEN}
use Rattle.wire_frames.specs.SessionReader.{FeedsHeader, FeedsState, IsRight, TakesPiece}
use Rattle.wire_frames.proofs.reader.State.feed.Goals as goal

-- a header that stops has taken no byte, or says how many are right
header_stops : (head piece new : List ℕ) (stop : Stop) → length head < SESSION_HEADER_LEN → FeedsHeader head piece (Err stop) new → TakesPiece (Header head) head piece (Err stop) (Header new)
header_stops head piece new (Wrong right) short fed = fed
header_stops head piece new Memory short fed = (ap Header fed.0, short, fed.1)

pub feed_header-requires-clause-right : goal.feed_header-requires-clause-right
feed_header-requires-clause-right c = (subst (λ (s : State). IsRight s) c.in-Header.is c.requires).2

pub feed_header-requires-clause-short : goal.feed_header-requires-clause-short
feed_header-requires-clause-short c = (subst (λ (s : State). IsRight s) c.in-Header.is c.requires).1

pub feed-requires : goal.feed-requires
feed-requires c = (subst (λ (s : State). IsRight s) c.in-Records.is c.requires).1

pub returns-in-Err : goal.returns-in-Err
returns-in-Err c = subst (λ (s : State). FeedsState s c.args.piece.now (Err (Wrong c.in-Err.right)) (Records c.feed.new.self)) (sym c.in-Records.is) c.in-Err.ensures.bytes

pub returns-in-Ok : goal.returns-in-Ok
returns-in-Ok c = subst (λ (s : State). FeedsState s c.args.piece.now (Ok tt) (Records c.feed.new.self)) (sym c.in-Records.is) (c.in-Ok.ensures.bytes.0, c.in-Ok.ensures.«open»)

pub returns-in-Some : goal.returns-in-Some
returns-in-Some c =
    let fed = subst (λ (o : Option RecordsReader). FeedsHeader c.in-Header.head c.args.piece.now (Ok o) c.feed_header.new.head) c.in-Some.is c.in_ok-records-in-Header.ensures in
    subst (λ (s : State). FeedsState s c.args.piece.now (Ok tt) (Records c.in-Some.records)) (sym c.in-Header.is) (fed.1, fed.0)

pub returns-in-Stopped : goal.returns-in-Stopped
returns-in-Stopped c = subst (λ (s : State). FeedsState s c.args.piece.now (Err (Wrong 0)) c.args.self.now) (sym c.in-Stopped.is) refl

pub returns-in_default : goal.returns-in_default
returns-in_default c =
    let fed = subst (λ (o : Option RecordsReader). FeedsHeader c.in-Header.head c.args.piece.now (Ok o) c.feed_header.new.head) c.in_default.is c.in_ok-records-in-Header.ensures in
    subst (λ (s : State). FeedsState s c.args.piece.now (Ok tt) (Header c.feed_header.new.head)) (sym c.in-Header.is) fed

pub returns-in_err-records-in-Header : goal.returns-in_err-records-in-Header
returns-in_err-records-in-Header c =
    let stop = err_from_is_err_and c.from_residual.result c.from_residual.ensures.1 in
    let short = (subst (λ (s : State). IsRight s) c.in-Header.is c.requires).1 in
    subst (λ (r : Result (Unit {0}) Stop). FeedsState c.args.self.now c.args.piece.now r (Header c.feed_header.new.head)) (sym (stop.1 ∙ ap Err stop.2))
    (subst (λ (s : State). FeedsState s c.args.piece.now (Err c.in_err-records-in-Header.field-0.0) (Header c.feed_header.new.head)) (sym c.in-Header.is)
    (header_stops c.in-Header.head c.args.piece.now c.feed_header.new.head c.in_err-records-in-Header.field-0.0 short c.in_err-records-in-Header.ensures))
