use Rattle.std.proofs.Common.{arith}
use Rattle.std.proofs.lemmas.List.Elements.{All-from_get_or}
use Rattle.wire_frames.specs.declared.places.TheConstants.{FRAME_SESSION_PLACE}
use Rattle.wire_frames.proofs.Digits.{IsByte}
use Rattle.wire_frames.proofs.QueryLayout.{session_goes_on}
use Rattle.wire_frames.proofs.query.read_session.Goals as goal

pub unreachable-requires : goal.unreachable-requires
unreachable-requires c =
    let all = All-from_get_or IsByte c.args.bytes.now 0 (λ i _. c.fits-bytes i) in
    session_goes_on c.args.bytes.now FRAME_SESSION_PLACE c.in_default.field-0 all (omega (arith, c.told-bytes)) c.in_default.ensures
