use Rattle.std.proofs.Common.{◌+◌, length, subst, arith}
use Rattle.std.specs.Prelude.{Ok, Err}
use Rattle.wire_frames.specs.declared.reader.FeedFault.TheVariants.{BadSession}
use Rattle.wire_frames.specs.declared.reader.Stop.{Stop}
use Rattle.wire_frames.specs.Reading.{Reading, Refused, Feeds}
use Rattle.wire_frames.specs.SessionReader.{FeedsState, reading_of}
use Rattle.wire_frames.proofs.SessionStates.{taken_fits, taken_sound, taken_reads, refused_fits, refused_reads}
use Rattle.wire_frames.proofs.reader.SessionReader.feed.Goals as goal

pub overflow_add-self : goal.overflow_add-self
overflow_add-self c =
    let few = taken_fits c.self.inside.taken c.self.inside.state c.args.piece.now c.feed.new.self c.self.invariant c.in-Ok.ensures in
    omega (arith, few)

pub invariant_of-self : goal.invariant_of-self
invariant_of-self c = taken_sound c.self.inside.taken c.self.inside.state c.args.piece.now c.feed.new.self c.self.invariant c.in-Ok.ensures

pub returns-in-Ok : goal.returns-in-Ok
returns-in-Ok c =
    subst (λ (old : Reading). Feeds old c.args.piece.now (Ok tt) (reading_of (c.self.inside.taken + length c.args.piece.now) c.feed.new.self)) c.self.view_is
    (taken_reads c.self.inside.taken c.self.inside.state c.args.piece.now c.feed.new.self c.self.invariant c.in-Ok.ensures)

pub overflow_add-self-in-Err-Wrong : goal.overflow_add-self-in-Err-Wrong
overflow_add-self-in-Err-Wrong c =
    let right = c.in-Err-Wrong.right in
    let wrong = subst (λ (stop : Stop). FeedsState c.self.inside.state c.args.piece.now (Err stop) c.feed.new.self) c.in-Err-Wrong.field-0-is c.in-Err-Wrong.ensures in
    let few = refused_fits c.self.inside.taken c.self.inside.state c.args.piece.now right c.feed.new.self c.self.ranges.0.1 c.self.invariant wrong in
    omega (arith, few)

pub returns-in-Err-Wrong : goal.returns-in-Err-Wrong
returns-in-Err-Wrong c =
    let right = c.in-Err-Wrong.right in
    let wrong = subst (λ (stop : Stop). FeedsState c.self.inside.state c.args.piece.now (Err stop) c.feed.new.self) c.in-Err-Wrong.field-0-is c.in-Err-Wrong.ensures in
    subst (λ (old : Reading). Feeds old c.args.piece.now (Err (BadSession (c.self.inside.taken + right))) (Refused (c.self.inside.taken + right))) c.self.view_is
    (refused_reads c.self.inside.taken c.self.inside.state c.args.piece.now right c.feed.new.self c.self.invariant wrong)
