use Rattle.std.proofs.Common.{refl}
use Rattle.wire_frames.proofs.SessionStates.{new_sound}
use Rattle.wire_frames.proofs.reader.SessionReader.new.Goals as goal

pub invariant_of-result : goal.invariant_of-result
invariant_of-result c = new_sound 0 c.new.result refl c.new.ensures
