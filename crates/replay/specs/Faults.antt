-- The fault of a replay that a fault of its reader is.
use Rattle.wire_frames.specs.declared.reader.FeedFault.{FeedFault}
use Rattle.wire_frames.specs.declared.reader.FeedFault.TheVariants.{BadSession as Wrong, Memory as NoMemory}
use Rattle.wire_frames.specs.declared.reader.BadSession.{BadSession as SessionFault}
use Rattle.replay.specs.declared.ReplayFault.{ReplayFault}
use Rattle.replay.specs.declared.ReplayFault.TheVariants.{BadSession, Memory}

-- of one that a piece brought
abbrev pub of_feed : FeedFault → ReplayFault
of_feed (Wrong place) = BadSession place
of_feed NoMemory = Memory

-- of one that the end brought
abbrev pub of_end : SessionFault → ReplayFault
of_end fault = BadSession fault.place
