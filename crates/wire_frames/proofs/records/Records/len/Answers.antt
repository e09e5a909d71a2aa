use Rattle.std.proofs.Common.{◌<◌, subst}
use Rattle.std.proofs.lemmas.List.Elements.{All-drop}
use Rattle.wire_frames.specs.Records.{Kept, AreBytes}
use Rattle.wire_frames.proofs.Spans.{at_spans_below}
use Rattle.wire_frames.proofs.records.Records.len.Goals as goal

pub returns-clause-bytes : goal.returns-clause-bytes
returns-clause-bytes c =
    let bytes = c.self.inside.bytes.items in
    subst (λ (k : Kept). AreBytes k) c.self.view_is record {
      closed = at_spans_below bytes c.self.invariant.4 c.self.inside.closed.items;
      current = All-drop (λ b. b < 256) c.self.inside.start bytes c.self.invariant.4;
    }
