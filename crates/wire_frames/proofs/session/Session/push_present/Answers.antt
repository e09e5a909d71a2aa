use Rattle.std.proofs.Common.{◌<◌, ◌≤◌, length, All, Some, ap, subst, sym, ◌∙◌}
use Rattle.std.proofs.Math.Facts.{Fits-lt-pow}
use Rattle.std.proofs.lemmas.List.Elements.{All-from_get_or}
use Rattle.wire_frames.specs.Sizes.{answer_len}
use Rattle.wire_frames.specs.Records.{Kept, closed_by}
use Rattle.wire_frames.specs.Session.{Transcript, IsUnderWay}
use Rattle.wire_frames.proofs.UnderWay.{under_way_present}
use Rattle.wire_frames.proofs.session.Session.push_present.Goals as goal

pub invariant_of-self : goal.invariant_of-self
invariant_of-self c =
    let bytes = c.args.bytes.now in
    let below : All (λ b. b < 256) bytes = All-from_get_or (λ b. b < 256) bytes 0 (λ i _. Fits-lt-pow (c.type_inv.bytes i)) in
    let few : length c.self.inside.records.closed < c.self.inside.params.n = subst (λ (t : Transcript). length t.records < t.params.n) (sym c.self.view_is) c.requires.few in
    let short : length bytes ≤ answer_len c.self.inside.params.count c.self.inside.params.s = subst (λ (t : Transcript). length bytes ≤ answer_len t.params.count t.params.s) (sym c.self.view_is) c.requires.fits in
    subst (λ (k : Kept). IsUnderWay c.self.inside.params k)
    (sym (c.close_present.ensures ∙ ap (λ (k : Kept). closed_by (Some k.current) k) c.extend.ensures))
    (under_way_present c.self.inside.params c.self.inside.records bytes few short below c.self.invariant)
