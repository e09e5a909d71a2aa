use Rattle.std.proofs.Common.{ℕ, ◌<◌, List, [], ◌∷◌, ◌++◌, length, ap, subst, sym, ◌∙◌}
use Rattle.std.specs.Prelude.{Option, None}
use Rattle.std.specs.Option.{option_copied}
use Rattle.wire_frames.specs.Records.{Kept}
use Rattle.wire_frames.specs.Session.{Transcript, IsUnderWay}
use Rattle.wire_frames.proofs.UnderWay.{room_for_one, under_way_absent, with_record}
use Rattle.wire_frames.proofs.session.Session.push_record.Goals as goal

pub close_absent-requires-clause-empty : goal.close_absent-requires-clause-empty
close_absent-requires-clause-empty c = c.self.invariant.none_begun

pub close_absent-requires-clause-room : goal.close_absent-requires-clause-room
close_absent-requires-clause-room c = room_for_one c.self.inside.params c.self.inside.records (subst (λ (t : Transcript). length t.records < t.params.n) (sym c.self.view_is) c.requires.few) c.self.invariant

pub invariant_of-self : goal.invariant_of-self
invariant_of-self c =
    let few : length c.self.inside.records.closed < c.self.inside.params.n = subst (λ (t : Transcript). length t.records < t.params.n) (sym c.self.view_is) c.requires.few in
    subst (λ (k : Kept). IsUnderWay c.self.inside.params k) (sym c.close_absent.ensures) (under_way_absent c.self.inside.params c.self.inside.records few c.self.invariant)

pub push_present-requires-clause-few : goal.push_present-requires-clause-few
push_present-requires-clause-few c = c.requires.few

pub push_present-requires-clause-fits : goal.push_present-requires-clause-fits
push_present-requires-clause-fits c = rw c.in-Some.is at c.requires.fits

pub returns-in-None : goal.returns-in-None
returns-in-None c =
    with_record c.self.inside.params c.self.inside.records c.close_absent.new.self None c.args.self.now c.close_absent.ensures c.self.view_is
    ∙ ap (λ (o : Option (List ℕ)). record c.args.self.now { records = c.args.self.now.records ++ o ∷ [] }) (ap option_copied (sym c.in-None.is))

pub returns-in-Some : goal.returns-in-Some
returns-in-Some c =
    c.push_present.ensures ∙ ap (λ (o : Option (List ℕ)). record c.args.self.now { records = c.args.self.now.records ++ o ∷ [] }) (ap option_copied (sym c.in-Some.is))
