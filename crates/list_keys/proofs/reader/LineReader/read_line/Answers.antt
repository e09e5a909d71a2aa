use Rattle.std.proofs.Common.{◌≡◌, ◌<◌, ◌∙◌, not, [], length, sym, ap, subst, arith}
use Rattle.std.proofs.lemmas.Bool.{eqb-false, eqb-true}
use Rattle.std.proofs.lemmas.List.{nil_from_length}
use Rattle.std.proofs.lemmas.List.Sums.{prefix_len-le-length}
use Rattle.list_keys.specs.Lines.{is_newline}
use Rattle.list_keys.specs.Reading.{Reading}
use Rattle.list_keys.specs.Window.{HasGiven, Window}
use Rattle.list_keys.proofs.Wholes.{line_whole}
use Rattle.list_keys.proofs.Readers.{read_all, read_line_more, read_no_line, read_on}
use Rattle.list_keys.proofs.reader.LineReader.read_line.Goals as goal

pub returns-in_default-clause-gives : goal.returns-in_default-clause-gives
returns-in_default-clause-gives g c = λ given start h.
    c.in_default.ensures.takes given start
    (subst (λ (w : Window). HasGiven w given start (g.P.Ports.world c.args.ports.now)) (sym (ap (λ (r : Reading). r.window) c.self.view_is)) h.window)

pub returns-then-self-eq0-clause-gives : goal.returns-then-self-eq0-clause-gives
returns-then-self-eq0-clause-gives g c = λ given start h.
    let i = c.self.inside in
    let mid : Reading = record { terms = i.terms; number = i.number; returns = i.returns; window = c.find_end.new.self } in
    let w = g.P.Ports.world c.args.ports.now in
    let v = g.P.Ports.world c.find_end.new.ports in
    let read = read_on c.args.self.now mid i.unread given start w v c.self.view_is (c.in-Ok.ensures.takes given start) h in
    let empty : mid.window.rest ≡ [] = nil_from_length _ (ap length (sym c.rest.ensures) ∙ eqb-true _ 0 (sym c.is_empty.ensures ∙ c.if-is_empty.true)) in
    read_no_line mid c.in-Ok.at given start v c.in-Ok.ensures.ends empty c.if-self-eq0.true read

pub returns-then-is_empty-clause-gives : goal.returns-then-is_empty-clause-gives
returns-then-is_empty-clause-gives g c = λ given start h.
    let i = c.self.inside in
    let mid : Reading = record { terms = i.terms; number = i.number; returns = i.returns; window = c.find_end.new.self } in
    let w = g.P.Ports.world c.args.ports.now in
    let v = g.P.Ports.world c.find_end.new.ports in
    let read = read_on c.args.self.now mid i.unread given start w v c.self.view_is (c.in-Ok.ensures.takes given start) h in
    let empty : mid.window.rest ≡ [] = nil_from_length _ (ap length (sym c.rest.ensures) ∙ eqb-true _ 0 (sym c.is_empty.ensures ∙ c.if-is_empty.true)) in
    (omega (arith, c.if-self-eq0.false, read.number), read, read_all mid c.in-Ok.at given start v c.in-Ok.ensures.ends empty read)

pub give-requires : goal.give-requires
give-requires g c =
    omega (arith, c.in-Ok.ensures.ends.is, prefix_len-le-length (λ b. not (is_newline b)) c.find_end.new.self.rest)

pub returns-clause-gives : goal.returns-clause-gives
returns-clause-gives g c = λ given start h.
    let i = c.self.inside in
    let mid : Reading = record { terms = i.terms; number = i.number; returns = i.returns; window = c.find_end.new.self } in
    let w = g.P.Ports.world c.args.ports.now in
    let v = g.P.Ports.world c.find_end.new.ports in
    let read = read_on c.args.self.now mid i.unread given start w v c.self.view_is (c.in-Ok.ensures.takes given start) h in
    let count = length c.find_end.new.self.rest in
    let none : count ≡ 0 → ⊥ = λ e. eqb-false (length c.rest.result.now) 0 (sym c.is_empty.ensures ∙ c.if-is_empty.false) (ap length c.rest.ensures ∙ e) in
    let some : 0 < count = omega (arith, none) in
    read_line_more c.in-Ok.at mid c.give.new.self c.give.result given start v some c.in-Ok.ensures.ends read c.give.ensures

pub returns-clause-whole : goal.returns-clause-whole
returns-clause-whole g c =
    let i = c.self.inside in
    let mid : Reading = record { terms = i.terms; number = i.number; returns = i.returns; window = c.find_end.new.self } in
    line_whole c.in-Ok.at mid c.give.new.self c.give.result c.in-Ok.ensures.ends c.give.ensures
