use Rattle.std.proofs.Common.{true, false, ap, subst, refl}
use Rattle.std.specs.Prelude.{Ok, map}
use Rattle.std.proofs.lemmas.Result.{err_from_is_err_and}
use Rattle.port_trait.proofs.Cells.{touches_more}
use Rattle.list_keys.specs.Reading.{GivesNext}
use Rattle.list_keys.proofs.KeyLists.{keys_all, keys_failed, keys_fewer, keys_more, keys_none, keys_short}
use Rattle.list_keys.proofs.keys.Keys.read.Goals as goal

pub lines-init : goal.lines-init
lines-init g c =
    let w = g.P.Ports.world c.args.ports.now in
    record {
      so_far = keys_none c.args.form c.in_ok-reader.reader _ w (ap (map (λ key. key.items)) c.new-2.ensures.items) c.in_ok-reader.ensures.0 (c.in_ok-reader.ensures.1 w);
      others = record { others = λ q l ne. refl; crowd = refl; started = refl };
    }

pub returns-in_err-read_line-clause-reads : goal.returns-in_err-read_line-clause-reads
returns-in_err-read_line-clause-reads g c =
    keys_failed c.args.form c.lines.keys c.lines.reader c.read_line.new.self (g.P.Ports.world c.args.ports.now) (g.P.Ports.world c.lines.ports)
    (g.P.Ports.world c.read_line.new.ports) c.lines.invariant.so_far c.read_line.ensures.terms c.from_residual-in_err-read_line.result
    c.in_err-read_line.field-0.0 c.from_residual-in_err-read_line.ensures.1 c.in_err-read_line.ensures.gives

pub lines-smaller : goal.lines-smaller
lines-smaller g c =
    let w = g.P.Ports.world c.lines.ports in
    let v = g.P.Ports.world c.read_line.new.ports in
    let gives : GivesNext c.lines.reader (Ok true) c.read_line.new.self w v =
    subst (λ b. GivesNext c.lines.reader (Ok b) c.read_line.new.self w v) c.if-branch.true c.in_ok-read_line.ensures.gives in
    keys_fewer c.args.form c.lines.keys c.lines.reader c.read_line.new.self (g.P.Ports.world c.args.ports.now) w v
    c.lines.invariant.so_far c.read_line.ensures.terms gives

pub lines-preserved : goal.lines-preserved
lines-preserved g c =
    let w = g.P.Ports.world c.lines.ports in
    let v = g.P.Ports.world c.read_line.new.ports in
    let gives : GivesNext c.lines.reader (Ok true) c.read_line.new.self w v =
    subst (λ b. GivesNext c.lines.reader (Ok b) c.read_line.new.self w v) c.if-branch.true c.in_ok-read_line.ensures.gives in
    record {
      so_far = keys_more c.args.form c.lines.keys c.lines.reader c.read_line.new.self (g.P.Ports.world c.args.ports.now) w v
          c.lines.invariant.so_far c.read_line.ensures.terms c.push.new.self c.key.result.now gives c.in_ok-push.ensures c.key.ensures;
      others = touches_more _ _ _ _ c.lines.invariant.others c.read_line.ensures.others;
    }

pub returns-in_err-push-clause-reads : goal.returns-in_err-push-clause-reads
returns-in_err-push-clause-reads g c =
    let w = g.P.Ports.world c.lines.ports in
    let v = g.P.Ports.world c.read_line.new.ports in
    let gives : GivesNext c.lines.reader (Ok true) c.read_line.new.self w v =
    subst (λ b. GivesNext c.lines.reader (Ok b) c.read_line.new.self w v) c.if-branch.true c.in_ok-read_line.ensures.gives in
    let fault = err_from_is_err_and c.from_residual-in_err-push.result c.from_residual-in_err-push.ensures.1 in
    keys_short c.args.form c.lines.keys c.lines.reader c.read_line.new.self (g.P.Ports.world c.args.ports.now) w v
    c.lines.invariant.so_far c.read_line.ensures.terms c.from_residual-in_err-push.result fault.0 fault.1 fault.2 gives

pub returns-clause-reads : goal.returns-clause-reads
returns-clause-reads g c =
    let w = g.P.Ports.world c.lines.ports in
    let v = g.P.Ports.world c.read_line.new.ports in
    let gives : GivesNext c.lines.reader (Ok false) c.read_line.new.self w v =
    subst (λ b. GivesNext c.lines.reader (Ok b) c.read_line.new.self w v) c.if-branch.false c.in_ok-read_line.ensures.gives in
    keys_all c.args.form c.lines.keys c.lines.reader c.read_line.new.self (g.P.Ports.world c.args.ports.now) w v
    c.lines.invariant.so_far c.read_line.ensures.terms gives
