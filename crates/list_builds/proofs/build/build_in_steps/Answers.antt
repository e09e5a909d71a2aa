use Rattle.std.proofs.Common.{◌∙◌, length, ap, subst}
use Rattle.std.specs.Option.{option_map}
use Rattle.port_trait.specs.Number.{COINS, INPUT}
use Rattle.list_keys.specs.declared.form.Terms.{Terms}
use Rattle.list_builds.specs.Builds.{Builds, BuildsAll}
use Rattle.list_builds.specs.Gathering.{Gathered}
use Rattle.list_builds.specs.Laid.{Laid}
use Rattle.list_builds.specs.Listed.{IsListed}
use Rattle.list_builds.specs.Order.{Order}
use Rattle.list_builds.specs.declared.fault.Built.{Built}
use Rattle.list_builds.proofs.Building.{built_all, built_part, can_lay_out, has_list}
use Rattle.list_builds.proofs.Touching.{both_touched}
use Rattle.list_builds.proofs.build.build_in_steps.Goals as goal

pub lay_out-requires : goal.lay_out-requires
lay_out-requires g c =
    let order = c.order.inside in
    let old = (g.P.Ports.world c.take_salt.new.ports).at INPUT in
    let new = (g.P.Ports.world c.read_list.new.ports).at INPUT in
    can_lay_out order.keys.now c.in_ok-salt.salt order.digest order.values order.rows c.in_ok-list.list old new c.order.invariant
    (subst (λ (t : Terms). IsListed order.keys.now c.in_ok-salt.salt order.digest t c.in_ok-list.list old new) c.terms.ensures c.in_ok-list.ensures.reads)

pub returns-in_err-write_list-clause-builds : goal.returns-in_err-write_list-clause-builds
returns-in_err-write_list-clause-builds g c =
    let inside = c.order.inside in
    let o : Order = record {
      digest = inside.digest;
      values = inside.values;
      rows = inside.rows;
      keys = inside.keys.now;
      coins = inside.coins.now;
      database = inside.database.now;
      catalog = option_map (λ name. name.now) inside.catalog;
    } in
    let salt = c.in_ok-salt.salt in
    let list = c.in_ok-list.list in
    let start = g.P.Ports.world c.args.ports.now in
    let salted = g.P.Ports.world c.take_salt.new.ports in
    let read = g.P.Ports.world c.read_list.new.ports in
    let end = g.P.Ports.world c.write_list.new.ports in
    let listed = subst (λ (t : Terms). IsListed o.keys salt o.digest t list (salted.at INPUT) (read.at INPUT)) c.terms.ensures c.in_ok-list.ensures.reads in
    subst (λ (order : Order). Builds order c.from_residual-in_err-write_list.result start end) c.order.view_is
    (built_part o salt list c.in_ok-laid.laid start read end c.order.invariant
    (has_list o salt start salted read c.in_ok-salt.ensures.takes c.take_salt.ensures.others c.read_list.ensures.others list listed)
    (both_touched COINS INPUT start salted read c.take_salt.ensures.others c.read_list.ensures.others)
    c.in_ok-laid.ensures c.write_list.ensures.others c.in_err-write_list.field-0.0 c.from_residual-in_err-write_list.result
    c.from_residual-in_err-write_list.ensures.1 c.in_err-write_list.ensures.writes)

pub returns-clause-builds : goal.returns-clause-builds
returns-clause-builds g c =
    let inside = c.order.inside in
    let o : Order = record {
      digest = inside.digest;
      values = inside.values;
      rows = inside.rows;
      keys = inside.keys.now;
      coins = inside.coins.now;
      database = inside.database.now;
      catalog = option_map (λ name. name.now) inside.catalog;
    } in
    let salt = c.in_ok-salt.salt in
    let list = c.in_ok-list.list in
    let start = g.P.Ports.world c.args.ports.now in
    let salted = g.P.Ports.world c.take_salt.new.ports in
    let read = g.P.Ports.world c.read_list.new.ports in
    let end = g.P.Ports.world c.write_list.new.ports in
    let listed = subst (λ (t : Terms). IsListed o.keys salt o.digest t list (salted.at INPUT) (read.at INPUT)) c.terms.ensures c.in_ok-list.ensures.reads in
    let built : Built = record {
      entries = c.count.result;
      rows = c.laid.inside.shape.rows;
      width = c.laid.inside.shape.width;
      all_end_with_return = c.list.inside.all_end_with_return;
    } in
    subst (λ (order : Order). BuildsAll order built start end) c.order.view_is
    (built_all o salt list c.in_ok-laid.laid start read end c.order.invariant
    (has_list o salt start salted read c.in_ok-salt.ensures.takes c.take_salt.ensures.others c.read_list.ensures.others list listed)
    (both_touched COINS INPUT start salted read c.take_salt.ensures.others c.read_list.ensures.others)
    c.in_ok-laid.ensures c.write_list.ensures.others built c.in_ok-write_list.field-0 c.in_ok-write_list.ensures.writes
    (c.count.ensures.count ∙ ap (λ (l : Laid). length l.sorted.pairs) c.laid.view_is)
    (ap (λ (l : Laid). l.shape.rows) c.laid.view_is) (ap (λ (l : Laid). l.shape.width) c.laid.view_is)
    (ap (λ (l : Gathered). l.returns) c.list.view_is))
