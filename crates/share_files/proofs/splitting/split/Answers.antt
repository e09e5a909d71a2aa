use Rattle.std.proofs.Common.{◌≡◌, ◌∙◌, ℕ, ◌*◌, List, Result, Err, length, map, string_bytes, refl, sym, ap, subst, arith}
use Rattle.std.proofs.lemmas.Result.{err_from_is_err_and}
use Rattle.port_trait.specs.World.{World}
use Rattle.share_files.specs.SplitPlan.{SplitPlan, share_names}
use Rattle.share_files.specs.Splits.{Splits, TouchesShares}
use Rattle.share_files.specs.declared.fault.SplitFault.{SplitFault}
use Rattle.share_files.specs.declared.fault.SplitFault.TheVariants.{Memory}
use Rattle.share_files.proofs.splitting.split.Goals as goal

-- for want of memory nothing is touched
none_touched : (n : ℕ) (w : World) → TouchesShares n w w
none_touched n w = record { others = λ q l off out. refl; crowd = refl; started = refl }

none_split : (plan : SplitPlan) (bytes : List ℕ) (result : Result (Unit {0}) SplitFault) (fault : SplitFault) (w : World)
    → result ≡ Err fault → fault ≡ Memory → Splits plan bytes result w w
none_split plan bytes result fault w is out = subst (λ (r : Result (Unit {0}) SplitFault). Splits plan bytes r w w) (sym (is ∙ ap Err out)) refl

pub returns-clause-splits : goal.returns-clause-splits
returns-clause-splits g c =
    let old = g.P.Ports.world c.args.ports.now in
    let new = g.P.Ports.world c.split_bytes-split.new.ports in
    subst (λ (bytes : List ℕ). Splits c.args.plan.now bytes c.split_bytes-split.result old new) c.bytes-bytes.ensures.is
    c.split_bytes-split.ensures.splits

pub returns-clause-others : goal.returns-clause-others
returns-clause-others g c = c.split_bytes-split.ensures.others

pub returns-in_err-names-clause-others : goal.returns-in_err-names-clause-others
returns-in_err-names-clause-others g c = none_touched c.args.plan.now.servers (g.P.Ports.world c.args.ports.now)

pub returns-in_err-names-clause-splits : goal.returns-in_err-names-clause-splits
returns-in_err-names-clause-splits g c =
    let p = err_from_is_err_and c.from_residual.result c.from_residual.ensures.1 in
    none_split c.args.plan.now _ c.from_residual.result p.0 (g.P.Ports.world c.args.ports.now) p.1 p.2

pub returns-in_err-coins-clause-others : goal.returns-in_err-coins-clause-others
returns-in_err-coins-clause-others g c = none_touched c.args.plan.now.servers (g.P.Ports.world c.args.ports.now)

pub returns-in_err-coins-clause-splits : goal.returns-in_err-coins-clause-splits
returns-in_err-coins-clause-splits g c =
    let p = err_from_is_err_and c.from_residual-in_err-coins.result c.from_residual-in_err-coins.ensures.1 in
    none_split c.args.plan.now _ c.from_residual-in_err-coins.result p.0 (g.P.Ports.world c.args.ports.now) p.1 p.2

pub returns-in_err-room-clause-others : goal.returns-in_err-room-clause-others
returns-in_err-room-clause-others g c = none_touched c.args.plan.now.servers (g.P.Ports.world c.args.ports.now)

pub returns-in_err-room-clause-splits : goal.returns-in_err-room-clause-splits
returns-in_err-room-clause-splits g c =
    let p = err_from_is_err_and c.from_residual-in_err-room.result c.from_residual-in_err-room.ensures.1 in
    none_split c.args.plan.now _ c.from_residual-in_err-room.result p.0 (g.P.Ports.world c.args.ports.now) p.1 p.2

pub split_bytes-split-requires-clause-names : goal.split_bytes-split-requires-clause-names
split_bytes-split-requires-clause-names g c =
    ap (map string_bytes) c.deref.ensures.value ∙ c.in_ok-names.ensures.names
    ∙ ap (λ (p : SplitPlan). share_names p.into p.servers) c.plan.view_is

pub split_bytes-split-requires-clause-count : goal.split_bytes-split-requires-clause-count
split_bytes-split-requires-clause-count g c =
    c.deref.ensures.len ∙ c.in_ok-names.ensures.count ∙ ap (λ (p : SplitPlan). p.servers) c.plan.view_is

pub split_bytes-split-requires-clause-some : goal.split_bytes-split-requires-clause-some
split_bytes-split-requires-clause-some g c = c.bytes-bytes.ensures.some

pub split_bytes-split-requires-clause-coins : goal.split_bytes-split-requires-clause-coins
split_bytes-split-requires-clause-coins g c =
    c.deref_mut.ensures.len ∙ c.in_ok-coins.ensures.len
    ∙ ap (λ n. length c.bytes-bytes.result.now * n) (c.from.ensures ∙ ap (λ (p : SplitPlan). p.tau) c.plan.view_is)

pub split_bytes-split-requires-clause-room : goal.split_bytes-split-requires-clause-room
split_bytes-split-requires-clause-room g c =
    omega (arith, c.deref_mut-2.ensures.len, c.in_ok-room.ensures.len, c.min.ensures, c.bytes-bytes.ensures.some)
