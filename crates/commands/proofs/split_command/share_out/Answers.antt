use Rattle.std.proofs.Common.{◌∙◌, ◌<◌, ℕ, List, Err, length, refl, sym, subst, arith}
use Rattle.share_files.specs.SplitPlan.{SplitPlan}
use Rattle.share_files.specs.Splits.{Splits, TouchesShares}
use Rattle.commands.specs.SplitSteps.{SharesOut, cells_of}
use Rattle.commands.specs.declared.status.Status.{Status}
use Rattle.commands.proofs.Splitting.{unshared}
use Rattle.commands.proofs.split_command.share_out.Goals as goal

pub returns-in_default-clause-shares : goal.returns-in_default-clause-shares
returns-in_default-clause-shares g c = refl

pub returns-in_default-clause-others : goal.returns-in_default-clause-others
returns-in_default-clause-others g c = record { others = λ q l to_tell to_toss to_share. refl; crowd = refl; started = refl }

pub returns-clause-shares : goal.returns-clause-shares
returns-clause-shares g c =
    let o = c.args.order.now in
    let m = c.args.matrix.now in
    let old = g.P.Ports.world c.args.ports.now in
    let new = g.P.Ports.world c.split.new.ports in
    let splits = subst (λ (p : SplitPlan). Splits p (cells_of m) (Err c.in-Err.fault) old new) c.plan.ensures c.in-Err.ensures.splits in
    let others = subst (λ (p : SplitPlan). TouchesShares p.servers old new) c.plan.ensures c.split.ensures.others in
    subst (λ (s : Status). SharesOut o m s old new) (sym c.into.ensures) (unshared o m c.in-Err.fault old new splits others)

pub returns-clause-others : goal.returns-clause-others
returns-clause-others g c =
    let old = g.P.Ports.world c.args.ports.now in
    let new = g.P.Ports.world c.split.new.ports in
    let shares = subst (λ (p : SplitPlan). TouchesShares p.servers old new) c.plan.ensures c.split.ensures.others in
    record { others = λ q l to_tell to_toss to_share. shares.others q l to_toss to_share; crowd = shares.crowd; started = shares.started }

pub returns-in-Ok-split-clause-others : goal.returns-in-Ok-split-clause-others
returns-in-Ok-split-clause-others g c =
    let shares = subst (λ (p : SplitPlan). TouchesShares p.servers (g.P.Ports.world c.args.ports.now) (g.P.Ports.world c.split.new.ports)) c.plan.ensures c.split.ensures.others in
    let told = c.say.ensures.others in
    record {
      others = λ q l to_tell to_toss to_share. told.others q l to_tell ∙ shares.others q l to_toss to_share;
      crowd = told.crowd ∙ shares.crowd;
      started = told.started ∙ shares.started;
    }

pub say-requires : goal.say-requires
say-requires g c = subst (λ (l : List ℕ). 0 < length l) (sym (c.deref.ensures ∙ c.in-Ok.ensures)) (omega arith)
