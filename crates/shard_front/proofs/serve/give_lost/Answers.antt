use Rattle.std.proofs.Common.{◌∙◌, ℕ, List, [], ◌∷◌, ◌++◌, subst}
use Rattle.shard_front.specs.declared.relayed.Relayed.TheVariants.{ShardLost}
use Rattle.shard_front.specs.Stages.{Gives}
use Rattle.shard_front.proofs.serve.give_lost.Goals as goal

pub returns-clause-gives : goal.returns-clause-gives
returns-clause-gives g c =
    subst (λ (h : List ℕ). Gives (ShardLost c.args.number) (h ++ c.args.number ∷ []) c.give.result (g.P.Ports.world c.args.ports.now) (g.P.Ports.world c.give.new.ports))
    (c.copy_from_slice.ensures.after ∙ c.write_header.ensures) c.give.ensures.gives
