-- What a run says of a workload.
use Rattle.std.proofs.Common.{◌≡◌, ◌⊎◌, inl, inr, [], ◌∷◌, refl}
use Rattle.port_trait.specs.World.{World}
use Rattle.port_trait.specs.Number.{OUTPUT}
use Rattle.port_trait.proofs.Rises.{once_rose}
use Rattle.drawn_workload.specs.declared.order.Workload.{Workload}
use Rattle.commands.specs.Told.{NoneRose}
use Rattle.block_decoder.specs.declared.verdict.Verdict.{Verdict}
use Rattle.block_decoder.specs.declared.verdict.Verdict.TheVariants.{Listed as IsListed, TooFew as IsTooFew, TooWeak as IsTooWeak, TooCostly as IsTooCostly}
use Rattle.commands.specs.Table.{status_of}
use Rattle.commands.specs.SelfrunOutcome.{SelfrunEnds, SelfrunPromise, SelfrunReported}
use Rattle.commands.specs.declared.status.Status.{Status}
use Rattle.commands.specs.declared.status.Status.TheVariants.{One, NoBlock, Several, TooFew, TooWeak, TooCostly, WriteFault, Memory}

-- where no call on Output failed, the verdict is reported
selfrun_reported : (w : Workload) (status : Status) (old new : World) → NoneRose (OUTPUT ∷ []) old new → SelfrunEnds w status old new → SelfrunReported w status old new ⊎ (status ≡ Memory)
selfrun_reported w One old new none said = inl said
selfrun_reported w NoBlock old new none said = inl said
selfrun_reported w Several old new none said = inl said
selfrun_reported w (TooFew k h) old new none said = inl said
selfrun_reported w (TooWeak k t h) old new none said = inl said
selfrun_reported w (TooCostly equations) old new none said = inl said
selfrun_reported w WriteFault old new none said = absurd (none.0 (once_rose _ _ said.written.rose))
selfrun_reported w Memory old new none said = inr refl
selfrun_reported w status old new none said = absurd said

-- what is promised of `selfrun`
pub selfrun_promised : (w : Workload) (status : Status) (old new : World) → SelfrunEnds w status old new → SelfrunPromise w status old new
selfrun_promised w status old new said = record { reported = λ none. selfrun_reported w status old new none said }

-- a run that reports a verdict ends with its status
pub selfrun_as : (w : Workload) (verdict : Verdict) (old new : World) → SelfrunReported w (status_of verdict) old new → SelfrunEnds w (status_of verdict) old new
selfrun_as w (IsListed []) old new said = said
selfrun_as w (IsListed (b ∷ [])) old new said = said
selfrun_as w (IsListed (b ∷ (c ∷ bs))) old new said = said
selfrun_as w (IsTooFew k h) old new said = said
selfrun_as w (IsTooWeak k t h) old new said = said
selfrun_as w (IsTooCostly equations) old new said = said
