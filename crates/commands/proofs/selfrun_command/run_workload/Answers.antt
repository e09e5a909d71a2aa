use Rattle.std.proofs.Common.{◌≡◌, ◌∙◌, ◌++◌, ℕ, List, refl, sym, subst}
use Rattle.port_trait.specs.Number.{OUTPUT}
use Rattle.port_trait.specs.Moves.{gave}
use Rattle.port_trait.specs.Whole.{FailsWithin}
use Rattle.block_decoder.specs.Text.{text}
use Rattle.commands.specs.SelfrunOutcome.{SelfrunEnds}
use Rattle.commands.specs.declared.status.Status.{Status}
use Rattle.commands.proofs.SelfrunHeadline.{selfrun_as}
use Rattle.commands.proofs.selfrun_command.run_workload.Goals as goal

pub returns-in_default-clause-ends : goal.returns-in_default-clause-ends
returns-in_default-clause-ends g c = refl

pub returns-in_default-clause-others : goal.returns-in_default-clause-others
returns-in_default-clause-others g c = record { others = λ q l ne. refl; crowd = refl; started = refl }

pub returns-in_default-format_ending-clause-ends : goal.returns-in_default-format_ending-clause-ends
returns-in_default-format_ending-clause-ends g c = refl

pub returns-in_default-format_ending-clause-others : goal.returns-in_default-format_ending-clause-others
returns-in_default-format_ending-clause-others g c = record { others = λ q l ne. refl; crowd = refl; started = refl }

pub returns-in-Ok-write_report-clause-ends : goal.returns-in-Ok-write_report-clause-ends
returns-in-Ok-write_report-clause-ends g c =
    let load = c.args.order.now.load in
    let verdict = c.in-Ok.verdict in
    let old = g.P.Ports.world c.args.ports.now in
    let new = g.P.Ports.world c.write_report.new.ports in
    let end = c.deref.ensures ∙ c.in-Ok-format_ending.ensures in
    subst (λ (s : Status). SelfrunEnds load s old new) (sym c.status_by.ensures)
    (selfrun_as load verdict old new (record {
      verdict = verdict;
      judged = c.in-Ok.ensures;
      status_is = refl;
      written = subst (λ (b : List ℕ). new.at OUTPUT ≡ gave (text verdict ++ b) (old.at OUTPUT)) end c.in-Ok-write_report.ensures.written;
    }))

pub returns-in-Ok-write_report-clause-others : goal.returns-in-Ok-write_report-clause-others
returns-in-Ok-write_report-clause-others g c = c.write_report.ensures.others

pub returns-clause-ends : goal.returns-clause-ends
returns-clause-ends g c =
    let verdict = c.in-Ok.verdict in
    let old = g.P.Ports.world c.args.ports.now in
    let new = g.P.Ports.world c.write_report.new.ports in
    let end = c.deref.ensures ∙ c.in-Ok-format_ending.ensures in
    record {
      verdict = verdict;
      judged = c.in-Ok.ensures;
      written = subst (λ (b : List ℕ). FailsWithin OUTPUT (text verdict ++ b) old new) end c.in-Err.ensures.written;
    }

pub returns-clause-others : goal.returns-clause-others
returns-clause-others g c = c.write_report.ensures.others
