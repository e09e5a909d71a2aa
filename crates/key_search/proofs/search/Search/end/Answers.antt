use Rattle.std.proofs.Common.{rules}
use Rattle.key_search.specs.declared.search.Outcome.TheVariants.{Lost, Found, Absent}
use Rattle.key_search.specs.Answers.{EndsAs}
use Rattle.key_search.proofs.ByAnswers.{EndsBy-from}
use Rattle.key_search.proofs.LookUp.{Finds-from}
use Rattle.key_search.proofs.search.Search.end.Goals as goal

pub returns-then-self-clause-answers : goal.returns-then-self-clause-answers
returns-then-self-clause-answers c =
    let ends : EndsAs c.args.self.now Lost = search rules in
    λ answers h. EndsBy-from c.args.self.now answers Lost ends h

pub returns-then-self-clause-row : goal.returns-then-self-clause-row
returns-then-self-clause-row c =
    let ends : EndsAs c.args.self.now Lost = search rules in
    λ rows answers h. Finds-from c.args.self.now rows answers Lost (search rules) (search rules) c.requires ends h

pub returns-then-self-2-clause-answers : goal.returns-then-self-2-clause-answers
returns-then-self-2-clause-answers c =
    let ends : EndsAs c.args.self.now (Found c.as_slice.result) = search rules in
    λ answers h. EndsBy-from c.args.self.now answers (Found c.as_slice.result) ends h

pub returns-then-self-2-clause-row : goal.returns-then-self-2-clause-row
returns-then-self-2-clause-row c =
    let ends : EndsAs c.args.self.now (Found c.as_slice.result) = search rules in
    λ rows answers h. Finds-from c.args.self.now rows answers (Found c.as_slice.result) (search rules) (search rules) c.requires ends h

pub returns-else-self-2-clause-answers : goal.returns-else-self-2-clause-answers
returns-else-self-2-clause-answers c =
    let ends : EndsAs c.args.self.now Absent = search rules in
    λ answers h. EndsBy-from c.args.self.now answers Absent ends h

pub returns-else-self-2-clause-row : goal.returns-else-self-2-clause-row
returns-else-self-2-clause-row c =
    let ends : EndsAs c.args.self.now Absent = search rules in
    λ rows answers h. Finds-from c.args.self.now rows answers Absent (search rules) (search rules) c.requires ends h
