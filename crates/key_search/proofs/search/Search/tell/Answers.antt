use Rattle.std.proofs.Common.{◌≡◌, ◌<◌, length, Some, None, IfSome, ap, sym, subst, ◌∙◌, arith}
use Rattle.std.specs.Prelude.{option_copied}
use Rattle.key_search.specs.Standing.{Standing, standing_after, turns_of}
use Rattle.key_search.proofs.ByAnswers.{IsLookUp-more, IsNextTurn-from, WasTold-from}
use Rattle.key_search.proofs.search.Search.tell.Goals as goal

pub overflow_add-self : goal.overflow_add-self
overflow_add-self c =
    let early : c.self.inside.turn < turns_of c.self.inside.rows = subst (λ (s : Standing). s.turn < turns_of s.rows) (sym c.self.view_is) c.requires.turn in
    omega (arith, early)

pub invariant_of-self : goal.invariant_of-self
invariant_of-self c = c.self.invariant

pub invariant_of-self-in-None : goal.invariant_of-self-in-None
invariant_of-self-in-None c = c.self.invariant

pub compare-requires : goal.compare-requires
compare-requires c =
    subst (λ a. IfSome a (λ row. length row.now ≡ c.args.self.now.width)) c.in-Some.is c.requires.width
    ∙ sym (ap (λ (s : Standing). s.width) c.self.view_is)

-- the standing after a row, by what `compare` makes of it
pub returns-in-Some-clause-standing : goal.returns-in-Some-clause-standing
returns-in-Some-clause-standing c =
    c.compare.ensures ∙ ap (λ s. standing_after s (Some c.in-Some.row.now)) c.self.view_is
    ∙ ap (λ a. standing_after c.args.self.now (option_copied a)) (sym c.in-Some.is)

pub returns-in-Some-clause-turn : goal.returns-in-Some-clause-turn
returns-in-Some-clause-turn c = IsNextTurn-from c.args.self.now _ (option_copied c.args.answer) (returns-in-Some-clause-standing c)

pub returns-in-Some-clause-answers : goal.returns-in-Some-clause-answers
returns-in-Some-clause-answers c = λ answers h. WasTold-from c.args.self.now _ answers (option_copied c.args.answer) (returns-in-Some-clause-standing c) h

pub returns-in-Some-clause-row : goal.returns-in-Some-clause-row
returns-in-Some-clause-row c =
    λ rows answers h asked. IsLookUp-more rows c.args.self.now _ answers (option_copied c.args.answer) (returns-in-Some-clause-standing c) h asked

pub returns-in-None-clause-standing : goal.returns-in-None-clause-standing
returns-in-None-clause-standing c =
    ap (λ s. standing_after s None) c.self.view_is ∙ ap (λ a. standing_after c.args.self.now (option_copied a)) (sym c.in-None.is)

pub returns-in-None-clause-turn : goal.returns-in-None-clause-turn
returns-in-None-clause-turn c = IsNextTurn-from c.args.self.now _ (option_copied c.args.answer) (returns-in-None-clause-standing c)

pub returns-in-None-clause-answers : goal.returns-in-None-clause-answers
returns-in-None-clause-answers c = λ answers h. WasTold-from c.args.self.now _ answers (option_copied c.args.answer) (returns-in-None-clause-standing c) h

pub returns-in-None-clause-row : goal.returns-in-None-clause-row
returns-in-None-clause-row c =
    λ rows answers h asked. IsLookUp-more rows c.args.self.now _ answers (option_copied c.args.answer) (returns-in-None-clause-standing c) h asked
