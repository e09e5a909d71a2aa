use Rattle.std.proofs.Common.{◌^◌, sym, ap, subst, ◌∙◌, arith}
use Rattle.std.proofs.lemmas.Nat.{one_shl, pow_pos}
use Rattle.key_table.specs.Shapes.{BestOf}
use Rattle.key_table.specs.Width.{fullest}
use Rattle.key_table.proofs.Shaping.{best_first, best_kept, best_more, fault_makes_none, power_few}
use Rattle.key_table.proofs.entries.SortedEntries.better.Goals as goal

pub shape_with-requires-clause-some : goal.shape_with-requires-clause-some
shape_with-requires-clause-some c = omega (arith, one_shl c.args.power 32 (omega (arith, c.requires.power)), pow_pos c.args.power)

pub shape_with-requires-clause-few : goal.shape_with-requires-clause-few
shape_with-requires-clause-few c = omega (arith, one_shl c.args.power 32 (omega (arith, c.requires.power)), power_few c.args.power c.requires.power)

pub shape_with-requires-clause-fullest : goal.shape_with-requires-clause-fullest
shape_with-requires-clause-fullest c =
    c.requires.fullest ∙ ap (λ rows. fullest rows c.args.self.now.pairs) (sym (one_shl c.args.power 32 (omega (arith, c.requires.power))))

pub returns-in-Some : goal.returns-in-Some
returns-in-Some c = λ h.
    let n = c.args.power in
    let is = c.in-Ok.ensures.0 ∙ one_shl n 32 (omega (arith, c.requires.power)) in
    best_more c.args.self.now n c.in-Some.other c.in-Ok.shape c.lesser_of.result c.in-Ok.ensures.1 is
    (subst (BestOf c.args.self.now n) c.in-Some.is h) c.lesser_of.ensures

pub returns-in-None : goal.returns-in-None
returns-in-None c = λ h.
    let n = c.args.power in
    let is = c.in-Ok.ensures.0 ∙ one_shl n 32 (omega (arith, c.requires.power)) in
    best_first c.args.self.now n c.in-Ok.shape c.in-Ok.ensures.1 is (subst (BestOf c.args.self.now n) c.in-None.is h)

pub returns-in-Err : goal.returns-in-Err
returns-in-Err c = λ h.
    let n = c.args.power in
    let e = c.in-Err.ensures in
    let is = e.0 ∙ one_shl n 32 (omega (arith, c.requires.power)) in
    best_kept c.args.self.now n c.args.best (fault_makes_none c.args.self.now c.in-Err.field-0 (2 ^ n) is e.1) h
