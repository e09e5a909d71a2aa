use Rattle.std.proofs.Common.{refl, sym, arith}
use Rattle.std.proofs.lemmas.List.{append-nil}
use Rattle.list_finds.proofs.ToldKeys.{none_more}
use Rattle.list_finds.proofs.telling.tell_none.Goals as goal

pub loop-key-init : goal.loop-key-init
loop-key-init c = record { answers = sym (append-nil c.args.answers.now.answers); room = omega arith; most = refl }

pub loop-key-preserved : goal.loop-key-preserved
loop-key-preserved c =
    let tells = c.loop-key.invariant in
    none_more _ _ _ _ tells (let r = tells.room in omega (arith, r)) c.push.ensures
