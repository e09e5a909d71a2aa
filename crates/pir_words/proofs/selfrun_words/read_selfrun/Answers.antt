use Rattle.std.proofs.Common.{Some, ap, sym}
use Rattle.pir_words.specs.SelfrunForm.{selfrun_of}
use Rattle.pir_words.specs.declared.asked.Asked.TheVariants.{Selfrun}
use Rattle.pir_words.proofs.Chains.{given_on, not_given}
use Rattle.pir_words.proofs.selfrun_words.read_selfrun.Goals as goal

pub returns-in_default : goal.returns-in_default
unfolding selfrun_of
returns-in_default c = not_given _ c.in_default.ensures

pub returns-in_default-sizes_at : goal.returns-in_default-sizes_at
unfolding selfrun_of
returns-in_default-sizes_at c = given_on _ c.in-Some.ensures (not_given _ c.in_default-sizes_at.ensures)

pub returns-in_default-servers_at : goal.returns-in_default-servers_at
unfolding selfrun_of
returns-in_default-servers_at c = given_on _ c.in-Some.ensures (given_on _ c.in-Some-sizes_at.ensures (not_given _ c.in_default-servers_at.ensures))

pub returns-in_default-sharing_at : goal.returns-in_default-sharing_at
unfolding selfrun_of
returns-in_default-sharing_at c = given_on _ c.in-Some.ensures (given_on _ c.in-Some-sizes_at.ensures (given_on _ c.in-Some-servers_at.ensures (not_given _ c.in_default-sharing_at.ensures)))

pub returns-in_default-limited_at : goal.returns-in_default-limited_at
unfolding selfrun_of
returns-in_default-limited_at c = given_on _ c.in-Some.ensures (given_on _ c.in-Some-sizes_at.ensures (given_on _ c.in-Some-servers_at.ensures (given_on _ c.in-Some-sharing_at.ensures (not_given _ c.in_default-limited_at.ensures.value))))

pub returns-in_default-workers_at : goal.returns-in_default-workers_at
unfolding selfrun_of
returns-in_default-workers_at c = given_on _ c.in-Some.ensures (given_on _ c.in-Some-sizes_at.ensures (given_on _ c.in-Some-servers_at.ensures (given_on _ c.in-Some-sharing_at.ensures (given_on _ c.in-Some-limited_at.ensures.value (not_given _ c.in_default-workers_at.ensures)))))

pub returns : goal.returns
unfolding selfrun_of
returns c = given_on _ c.in-Some.ensures (given_on _ c.in-Some-sizes_at.ensures (given_on _ c.in-Some-servers_at.ensures (given_on _ c.in-Some-sharing_at.ensures (given_on _ c.in-Some-limited_at.ensures.value (given_on _ c.in-Some-workers_at.ensures (ap (λ slow. Some (Selfrun c.in-Some.seed c.in-Some-sizes_at.sizes.rows c.in-Some-sizes_at.sizes.width c.in-Some-servers_at.servers c.in-Some-sharing_at.sharing.degree c.in-Some-sharing_at.sharing.agree c.in-Some-limited_at.liars c.in-Some-workers_at.workers slow)) (sym c.flag_at.ensures)))))))
