use Rattle.std.proofs.Common.{length, map, arith, sym}
use Rattle.std.specs.Borrow.{Bor}
use Rattle.std.proofs.lemmas.Bool.{cond-true, le-leb}
use Rattle.std.proofs.lemmas.List.{length-map}
use Rattle.clap.specs.Words.{Text}
use Rattle.quantity_limits.specs.declared.TheConstants.{MOST_SERVERS}
use Rattle.pir_words.specs.FetchForm.{addresses_in}
use Rattle.pir_words.proofs.Chains.{given_on}
use Rattle.pir_words.proofs.fetch_words.addresses_at.Goals as goal

pub returns-in-Some-clause-value : goal.returns-in-Some-clause-value
unfolding addresses_in
returns-in-Some-clause-value c =
    let texts = c.in-Some.addresses.now in
    sym (given_on _ c.in-Some.ensures (cond-true _ _ _ (le-leb (length (map (λ (v : Bor Text). v.now) texts)) MOST_SERVERS (omega (arith, length-map texts (λ (v : Bor Text). v.now))))))
