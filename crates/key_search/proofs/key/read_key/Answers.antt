use Rattle.std.proofs.Common.{arith, rules}
use Rattle.hex.proofs.HexLemmas.{decode_of-ok}
use Rattle.key_search.proofs.key.read_key.Goals as goal

pub returns-in-Ok : goal.returns-in-Ok
returns-in-Ok c =
    let decoded = c.in-Ok.ensures.ok in
    let half = (decode_of-ok c.args.text.now _ decoded).2 in
    (search rules, omega (arith, half), decoded)
