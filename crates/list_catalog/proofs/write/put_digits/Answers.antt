use Rattle.std.proofs.lemmas.Result.{on_ok_weaker}
use Rattle.list_catalog.proofs.write.put_digits.Goals as goal

pub returns-clause-bytes : goal.returns-clause-bytes
returns-clause-bytes g c =
    on_ok_weaker c.put.result (λ _. (c.told-bytes, rw c.as_slice.ensures at c.in_ok-value.ensures.bytes)) c.put.ensures
