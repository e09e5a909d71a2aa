use Rattle.std.proofs.Common.{◌≡◌, IfSome, subst}
use Rattle.list_catalog.specs.Facts.{Facts, IsCatalog}
use Rattle.list_catalog.specs.Serving.{CanServe}
use Rattle.list_catalog.proofs.write.document_of.Goals as goal
use Rattle.list_catalog.proofs.write.document_of.Goals.{in-Some+in_ok-document+in_ok-put, in_default}

pub returns-clause-rules : goal.returns-clause-rules
returns-clause-rules c =
    let can : IfSome c.catalog.inside.servers (λ s. CanServe s.addresses s.degree s.agree) =
    elim c.match-catalog.branch [
      | in-Some+in_ok-document+in_ok-put w ↦ rw w.in-Some.is w.in_ok-document.ensures.rules
      | in_default w ↦ rw w.in_default.is tt
    ] in
    subst IsCatalog c.catalog.view_is (record {
      sizes = c.catalog.invariant;
      tag = c.in_ok-put_digits.ensures.bytes;
      salt = c.in_ok-put_digits-2.ensures.bytes;
      sha256 = c.in_ok-put_digits-3.ensures.bytes;
      servers = can;
    })
