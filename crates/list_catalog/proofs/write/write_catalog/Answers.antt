use Rattle.std.proofs.Common.{◌≡◌, ◌≤◌, arith, ap, length, string_bytes, subst, sym, ◌∙◌}
use Rattle.std.proofs.lemmas.Str.{IsUtf8-string_bytes}
use Rattle.toml.specs.Data.{members_depth}
use Rattle.toml.specs.Text.{IsDocumentText}
use Rattle.toml.specs.View.{table_view}
use Rattle.list_catalog.specs.Facts.{Facts}
use Rattle.list_catalog.specs.Writing.{catalog_text, document_of}
use Rattle.list_catalog.proofs.Lines.{catalog_text-document_of, depth-document_of}
use Rattle.list_catalog.proofs.ReadBack.{ReadsBack-document_of}
use Rattle.list_catalog.proofs.Sizes.{short_catalog}
use Rattle.list_catalog.proofs.write.write_catalog.Goals as goal

pub returns-then-len-gt-MOST_CATALOG-clause-text : goal.returns-then-len-gt-MOST_CATALOG-clause-text
returns-then-len-gt-MOST_CATALOG-clause-text c =
    let f : Facts = c.args.catalog.now in
    let is : string_bytes c.in-Ok.text ≡ catalog_text f =
    catalog_text-document_of f (string_bytes c.in-Ok.text) (rw c.in_ok-document.ensures.table at c.in-Ok.ensures.text) in
    omega (arith, ap length is, c.if-len-gt-MOST_CATALOG.true, c.len.ensures)

pub returns-then-len-gt-MOST_CATALOG-clause-short : goal.returns-then-len-gt-MOST_CATALOG-clause-short
returns-then-len-gt-MOST_CATALOG-clause-short c = λ none.
    let f : Facts = c.args.catalog.now in
    let is : string_bytes c.in-Ok.text ≡ catalog_text f =
    catalog_text-document_of f (string_bytes c.in-Ok.text) (rw c.in_ok-document.ensures.table at c.in-Ok.ensures.text) in
    absurd (omega (arith, ap length is, c.if-len-gt-MOST_CATALOG.true, c.len.ensures, short_catalog f c.in_ok-document.ensures.rules none))

pub returns-clause-text : goal.returns-clause-text
returns-clause-text c =
    let f : Facts = c.args.catalog.now in
    let is : string_bytes c.in-Ok.text ≡ catalog_text f =
    catalog_text-document_of f (string_bytes c.in-Ok.text) (rw c.in_ok-document.ensures.table at c.in-Ok.ensures.text) in
    (is, omega (arith, ap length is, c.if-len-gt-MOST_CATALOG.false, c.len.ensures))

pub returns-clause-read_back : goal.returns-clause-read_back
returns-clause-read_back c =
    let f : Facts = c.args.catalog.now in
    let deep : members_depth (table_view c.in_ok-document.document) ≤ 80 = rw c.in_ok-document.ensures.table (depth-document_of f f.servers) in
    let parsed = rw c.in_ok-document.ensures.table at (c.in-Ok.ensures.reads_back deep) in
    ReadsBack-document_of (string_bytes c.in-Ok.text) f c.in_ok-document.ensures.rules (omega (arith, c.if-len-gt-MOST_CATALOG.false, c.len.ensures))
    (IsUtf8-string_bytes c.in-Ok.text) parsed
