use Rattle.std.proofs.Common.{sym}
use Rattle.list_catalog.proofs.Saying.{fitting-read}
use Rattle.list_catalog.proofs.read.catalog_in.Goals as goal

pub invariant_of-result : goal.invariant_of-result
invariant_of-result c =
    let fits = fitting-read c.in_ok-digest.field-0 c.in_ok-entries.entries c.in_ok-rows.rows c.in_ok-value.field-0
    c.in_ok-width.width _ (sym c.in_ok-fitting.ensures) in
    record {
      long_digest = c.in_ok-digest.ensures.range.0;
      short_digest = c.in_ok-digest.ensures.range.1;
      some_entries = c.in_ok-entries.ensures.range.0;
      few_entries = c.in_ok-entries.ensures.range.1;
      shape = record {
        some_rows = c.in_ok-rows.ensures.range.0;
        few_rows = c.in_ok-rows.ensures.range.1;
        some_bytes = c.in_ok-width.ensures.range.0;
        few_bytes = c.in_ok-width.ensures.range.1;
        few_cells = fits.1;
      };
      short_value = c.in_ok-value.ensures.range.1;
      wide = fits.0;
      roomy = fits.2;
    }
