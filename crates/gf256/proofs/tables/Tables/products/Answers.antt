use Rattle.std.proofs.Common.{sym, ap, ◌∙◌, arith}
use Rattle.gf256.specs.Products.{low_of, high_of}
use Rattle.gf256.proofs.ProductTables.{low-table, high-table, factor_in}
use Rattle.gf256.proofs.tables.Tables.products.Goals as goal

pub of_lanes-requires : goal.of_lanes-requires
of_lanes-requires c =
    let table = c.args.self.now.bytes in
    let f = c.args.factor in
    let low = c.lanes_at.ensures ∙ low-table table f _ (omega arith) (omega arith) c.args.self.now.held in
    let high = c.lanes_at-2.ensures ∙ high-table table f _ (omega arith) (omega arith) c.args.self.now.held in
    let is = factor_in f _ (omega arith) low in
    record {
      low = low ∙ ap low_of is;
      high = high ∙ ap high_of is;
    }

pub returns : goal.returns
returns c =
    let low = c.lanes_at.ensures ∙ low-table c.args.self.now.bytes c.args.factor _ (omega arith) (omega arith) c.args.self.now.held in
    c.of_lanes.ensures ∙ sym (factor_in c.args.factor _ (omega arith) low)
