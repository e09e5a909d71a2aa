use Rattle.server_product.proofs.six_rows.products_of.Goals as goal

pub returns : goal.returns
returns c = record {
  a = c.products_with.ensures;
  b = c.products_with-2.ensures;
  c = c.products_with-3.ensures;
  d = c.products_with-4.ensures;
  e = c.products_with-5.ensures;
  f = c.products_with-6.ensures;
}
