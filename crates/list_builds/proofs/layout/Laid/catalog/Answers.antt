use Rattle.std.proofs.Common.{ℕ, length, sym, subst}
use Rattle.list_catalog.specs.Facts.{AreSizes}
use Rattle.list_builds.proofs.CatalogSizes.{sizes_of_catalog}
use Rattle.list_builds.proofs.layout.Laid.catalog.Goals as goal

pub invariant_of-result : goal.invariant_of-result
invariant_of-result c =
    let sorted = c.self.inside.sorted in
    let shape = c.self.inside.shape in
    let all = sizes_of_catalog sorted shape c.count.ensures.ascend c.self.invariant.1 c.self.invariant.2 in
    subst (λ (n : ℕ). AreSizes n c.count.result shape.rows c.most.result shape.width) (sym c.size.ensures)
    (subst (λ (n : ℕ). AreSizes sorted.size n shape.rows c.most.result shape.width) (sym c.count.ensures.count)
    (subst (λ (n : ℕ). AreSizes sorted.size (length sorted.pairs) shape.rows n shape.width) (sym c.most.ensures.most) all))
