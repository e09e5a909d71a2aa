use Rattle.std.proofs.Common.{◌∙◌, ◌*◌, ◌%◌, length, sym, ap}
use Rattle.block_matrix.specs.Database.{Database}
use Rattle.drawn_workload.specs.Servers.{Servers}
use Rattle.drawn_workload.specs.Workload.{honest_payload}
use Rattle.drawn_workload.proofs.StreamBytes.{length-stream_bytes}
use Rattle.drawn_workload.proofs.Workloads.{rows-database_of, width-database_of, product-honest}
use Rattle.drawn_workload.proofs.servers.Servers.answer_honestly.Goals as goal

pub query_into-requires-clause-coins : goal.query_into-requires-clause-coins
query_into-requires-clause-coins g c =
    ap length (c.deref.ensures.value ∙ c.self.invariant.1.coins_are) ∙ length-stream_bytes _ _ _ ∙ ap (λ d. c.self.inside.load.rows * d) (sym c.from-degree.ensures)

pub product_into-requires-clause-query : goal.product_into-requires-clause-query
product_into-requires-clause-query g c κs within =
    let w = c.self.inside.load in
    let rows = ap (λ (d : Database). length d.rows) c.self.invariant.1.database_is ∙ rows-database_of w c.self.invariant.0.0.numbers.shape.some_bytes in
    c.query_into.auto.out ∙ c.requires.query ∙ ap (λ (s : Servers). s.load.rows) (sym c.self.view_is) ∙ sym rows

pub product_into-requires-clause-scratch : goal.product_into-requires-clause-scratch
product_into-requires-clause-scratch g c κs within =
    let width = ap (λ (d : Database). d.width) c.self.invariant.1.database_is ∙ width-database_of c.self.inside.load in
    c.requires.scratch ∙ ap (λ (s : Servers). s.workers * s.load.width) (sym c.self.view_is) ∙ ap (λ d. c.self.inside.workers * d) (sym width)

pub product_into-requires-clause-room : goal.product_into-requires-clause-room
product_into-requires-clause-room g c κs within =
    let width = ap (λ (d : Database). d.width) c.self.invariant.1.database_is ∙ width-database_of c.self.inside.load in
    c.requires.room ∙ ap (λ (s : Servers). s.load.width) (sym c.self.view_is) ∙ sym width

pub returns : goal.returns
returns g c =
    let w = c.self.inside.load in
    product-honest w _ _ _ c.deref.result.now c.query_into.new.out _ _ _ c.args.index c.self.invariant.1 c.deref.ensures.value c.from-degree.ensures
    (ap (λ r. w.seed % r) c.from.ensures) c.query_into.ensures
    c.product_into.ensures
    ∙ ap (λ (s : Servers). honest_payload s.load c.args.index) c.self.view_is
