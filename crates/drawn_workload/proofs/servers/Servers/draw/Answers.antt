use Rattle.std.proofs.Common.{◌∙◌, ◌*◌, length, take, drop, refl, ap, arith}
use Rattle.block_matrix.specs.Database.{database}
use Rattle.drawn_workload.proofs.StreamBytes.{length-stream_bytes}
use Rattle.drawn_workload.proofs.Workloads.{parted}
use Rattle.drawn_workload.proofs.servers.Servers.draw.Goals as goal

pub split_off-requires : goal.split_off-requires
split_off-requires c =
    let size = ap length c.in_ok-database.ensures ∙ length-stream_bytes _ _ _ in
    let now = c.in_ok-database.database.ok.0 in
    omega (arith, size, now)

pub split_off-requires-2 : goal.split_off-requires-2
split_off-requires-2 c =
    let size = ap length c.in_ok-database.ensures ∙ length-stream_bytes _ _ _ in
    let now = c.in_ok-database.database.ok.0 in
    let rest = c.in_ok-coins.ensures.tail_len in
    omega (arith, size, now, rest)

pub invariant_of-result : goal.invariant_of-result
invariant_of-result c =
    let w = c.order.inside.load in
    let all = c.in_ok-database.database.items in
    let is_drawn = parted w _ _ _ all (w.rows * w.width) (w.rows * c.from.result) (c.from-2.result * w.width) _ refl (ap (λ n. w.rows * n) c.from.ensures) (ap (λ n. n * w.width) c.from-2.ensures) refl
    c.in_ok-database.ensures
    (c.in-Ok.ensures.is ∙ ap (database w.width) (c.truncate.ensures.items ∙ ap (take (w.rows * w.width)) c.in_ok-coins.ensures.items))
    (c.in_ok-lies.ensures.items ∙ ap (take (w.rows * c.from.result)) c.in_ok-coins.ensures.tail)
    (c.in_ok-lies.ensures.tail ∙ ap (drop (w.rows * c.from.result)) c.in_ok-coins.ensures.tail) in
    (c.order.invariant, is_drawn)
