use Rattle.std.proofs.Common.{rules, ℕ, List}
use Rattle.std.specs.Borrow.{Bor}
use Rattle.std.proofs.lemmas.Result.{err_from_is_err_and}
use Rattle.port_trait.proofs.Cells.{touches_more}
use Rattle.list_tool.proofs.Putting.{put_none, text_cut, text_put}
use Rattle.list_tool.proofs.pending.Pending.put_all.Goals as goal

pub loop-text-init : goal.loop-text-init
loop-text-init g c = record { so_far = put_none c.args.self.now (g.P.Ports.world c.args.ports.now); others = search rules }

pub returns-in_err-put-clause-others : goal.returns-in_err-put-clause-others
returns-in_err-put-clause-others g c = touches_more _ _ _ _ c.loop-text.invariant.others c.put.ensures.others

pub returns-in_err-put-clause-puts : goal.returns-in_err-put-clause-puts
returns-in_err-put-clause-puts g c =
    let w = g.P.Ports.world c.args.ports.now in
    let v = g.P.Ports.world c.loop-text.ports in
    let u = g.P.Ports.world c.put.new.ports in
    let p = err_from_is_err_and c.from_residual.result c.from_residual.ensures.1 in
    rw p.1 (text_cut (λ (t : Bor (List ℕ)). t.now) c.args.texts.now c.loop-text.text-index _ c.args.self.now c.loop-text.self w v u
    c.loop-text-test.true c.loop-text.invariant.so_far c.in_err-put.ensures.puts)

pub loop-text-preserved : goal.loop-text-preserved
loop-text-preserved g c =
    let w = g.P.Ports.world c.args.ports.now in
    let v = g.P.Ports.world c.loop-text.ports in
    let u = g.P.Ports.world c.put.new.ports in
    record {
      so_far = text_put (λ (t : Bor (List ℕ)). t.now) c.args.texts.now c.loop-text.text-index _ c.args.self.now c.loop-text.self w v u
          c.loop-text-test.true c.loop-text.invariant.so_far c.put.new.self c.in_ok-put.ensures.puts;
      others = touches_more _ _ _ _ c.loop-text.invariant.others c.put.ensures.others;
    }
