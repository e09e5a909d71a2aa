use Rattle.std.proofs.Common.{rules, ◌≡◌, ◌∙◌, ℕ, ◌<◌, List, [], ◌++◌, length, sym, ap, ap₂, subst, arith, get_or}
use Rattle.std.specs.Prelude.{flat_map}
use Rattle.std.specs.List.{range_with_len}
use Rattle.std.proofs.lemmas.List.{take_all}
use Rattle.std.proofs.lemmas.List.FromFn.{get_or-range_with_len, length-range_with_len}
use Rattle.std.proofs.lemmas.Result.{err_from_is_err_and}
use Rattle.port_trait.specs.Number.{OUTPUT}
use Rattle.port_trait.specs.Whole.{FailsWithin}
use Rattle.port_trait.proofs.Cells.{touches_more}
use Rattle.list_tool.specs.Pending.{HasPut}
use Rattle.list_tool.specs.Text.{line_at, line_of, text_of}
use Rattle.list_tool.proofs.Putting.{put_given, put_none, text_cut, text_put}
use Rattle.list_tool.proofs.text.write_answers.Goals as goal

-- the place at a place
place_at : (f : ℕ → List ℕ) (n place d : ℕ) → place < n → f (get_or (range_with_len 0 n) place d) ≡ f place
place_at f n place d lt = ap f (get_or-range_with_len 0 n place d lt ∙ omega arith)

pub places-init : goal.places-init
places-init g c =
    let w = g.P.Ports.world c.args.ports.now in
    record {
      so_far = subst (λ (pending : List ℕ). HasPut [] pending w w) (sym c.new-pending.ensures) (put_none [] w);
      others = search rules;
    }

pub returns-in_err-put_line-clause-written : goal.returns-in_err-put_line-clause-written
unfolding text_of
returns-in_err-put_line-clause-written g c =
    let w = g.P.Ports.world c.args.ports.now in
    let v = g.P.Ports.world c.places.ports in
    let u = g.P.Ports.world c.put_line.new.ports in
    let count = length c.args.finds.now.answers in
    let f = line_at c.args.values c.args.keys.now c.args.finds.now.answers in
    let place = c.places.place in
    let lt : place < count = omega (arith, c.places-test.true, c.len-place-end.ensures) in
    let is = ap₂ (line_of c.args.values) c.key.ensures c.answer.ensures ∙ sym (place_at f count place 0 lt) in
    let p = err_from_is_err_and c.from_residual.result c.from_residual.ensures.1 in
    rw p.1 (text_cut f (range_with_len 0 count) place 0 [] c.places.pending w v u (omega (arith, lt, length-range_with_len 0 count))
    c.places.invariant.so_far (subst (λ (l : List ℕ). FailsWithin OUTPUT (c.places.pending ++ l) v u) is c.in_err-put_line.ensures.puts))

pub places-preserved : goal.places-preserved
places-preserved g c =
    let w = g.P.Ports.world c.args.ports.now in
    let v = g.P.Ports.world c.places.ports in
    let u = g.P.Ports.world c.put_line.new.ports in
    let count = length c.args.finds.now.answers in
    let f = line_at c.args.values c.args.keys.now c.args.finds.now.answers in
    let place = c.places.place in
    let lt : place < count = omega (arith, c.places-test.true, c.len-place-end.ensures) in
    let is = ap₂ (line_of c.args.values) c.key.ensures c.answer.ensures ∙ sym (place_at f count place 0 lt) in
    record {
      so_far = text_put f (range_with_len 0 count) place 0 [] c.places.pending w v u (omega (arith, lt, length-range_with_len 0 count))
          c.places.invariant.so_far c.put_line.new.pending
          (subst (λ (l : List ℕ). HasPut (c.places.pending ++ l) c.put_line.new.pending v u) is c.in_ok-put_line.ensures.puts);
      others = touches_more _ _ _ _ c.places.invariant.others c.put_line.ensures.others;
    }

pub returns-in_err-put_line-clause-others : goal.returns-in_err-put_line-clause-others
returns-in_err-put_line-clause-others g c = touches_more _ _ _ _ c.places.invariant.others c.put_line.ensures.others

pub returns-clause-written : goal.returns-clause-written
unfolding text_of
returns-clause-written g c =
    let w = g.P.Ports.world c.args.ports.now in
    let v = g.P.Ports.world c.places.ports in
    let count = length c.args.finds.now.answers in
    let f = line_at c.args.values c.args.keys.now c.args.finds.now.answers in
    let all : count ≡ c.places.place = omega (arith, c.places-test.false, c.places.auto.place-end, c.len-place-end.ensures) in
    let put = subst (λ (places : List ℕ). HasPut (flat_map f places) c.places.pending w v)
    (take_all c.places.place (range_with_len 0 count) (omega (arith, all, length-range_with_len 0 count))) c.places.invariant.so_far in
    put_given (flat_map f (range_with_len 0 count)) c.places.pending c.flush.result w v (g.P.Ports.world c.flush.new.ports) put c.flush.ensures.written

pub returns-clause-others : goal.returns-clause-others
returns-clause-others g c = touches_more _ _ _ _ c.places.invariant.others c.flush.ensures.others
