use Rattle.std.proofs.Common.{◌≡◌, ◌+◌, ◌-◌, ℕ, None, get_or, replicate, List, [], ◌∷◌, length, Vec, Global, sym, ap, subst, ◌∙◌, arith}
use Rattle.std.proofs.lemmas.List.{with_items_is}
use Rattle.gf256.specs.Field.{◌⊕◌}
use Rattle.wire_frames.specs.declared.session.SessionParams.{SessionParams}
use Rattle.wire_frames.specs.Answer.{asked, block_len}
use Rattle.wire_frames.specs.Limits.{IsInRange}
use Rattle.block_decoder.proofs.Collected.{size_if_some}
use Rattle.block_decoder.proofs.Combined.{HasCombined, combined_none, combined_absent, combined_present, combined_all}
use Rattle.std.proofs.lemmas.Result.{IfOk-from_err}
use Rattle.block_decoder.proofs.combining.combine_all.Goals as goal
use Rattle.block_decoder.proofs.combining.combine_all.Goals.{in-Some, in_default}

pub loop-place-init : goal.loop-place-init
loop-place-init c =
    let s = c.block_len.ensures.is ∙ ap block_len c.params-params.ensures.value in
    combined_none c.args.session.now c.in_ok-sum.sum.items (c.in_ok-sum.ensures.items_if_clones_equal (λ y e. e) ∙ ap (λ n. replicate n 0) s)

pub combine_into-requires : goal.combine_into-requires
combine_into-requires c =
    let session = c.args.session.now in
    let next : ℕ = c.loop-place.place + 1 in
    size_if_some (get_or session.records (next - 1) None) c.in-Some.payload.now (asked session.params next) (sym c.in-Some.ensures)
    ∙ sym c.loop-place.invariant.size ∙ sym (ap length c.deref_mut.ensures.value)

pub loop-place-preserved : goal.loop-place-preserved
loop-place-preserved c =
    let session = c.args.session.now in
    let next : ℕ = c.loop-place.place + 1 in
    let n = ap (λ (p : SessionParams). p.n) c.params-params.ensures.value in
    let before = c.loop-place.sum.items in
    let items = λ (v : Vec ℕ Global). v.items in
    elim c.match-usable_payload.branch [
      | in-Some w ↦
          let long : length w.combine_into.new.acc ≡ length before = w.combine_into.auto.acc ∙ ap length w.deref_mut.ensures.value in
          let after = ap items w.sum-is ∙ with_items_is c.loop-place.sum w.combine_into.new.acc (long ∙ sym c.loop-place.sum.ok.0) in
          let payload = w.in-Some.payload.now in
          subst (λ (k : ℕ). HasCombined session c.match-usable_payload.sum.items k (next + 1)) (sym w.k-is)
          (combined_present session before c.match-usable_payload.sum.items c.loop-place.k next payload (omega arith) (omega (arith, c.requires, n)) (sym w.in-Some.ensures)
          (ap length after ∙ long)
          (λ i. ap (λ (xs : List ℕ). get_or xs i 0) after ∙ w.combine_into.ensures i ∙ ap (λ (xs : List ℕ). get_or xs i 0 ⊕ get_or payload i 0) w.deref_mut.ensures.value)
          c.loop-place.invariant)
      | in_default w ↦
          subst (λ (k : ℕ). HasCombined session c.match-usable_payload.sum.items k (next + 1)) (sym w.k-is)
          (subst (λ (xs : List ℕ). HasCombined session xs c.loop-place.k (next + 1)) (sym (ap items w.sum-is))
          (combined_absent session before c.loop-place.k next (omega arith) (omega (arith, c.requires, n)) (sym w.in_default.ensures) c.loop-place.invariant))
    ]

pub returns-then-k-params : goal.returns-then-k-params
returns-then-k-params c =
    let n = ap (λ (p : SessionParams). p.n) c.params-params.ensures.value in
    let h = ap (λ (p : SessionParams). p.h) c.params-params.ensures.value in
    let end : c.loop-place.place + 1 ≡ c.args.session.now.params.n + 1 = omega (arith, n) in
    let done = combined_all c.args.session.now c.loop-place.sum.items c.loop-place.k c.requires
    (subst (HasCombined c.args.session.now c.loop-place.sum.items c.loop-place.k) end c.loop-place.invariant) in
    let k = done.0 in
    (c.from.ensures ∙ k, c.from-then-k-params.ensures ∙ h, omega (arith, n, k))

pub returns : goal.returns
returns c =
    let n = ap (λ (p : SessionParams). p.n) c.params-params.ensures.value in
    let end : c.loop-place.place + 1 ≡ c.args.session.now.params.n + 1 = omega (arith, n) in
    let done = combined_all c.args.session.now c.loop-place.sum.items c.loop-place.k c.requires
    (subst (HasCombined c.args.session.now c.loop-place.sum.items c.loop-place.k) end c.loop-place.invariant) in
    let k = done.0 in
    (omega (arith, n, k), c.in_ok-of_one.ensures ∙ ap (λ (block : List ℕ). block ∷ []) done.1)

pub returns-in_err-sum : goal.returns-in_err-sum
returns-in_err-sum c = IfOk-from_err c.from_residual.result _ c.from_residual.ensures.0

pub returns-in_err-of_one : goal.returns-in_err-of_one
returns-in_err-of_one c = IfOk-from_err c.from_residual-in_err-of_one.result _ c.from_residual-in_err-of_one.ensures.0

pub block_len-requires : goal.block_len-requires
block_len-requires c = subst IsInRange (sym c.params-params.ensures.value) c.params-params.ensures.range

pub overflow_cast-block_len : goal.overflow_cast-block_len
overflow_cast-block_len c = omega (arith, c.block_len.ensures.few)

pub overflow_add-index : goal.overflow_add-index
overflow_add-index c =
    let n = ap (λ (p : SessionParams). p.n) c.params-params.ensures.value in
    omega (arith, c.loop-place-test.true, n, c.params-params.ensures.range.few_servers)

pub usable_payload-requires-clause-first : goal.usable_payload-requires-clause-first
usable_payload-requires-clause-first c = omega arith

pub usable_payload-requires-clause-last : goal.usable_payload-requires-clause-last
usable_payload-requires-clause-last c =
    let n = ap (λ (p : SessionParams). p.n) c.params-params.ensures.value in
    omega (arith, c.loop-place-test.true, n, c.requires)

pub overflow_add-k : goal.overflow_add-k
overflow_add-k c =
    let n = ap (λ (p : SessionParams). p.n) c.params-params.ensures.value in
    omega (arith, c.loop-place-test.true, c.loop-place.invariant.few, n, c.params-params.ensures.range.few_servers)
