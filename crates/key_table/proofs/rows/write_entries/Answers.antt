use Rattle.std.proofs.Common.{◌≡◌, ◌-◌, ◌*◌, ◌<◌, ◌≤◌, length, take, drop, sym, ap, ap₂, subst, ◌∙◌, arith}
use Rattle.std.specs.List.{flat_map}
use Rattle.std.proofs.lemmas.List.{take_all}
use Rattle.std.proofs.lemmas.Nat.{row_fits}
use Rattle.key_table.specs.Entry.{entry}
use Rattle.key_table.specs.Looked.{pair}
use Rattle.key_table.specs.Places.{pair_at}
use Rattle.key_table.proofs.EntryBytes.{length-entry}
use Rattle.key_table.proofs.RowParts.{written_more}
use Rattle.key_table.proofs.rows.write_entries.Goals as goal

pub loop-i-preserved : goal.loop-i-preserved
loop-i-preserved c =
    let list = c.args.entries.now in
    let start = c.args.start in
    let i = c.loop-i.i in
    let step = c.entry_size-step.result in
    let x = pair c.digest.result.now c.value.result.now in
    let new = c.write_entry.new.out in
    let begun : start ≤ i = omega arith in
    let there : i < length list.pairs = omega (arith, c.loop-i-test.true, c.requires.within) in
    let own : new ≡ entry list.most x = c.write_entry.ensures ∙ ap (λ most. entry most x) c.most.ensures.most in
    let long : length new ≡ step =
    ap length own ∙ length-entry list.size list.most x (record { digest_size = c.digest.ensures.size; few = c.value.ensures.few }) ∙ sym c.entry_size-step.ensures.size in
    let whole : length c.loop-i.out ≡ (c.args.end - start) * step =
    c.loop-i.auto.out ∙ c.requires.room ∙ ap (λ n. (c.args.end - start) * n) (sym c.entry_size-step.ensures.size) in
    let fits = row_fits (i - start) step (c.args.end - start) step (omega (arith, c.loop-i-test.true, begun)) (omega arith) in
    let is : x ≡ pair_at list.pairs i = ap₂ pair c.digest.ensures.digest c.value.ensures.value in
    written_more (entry list.most) list.pairs start i step _ c.loop-i.out new x begun there is own long (omega (arith, whole, fits)) c.loop-i.invariant

pub returns : goal.returns
returns c =
    let list = c.args.entries.now in
    let start = c.args.start in
    let step = c.entry_size-step.result in
    let all : c.loop-i.i ≡ c.args.end = omega (arith, c.loop-i-test.false, c.requires.order) in
    let whole : length c.loop-i.out ≡ (c.args.end - start) * step =
    c.loop-i.auto.out ∙ c.requires.room ∙ ap (λ n. (c.args.end - start) * n) (sym c.entry_size-step.ensures.size) in
    sym (take_all ((c.args.end - start) * step) c.loop-i.out (omega (arith, whole)))
    ∙ subst (λ k. take ((k - start) * step) c.loop-i.out ≡ flat_map (entry list.most) (take (k - start) (drop start list.pairs))) all c.loop-i.invariant
