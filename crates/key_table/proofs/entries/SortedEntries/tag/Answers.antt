use Rattle.std.proofs.Common.{◌≡◌, ◌≤◌, ◌<◌, ◌++◌, List, [], length, take, sym, ap, ap₂, subst, ◌∙◌, arith, rules}
use Rattle.std.specs.List.{flat_map}
use Rattle.std.proofs.lemmas.List.{append-nil, take_all}
use Rattle.sha2.specs.Hashers.{Holds256}
use Rattle.sha2.specs.Sha256.{sha256}
use Rattle.key_table.specs.Entry.{Pair, entry}
use Rattle.key_table.specs.Looked.{pair}
use Rattle.key_table.specs.Places.{pair_at}
use Rattle.key_table.proofs.Hashing.{entries_more}
use Rattle.key_table.proofs.entries.SortedEntries.tag.Goals as goal

pub loop-entry-init : goal.loop-entry-init
loop-entry-init c =
    let salt : c.as_slice.result.now ≡ c.args.salt.now = search rules in
    subst (Holds256 c.update.new.self) (salt ∙ sym (append-nil c.args.salt.now)) (c.update.ensures [] c.new-hasher.ensures)

pub loop-entry-preserved : goal.loop-entry-preserved
loop-entry-preserved c =
    let list = c.args.self.now in
    let i = c.loop-entry.entry in
    let there : i < length list.pairs = omega (arith, c.loop-entry-test.true, c.count-entries.ensures.count) in
    let x : pair c.digest.result.now c.value.result.now ≡ pair_at list.pairs i = ap₂ pair c.digest.ensures.digest c.value.ensures.value in
    let before = c.args.salt.now ++ flat_map (entry list.most) (take i list.pairs) in
    let most = ap (λ m. before ++ entry m (pair c.digest.result.now c.value.result.now)) c.most.ensures.most in
    subst (Holds256 c.hash_entry.new.hasher)
    (most ∙ entries_more c.args.salt.now list.most list.pairs i (pair c.digest.result.now c.value.result.now) there x)
    (c.hash_entry.ensures before c.loop-entry.invariant)

pub returns : goal.returns
returns c =
    let list = c.args.self.now in
    let whole : length list.pairs ≤ c.loop-entry.entry = omega (arith, c.loop-entry-test.false, c.count-entries.ensures.count) in
    let all = ap (λ (ps : List Pair). c.args.salt.now ++ flat_map (entry list.most) ps) (take_all c.loop-entry.entry list.pairs whole) in
    let hash = c.finalize.ensures (c.args.salt.now ++ flat_map (entry list.most) (take c.loop-entry.entry list.pairs)) c.loop-entry.invariant in
    c.first_eight.ensures ∙ ap (take 8) (hash ∙ ap sha256 all)
