use Rattle.std.proofs.Common.{◌≡◌, ◌≤◌, ℕ, List, length, take, drop, Option, Some, None, MatchOption, sym, ap, ap₂, subst, ◌∙◌, arith, true≢false}
use Rattle.std.specs.Cmp.Lexicographic.{bytes_decides}
use Rattle.key_table.specs.Entry.{entry, entry_size, value_bytes}
use Rattle.key_table.proofs.EntryBytes.{entry-front, entry-back}
use Rattle.key_table.proofs.Rests.{Sought, Sought-ahead, Sought-none}
use Rattle.key_table.proofs.Values.{value_unique}
use Rattle.key_table.proofs.row.value_for.Goals as goal

-- what an option says of either case, by what it says otherwise
either : {X : Type 0} (o : Option X) (P R : Type 0) (Q S : X → Type 0) → MatchOption o P Q → (P → R) → ((x : X) → Q x → S x) → MatchOption o R S
either None P R Q S h none some = none h
either (Some x) P R Q S h none some = some x h

pub returns-then-eq : goal.returns-then-eq
returns-then-eq c = λ pairs each is.
    let a = c.args in
    let rest = c.entries.rest.now in
    let size = entry_size a.size a.most in
    let enough : size ≤ length rest = omega (arith, c.entries-test.true, c.entry_size-step.ensures.size) in
    let ahead = Sought-ahead a.size a.most a.digest.now rest pairs (omega (arith, c.requires.least)) (c.entries.invariant pairs each is) enough in
    let first : c.split_at.result.0.now ≡ entry a.most ahead.p =
    c.split_at.ensures.front ∙ ap (λ n. take n rest) c.entry_size-step.ensures.size ∙ ahead.is_entry in
    let front : c.split_at-in-entries.result.0.now ≡ ahead.p.digest =
    c.split_at-in-entries.ensures.front ∙ ap (take a.size) first ∙ entry-front a.size a.most ahead.p ahead.is_pair in
    let back : c.split_at-in-entries.result.1.now ≡ value_bytes a.most ahead.p.value =
    c.split_at-in-entries.ensures.back ∙ ap (drop a.size) first ∙ entry-back a.size a.most ahead.p ahead.is_pair in
    let same : c.split_at-in-entries.result.0.now ≡ a.digest.now = (bytes_decides c.split_at-in-entries.result.0.now a.digest.now).0 (sym c.eq.ensures ∙ c.if-eq.true) in
    either c.value_in.result _ _ _ _ c.value_in.ensures
    (λ none. absurd (none ahead.p.value ahead.is_pair.is_value (sym back)))
    (λ x has. ahead.among x.now (ap₂ (λ (d v : List ℕ). record { digest = d; value = v }) (sym front ∙ same)
    (value_unique a.most ahead.p.value x.now c.requires.most ahead.is_pair.is_value has.0 (sym back ∙ sym has.1))))

pub entries-preserved : goal.entries-preserved
entries-preserved c = λ pairs each is.
    let a = c.args in
    let rest = c.entries.rest.now in
    let size = entry_size a.size a.most in
    let enough : size ≤ length rest = omega (arith, c.entries-test.true, c.entry_size-step.ensures.size) in
    let ahead = Sought-ahead a.size a.most a.digest.now rest pairs (omega (arith, c.requires.least)) (c.entries.invariant pairs each is) enough in
    let first : c.split_at.result.0.now ≡ entry a.most ahead.p =
    c.split_at.ensures.front ∙ ap (λ n. take n rest) c.entry_size-step.ensures.size ∙ ahead.is_entry in
    let front : c.split_at-in-entries.result.0.now ≡ ahead.p.digest =
    c.split_at-in-entries.ensures.front ∙ ap (take a.size) first ∙ entry-front a.size a.most ahead.p ahead.is_pair in
    let behind : c.split_at.result.1.now ≡ drop size rest = c.split_at.ensures.back ∙ ap (λ n. drop n rest) c.entry_size-step.ensures.size in
    subst (λ bs. Sought a.size a.most a.digest.now bs pairs) (sym behind)
    (ahead.behind (λ same. true≢false (sym ((bytes_decides c.split_at-in-entries.result.0.now a.digest.now).1 (front ∙ same)) ∙ sym c.eq.ensures ∙ c.if-eq.false)))

pub returns : goal.returns
returns c = λ pairs each is.
    Sought-none c.args.size c.args.most c.args.digest.now c.entries.rest.now pairs (c.entries.invariant pairs each is)
    (omega (arith, c.entries-test.false, c.entry_size-step.ensures.size))
