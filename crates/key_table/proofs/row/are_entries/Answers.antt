use Rattle.std.proofs.Common.{◌≡◌, ◌≤◌, ◌<◌, [], length, take, drop, sym, ap, subst, ◌∙◌, arith, rules, true≢false, eqb-true, eq-eqb}
use Rattle.std.proofs.lemmas.List.{nil_from_length}
use Rattle.key_table.specs.Entry.{entry_size}
use Rattle.key_table.specs.Table.{Follows}
use Rattle.key_table.proofs.Rests.{Left, Left-whole, Left-none, Left-short, Left-step, Left-more, whole-from_Left}
use Rattle.key_table.proofs.row.are_entries.Goals as goal

pub entries-init : goal.entries-init
entries-init c =
    let a = c.args in
    record {
      forth = λ h. Left-whole a.size a.most a.rows a.j a.bytes.now (omega (arith, c.requires.least)) h;
      back = λ h. whole-from_Left a.size a.most a.rows a.j a.bytes.now h;
    }

pub returns-then-not-follows-clause-no : goal.returns-then-not-follows-clause-no
returns-then-not-follows-clause-no c = λ no h.
    let a = c.args in
    let last = c.entries.last.now in
    let rest = c.entries.rest.now in
    let enough : entry_size a.size a.most ≤ length rest = omega (arith, c.entries-test.true, c.entry_size-step.ensures.size) in
    let first : c.split_at.result.0.now ≡ take (entry_size a.size a.most) rest = c.split_at.ensures.front ∙ ap (λ n. take n rest) c.entry_size-step.ensures.size in
    let step = Left-step a.size a.most a.rows a.j last rest (omega (arith, c.requires.least)) (c.entries.invariant.forth h) enough in
    c.follows.ensures.no (search rules) step.p (subst (λ bs. Follows a.size a.most a.rows a.j last bs step.p) (sym first) step.follows)

pub entries-preserved : goal.entries-preserved
entries-preserved c =
    let a = c.args in
    let last = c.entries.last.now in
    let rest = c.entries.rest.now in
    let size = entry_size a.size a.most in
    let enough : size ≤ length rest = omega (arith, c.entries-test.true, c.entry_size-step.ensures.size) in
    let first : c.split_at.result.0.now ≡ take size rest = c.split_at.ensures.front ∙ ap (λ n. take n rest) c.entry_size-step.ensures.size in
    let behind : c.split_at.result.1.now ≡ drop size rest = c.split_at.ensures.back ∙ ap (λ n. drop n rest) c.entry_size-step.ensures.size in
    let next = c.follows.ensures.yes (search rules) in
    record {
      forth = λ h.
          subst (λ bs. Left a.size a.most a.rows a.j (take a.size bs) c.split_at.result.1.now) (sym first)
          (subst (λ bs. Left a.size a.most a.rows a.j (take a.size (take size rest)) bs) (sym behind)
          (Left-step a.size a.most a.rows a.j last rest (omega (arith, c.requires.least)) (c.entries.invariant.forth h) enough).behind);
      back = λ h.
          c.entries.invariant.back (Left-more a.size a.most a.rows a.j last rest next.0
          (subst (λ bs. Follows a.size a.most a.rows a.j last bs next.0) first next.1)
          (subst (λ bs. Left a.size a.most a.rows a.j (take a.size (take size rest)) bs) behind
          (subst (λ bs. Left a.size a.most a.rows a.j (take a.size bs) c.split_at.result.1.now) first h)));
    }

pub returns-clause-yes : goal.returns-clause-yes
returns-clause-yes c = λ yes.
    let a = c.args in
    let rest = c.entries.rest.now in
    let none : rest ≡ [] = nil_from_length rest (eqb-true (length rest) 0 (sym c.is_empty.ensures ∙ yes)) in
    c.entries.invariant.back (Left-none a.size a.most a.rows a.j c.entries.last.now rest none)

pub returns-clause-no : goal.returns-clause-no
returns-clause-no c = λ empty h.
    let a = c.args in
    let rest = c.entries.rest.now in
    let short : length rest < entry_size a.size a.most = omega (arith, c.entries-test.false, c.entry_size-step.ensures.size) in
    let none : length rest ≡ 0 = ap length (Left-short a.size a.most a.rows a.j c.entries.last.now rest (c.entries.invariant.forth h) short) in
    true≢false (sym (eq-eqb (length rest) 0 none) ∙ sym c.is_empty.ensures ∙ empty)
