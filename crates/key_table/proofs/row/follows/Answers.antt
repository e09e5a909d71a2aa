use Rattle.std.proofs.Common.{◌≡◌, take, drop, ◌++◌, sym, ap, ap₂, subst, ◌∙◌, rules, Less, nat_cmp}
use Rattle.std.specs.Cmp.Lexicographic.{slice_cmp}
use Rattle.std.proofs.lemmas.List.{take-append-drop}
use Rattle.key_table.specs.Digest.{row_of}
use Rattle.key_table.specs.Entry.{Pair}
use Rattle.key_table.proofs.EntryBytes.{entry-is, entry-front, entry-back}
use Rattle.key_table.proofs.row.follows.Goals as goal

pub returns-then-row_of-j-clause-no : goal.returns-then-row_of-j-clause-no
returns-then-row_of-j-clause-no c = λ no p f.
    let front : c.split_at.result.0.now ≡ p.digest = c.split_at.ensures.front ∙ ap (take c.args.size) f.is_entry ∙ entry-front c.args.size c.args.most p f.is_pair in
    c.if-row_of-j.true (c.row_of.ensures.row ∙ ap (row_of c.args.rows) front ∙ f.placed)

pub returns-then-not-is_below-clause-no : goal.returns-then-not-is_below-clause-no
returns-then-not-is_below-clause-no c = λ no p f.
    let front : c.split_at.result.0.now ≡ p.digest = c.split_at.ensures.front ∙ ap (take c.args.size) f.is_entry ∙ entry-front c.args.size c.args.most p f.is_pair in
    c.is_below.ensures.no (search rules) (subst (λ d. slice_cmp nat_cmp c.args.last.now d ≡ Less) (sym front) f.above)

pub returns-in-Some-clause-yes : goal.returns-in-Some-clause-yes
returns-in-Some-clause-yes c = λ yes.
    let digest = c.split_at.result.0.now in
    let p : Pair = record { digest = digest; value = c.in-Some.field-0.now } in (
      p,
      record {
        is_pair = record { digest_size = c.split_at.ensures.front_len; is_value = c.in-Some.ensures.0 };
        is_entry = sym (entry-is c.args.most p ∙ ap₂ (λ x y. x ++ y) c.split_at.ensures.front (c.in-Some.ensures.1 ∙ c.split_at.ensures.back) ∙ take-append-drop c.args.size c.args.bytes.now);
        above = c.is_below.ensures.yes (search rules);
        placed = sym c.row_of.ensures.row ∙ (search rules);
      },
    )

pub returns-in-None-clause-no : goal.returns-in-None-clause-no
returns-in-None-clause-no c = λ no p f.
    c.in-None.ensures p.value f.is_pair.is_value
    (sym (entry-back c.args.size c.args.most p f.is_pair) ∙ ap (drop c.args.size) (sym f.is_entry) ∙ sym c.split_at.ensures.back)
