use Rattle.std.proofs.Common.{◌∙◌, ◌+◌, List, ℕ, [], ◌∷◌, ◌++◌, map, sym, ap, subst, arith}
use Rattle.std.proofs.lemmas.List.{get_or-map, length-map}
use Rattle.pir_words.specs.Ranges.{row_named}
use Rattle.pir_words.proofs.NamedRows.{AreSoFar, all_rows, none_read, none_yet, one_more}
use Rattle.pir_words.proofs.blocks.read_rows.Goals as goal

pub loop-text-init : goal.loop-text-init
loop-text-init c =
    none_yet c.args.rows c.args.first _ _ (c.in_ok-push.ensures.items ∙ ap (λ (xs : List ℕ). xs ++ c.args.first ∷ []) c.new-list.ensures.items)

pub returns-in-None : goal.returns-in-None
returns-in-None c =
    let texts = c.args.texts.now in
    let i = c.loop-text.text-index in
    none_read c.args.rows c.args.first (map (λ t. t.now) texts) i (omega (arith, c.loop-text-test.true, c.loop-text.auto.text-index-end, length-map texts (λ t. t.now)))
    (c.in-None.ensures ∙ ap (row_named c.args.rows) (sym (get_or-map (λ t. t.now) texts i _ [] (omega (arith, c.loop-text-test.true, c.loop-text.auto.text-index-end)))))

pub loop-text-preserved : goal.loop-text-preserved
loop-text-preserved c =
    let texts = c.args.texts.now in
    let i = c.loop-text.text-index in
    subst (AreSoFar c.args.rows c.args.first (map (λ t. t.now) texts) (i + 1)) (sym c.in_ok-push-in-Some.ensures.items)
    (one_more c.args.rows c.args.first (map (λ t. t.now) texts) i (i + 1) c.in-Some.row c.loop-text.list.items c.loop-text.invariant
    (omega (arith, c.loop-text-test.true, c.loop-text.auto.text-index-end, length-map texts (λ t. t.now))) (omega arith)
    (ap (row_named c.args.rows) (get_or-map (λ t. t.now) texts i _ [] (omega (arith, c.loop-text-test.true, c.loop-text.auto.text-index-end))) ∙ sym c.in-Some.ensures))

pub returns : goal.returns
returns c =
    let texts = c.args.texts.now in
    all_rows c.args.rows c.args.first (map (λ t. t.now) texts) c.loop-text.text-index c.loop-text.list.items c.loop-text.invariant
    (omega (arith, c.loop-text-test.false, c.loop-text.auto.text-index-end, length-map texts (λ t. t.now)))
