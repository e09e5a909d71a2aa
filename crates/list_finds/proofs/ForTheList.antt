-- Where servers are honest, the answers to keys are what the list has for them.
use Rattle.std.proofs.Common.{◌≡◌, ◌∙◌, ℕ, suc, ◌+◌, ◌*◌, ◌<◌, List, [], ◌∷◌, ◌++◌, length, take, drop, get_or, All, Option, Some, None, slice_get, refl, sym, ap, ap₂, subst, arith, zero-mul}
use Rattle.std.specs.Prelude.{flat_map, slice_index, slice_index_or}
use Rattle.std.specs.List.{AllZip}
use Rattle.std.specs.Option.{option_or}
use Rattle.std.proofs.Math.Seq.{take-add}
use Rattle.std.proofs.lemmas.List.{drop-drop, get_or-map, length-map, take_all}
use Rattle.std.proofs.lemmas.List.Elements.{All-head, All-tail}
use Rattle.std.proofs.lemmas.Option.{slice_get-get_or}
use Rattle.wire_frames.specs.declared.session.SessionParams.{SessionParams}
use Rattle.wire_frames.specs.Turns.{piece}
use Rattle.wire_frames.proofs.Turns.{piece-in_turn}
use Rattle.block_decoder.specs.declared.verdict.Verdict.{Verdict}
use Rattle.block_decoder.specs.declared.verdict.Verdict.TheVariants.{Listed}
use Rattle.key_fetches.specs.Listed.{only_block}
use Rattle.key_table.specs.Entry.{Pair}
use Rattle.key_table.specs.Table.{Making}
use Rattle.key_table.specs.declared.row.Finding.TheVariants.{Broken as NoRow, Absent as Lacks, Found}
use Rattle.key_table.proofs.Law.{table_answers}
use Rattle.fetch_client.specs.Held.{block_of}
use Rattle.fetch_client.specs.Honest.{blocks_of}
use Rattle.list_finds.specs.Answers.{AnswersInRow, AreAnswers}
use Rattle.list_finds.specs.Found.{first_unlisted, unlisted_of}
use Rattle.list_finds.specs.Honest.{AnswersForTheList, IsHonestQuery, IsTableOf, SaysOf}
use Rattle.list_finds.specs.Known.{digest_in, making_of, row_in}
use Rattle.list_finds.specs.Queries.{AreOutcomes, IsOutcome, IsQuery, Outcome, Query}
use Rattle.list_finds.specs.Wanted.{IsWanted, Wanted, keys_each, queries_for}
use Rattle.list_finds.specs.declared.answers.Answer.{Answer}
use Rattle.list_finds.specs.declared.answers.Answer.TheVariants.{Unknown, Broken, Absent, Present}
use Rattle.list_finds.proofs.Pieces.{ends_behind}
use Rattle.list_finds.proofs.Requests.{some_each}

module _ {A B : Type 0} (R : A → B → Type 0) where
  -- two lists of pairs that agree, one behind the other
  zip_both : (xs ys : List A) (bs cs : List B) → AllZip R xs bs → AllZip R ys cs → AllZip R (xs ++ ys) (bs ++ cs)
  zip_both [] ys [] cs one other = other
  zip_both [] ys (b ∷ bs) cs one other = absurd one
  zip_both (x ∷ xs) ys [] cs one other = absurd one
  zip_both (x ∷ xs) ys (b ∷ bs) cs one other = (one.0, zip_both xs ys bs cs one.1 other)

  -- lists that agree at each place
  zip_from : (xs : List A) (bs : List B) (d : A) (e : B) → length bs ≡ length xs
      → ((i : ℕ) → i < length xs → R (get_or xs i d) (get_or bs i e)) → AllZip R xs bs
  zip_from [] [] d e same each = tt
  zip_from [] (b ∷ bs) d e same each = absurd (omega (arith, same))
  zip_from (x ∷ xs) [] d e same each = absurd (omega (arith, same))
  zip_from (x ∷ xs) (b ∷ bs) d e same each =
      (each 0 (omega arith), zip_from xs bs d e (omega (arith, same)) (λ i l. each (suc i) (omega (arith, l))))

-- the keys of queries from a number on are those behind the ones before
keys_from : (w : Wanted) (number : ℕ) (queries : List Query) (outcomes : List Outcome) → AreOutcomes w number queries outcomes
    → flat_map (λ q. q.keys) queries ≡ take (length queries * keys_each w.plan.s) (drop (number * keys_each w.plan.s) w.keys)
keys_from w number [] [] are = sym (ap (λ (n : ℕ). take n (drop (number * keys_each w.plan.s) w.keys)) (zero-mul (keys_each w.plan.s)))
keys_from w number [] (o ∷ outcomes) are = absurd are
keys_from w number (q ∷ queries) [] are = absurd are
keys_from w number (q ∷ queries) (o ∷ outcomes) are =
    let each = keys_each w.plan.s in
    let rest = drop (number * each) w.keys in
    let next : drop ((number + 1) * each) w.keys ≡ drop each rest =
    ap (λ (n : ℕ). drop n w.keys) (omega arith) ∙ sym (drop-drop each (number * each) w.keys) in
    ap₂ (λ (a b : List (List ℕ)). a ++ b) are.0.keys
    (keys_from w (number + 1) queries outcomes are.2 ∙ ap (take (length queries * each)) next)
    ∙ sym (take-add each (length queries * each) rest)
    ∙ ap (λ (n : ℕ). take n rest) (omega arith)

module _ (w : Wanted) (is : IsWanted w) (list : List Pair) (table : List (List ℕ)) (t : IsTableOf w list table) where
  abbrev m : Making
  m = making_of w.list w.plan.r

  -- a row of the table
  row_at : (j : ℕ) → j < w.plan.r → slice_get table j ≡ Some (block_of table j)
  row_at j l = slice_get-get_or table j [] (let rows = t.is_table.rows in omega (arith, l, rows))

  -- a key is answered by its row as by the list
  says : (key : List ℕ) (answer : Answer (List ℕ)) → row_in w.list w.plan.r key < w.plan.r
      → AnswersInRow w.list w.plan.r (block_of table (row_in w.list w.plan.r key)) key answer
      → SaysOf list (digest_in w.list key) answer
  says key Unknown low h = h
  says key Broken low h =
      table_answers m w.list.salt w.plan.s list table (digest_in w.list key) (block_of table (row_in w.list w.plan.r key)) NoRow
      t.is_table t.clear t.pairs is.known.least is.known.most is.plan.numbers.shape.few_bytes
      (row_at (row_in w.list w.plan.r key) low) h
  says key Absent low h =
      table_answers m w.list.salt w.plan.s list table (digest_in w.list key) (block_of table (row_in w.list w.plan.r key)) Lacks
      t.is_table t.clear t.pairs is.known.least is.known.most is.plan.numbers.shape.few_bytes
      (row_at (row_in w.list w.plan.r key) low) h
  says key (Present value) low h =
      table_answers m w.list.salt w.plan.s list table (digest_in w.list key) (block_of table (row_in w.list w.plan.r key))
      (Found (record { ref_ptr = (0, 0); now = value }))
      t.is_table t.clear t.pairs is.known.least is.known.most is.plan.numbers.shape.few_bytes
      (row_at (row_in w.list w.plan.r key) low) h

  abbrev Says : List ℕ → Answer (List ℕ) → Type 0
  Says key answer = SaysOf list (digest_in w.list key) answer

  -- the verdict on an honest query lists the rows that were asked for
  listed : (q : Query) (o : Outcome) → IsOutcome w q o → IsHonestQuery w table q → o.verdict ≡ Listed (blocks_of table q.rows ∷ [])
  listed q o comes honest = comes.found.alone_by_frames table honest.share_coins honest.honest honest.close

  -- so its keys are answered
  query_says : (number : ℕ) (q : Query) (o : Outcome) → IsQuery w number q → IsOutcome w q o → IsHonestQuery w table q
      → AllZip Says q.keys o.answers
  query_says number q o query comes honest =
      let block = blocks_of table q.rows in
      let are = subst (λ (b : Option (List ℕ)). AreAnswers w.list w.plan.r w.plan.s b q.keys o.answers)
      (ap only_block (listed q o comes honest)) comes.answers in
      let held = honest.honest.matrix_is in
      let width : q.session.params.s ≡ w.plan.s = ap (λ (p : SessionParams). p.s) query.params in
      let as_many : length q.rows ≡ length q.keys = ap length query.rows ∙ length-map q.keys (row_in w.list w.plan.r) in
      zip_from Says q.keys o.answers [] Unknown are.count (λ place l.
      let at : place < length q.rows = omega (arith, l, as_many) in
      let key = slice_index_or q.keys place [] in
      let answer = slice_index_or o.answers place Unknown in
      let row : piece w.plan.s place block ≡ block_of table (slice_index q.rows place) =
      piece-in_turn (length q.rows) w.plan.s place (λ v. block_of table (slice_index q.rows v))
      (λ k low. held.widths (slice_index q.rows k) []
      (let inside = query.within k 0 low in let rows = t.is_table.rows in omega (arith, inside, rows)) ∙ width) at in
      let own : slice_index q.rows place ≡ row_in w.list w.plan.r key =
      ap (λ (rows : List ℕ). slice_index rows place) query.rows ∙ get_or-map (row_in w.list w.plan.r) q.keys place [] 0 l in
      says key answer (subst (λ (n : ℕ). n < w.plan.r) own (query.within place 0 at))
      (subst (λ (b : List ℕ). AnswersInRow w.list w.plan.r b key answer) (row ∙ ap (block_of table) own) (are.each place l)))

  -- the keys of all queries are answered, and each verdict lists one block
  queries_say : (number : ℕ) (queries : List Query) (outcomes : List Outcome) → AreOutcomes w number queries outcomes
      → All (IsHonestQuery w table) queries
      → AllZip Says (flat_map (λ q. q.keys) queries) (flat_map (λ o. o.answers) outcomes) × (first_unlisted queries outcomes ≡ None)
  queries_say number [] [] are honest = (tt, refl)
  queries_say number [] (o ∷ outcomes) are honest = absurd are
  queries_say number (q ∷ queries) [] are honest = absurd are
  queries_say number (q ∷ queries) (o ∷ outcomes) are honest =
      let first = All-head (IsHonestQuery w table) q queries honest in
      let rest = queries_say (number + 1) queries outcomes are.2 (All-tail (IsHonestQuery w table) q queries honest) in (
        zip_both Says q.keys (flat_map (λ (p : Query). p.keys) queries) o.answers (flat_map (λ (p : Outcome). p.answers) outcomes)
            (query_says number q o are.0 are.1 first) rest.0,
        ap (λ (v : Verdict). option_or (unlisted_of q.session v) (first_unlisted queries outcomes)) (listed q o are.1 first) ∙ rest.1,
      )

-- where all queries are honest, each key is answered by what the list has for it
pub answers_for_the_list : AnswersForTheList
answers_for_the_list w queries outcomes list table is all are t honest =
    let each = keys_each w.plan.s in
    let said = queries_say w is list table t 0 queries outcomes are honest in
    let some = some_each w.plan.s is.plan.numbers.shape.some_bytes is.plan.numbers.shape.few_bytes in
    let whole : flat_map (λ (q : Query). q.keys) queries ≡ w.keys =
    keys_from w 0 queries outcomes are
    ∙ ap (λ (n : ℕ). take (length queries * each) (drop n w.keys)) (zero-mul each)
    ∙ ap (λ (n : ℕ). take (n * each) w.keys) all
    ∙ take_all (queries_for w * each) w.keys (ends_behind (length w.keys) each some) in
    record {
      says = subst (λ (keys : List (List ℕ)). AllZip (λ key answer. SaysOf list (digest_in w.list key) answer) keys
          (flat_map (λ (o : Outcome). o.answers) outcomes)) whole said.0;
      listed = said.1;
    }
