-- The row that is asked for is found where enough servers are honest.
use Rattle.std.proofs.Common.{◌≡◌, ◌∙◌, ℕ, zero, suc, ◌+◌, ◌*◌, ◌<◌, ◌≤◌, Bool, true, List, [], ◌∷◌, length, All, Contains, get_or, map, count_by, bytes_eq, mul-zero, add-zero, one-mul, sym, ap, subst, arith, cond}
use Rattle.std.specs.List.{range_with_len}
use Rattle.std.proofs.Math.Nat.{mod-lt}
use Rattle.std.proofs.lemmas.List.Sums.{sum_by-cons}
use Rattle.std.proofs.lemmas.Slice.Eq.{bytes_eq-Decides}
use Rattle.gf256.specs.Product.{product}
use Rattle.shamir_share.specs.Query.{query}
use Rattle.wire_frames.specs.Answer.{Answer}
use Rattle.block_decoder.specs.declared.verdict.Verdict.{Verdict}
use Rattle.drawn_workload.specs.Judged.{IsDecidedOn}
use Rattle.drawn_workload.specs.Stream.{key_by}
use Rattle.drawn_workload.specs.Workload.{IsWorkload, asked_block, database_of, coins_from, coins_of, honest, honest_payload, payload, all_answers}
use Rattle.drawn_workload.specs.declared.order.Workload.{Workload}
use Rattle.drawn_workload.proofs.AnswerColumns.{answer_by, columns-all_answers}
use Rattle.drawn_workload.proofs.StreamBytes.{length-stream_bytes}
use Rattle.drawn_workload.proofs.Workloads.{IsMatrix-database_of, length-all_answers, payload-honest}
use Rattle.fetch_client.proofs.HonestBlock.{AreProducts, honest_is_listed, honest_is_alone, one_product, products_at}
use Rattle.fetch_client.specs.Held.{block_of, held_by}
use Rattle.fetch_client.specs.Honest.{blocks_of}
use Rattle.std.proofs.lemmas.List.Elements.{All-cons, All-nil}
use Rattle.wire_frames.proofs.Turns.{in_turn-one}
use Rattle.block_decoder.specs.Agreed.{HasColumns}
use Rattle.block_decoder.specs.Verdict.{IsDecided}
use Rattle.block_decoder.specs.declared.verdict.Verdict.TheVariants.{Listed}
use Rattle.commands.specs.SelfrunOutcome.{FindsAskedRow, IsVerdictOn}

-- ---- the honest ones are counted

-- at least the first m of n pass
count_front : {X : Type 0} (p : X → Bool) (f : ℕ → X) (a n m : ℕ) → m ≤ n → ((i : ℕ) → i < a + m → p (f i) ≡ true) → m ≤ count_by p (map f (range_with_len a n))
count_front p f a n zero few pass = omega arith
count_front p f a zero (suc m) few pass = absurd (omega (arith, few))
count_front p f a (suc n) (suc m) few pass =
    let rest = count_front p f (a + 1) n m (omega (arith, few)) (λ i lt. pass i (omega (arith, lt))) in
    let first = ap {B = ℕ} (λ t. cond t 1 0) (pass a (omega arith)) in
    let all = sum_by-cons (λ x. cond (p x) 1 0) (f a) (map f (range_with_len (a + 1) n)) in
    omega (arith, rest, first, all)

-- the one block
abbrev asked : Workload → List ℕ
asked w = asked_block w ∷ []

-- where enough servers are honest, enough answers are the products of what they were sent
products_of : (w : Workload) → IsWorkload w → w.agree ≤ honest w → AreProducts (all_answers w) (database_of w).rows 0 [] (coins_of w) (asked w) w.degree w.rows w.width w.agree
unfolding all_answers held_by
products_of w is enough =
    let rows = (database_of w).rows in
    let one : ℕ → List ℕ = λ a. product rows w.width (query (coins_of w) w.degree w.rows (asked_block w) a) in
    let counted = count_front (λ (a : Answer). bytes_eq a.payload (one a.index)) (answer_by w) 1 w.servers (honest w) (omega arith)
    (λ i lt. (bytes_eq-Decides (payload w i) (honest_payload w i)).1 (payload-honest w i (omega (arith, lt)))) in
    let size = length-stream_bytes (key_by w.seed) (coins_from w) (w.rows * w.degree) in
    let same : ◌≡◌ {A = ℕ → List ℕ} one (products_at (λ a. rows) (coins_of w) (asked w) w.degree w.rows w.width) =
    λ i a. (sym (one_product (λ a. rows) (coins_of w) w.degree w.rows w.width (asked_block w) a size)) i in
    let many : w.agree ≤ count_by (λ (a : Answer). bytes_eq a.payload (one a.index)) (map (answer_by w) (range_with_len 1 w.servers)) = omega (arith, enough, counted) in
    record {
      matrix_is = IsMatrix-database_of w is.numbers.shape.some_bytes;
      shared = sym (mul-zero (w.rows * w.width));
      enough = subst (λ (f : ℕ → List ℕ). w.agree ≤ count_by (λ (a : Answer). bytes_eq a.payload (f a.index)) (map (answer_by w) (range_with_len 1 w.servers))) same many;
    }

-- ---- so the row is found

-- the verdict on a workload's answers has the row that is asked for
pub finds_asked_row : (w : Workload) (verdict : Verdict) → IsWorkload w → IsDecidedOn w verdict → FindsAskedRow w verdict
finds_asked_row w verdict is decided =
    let rows = (database_of w).rows in
    let size = length-stream_bytes (key_by w.seed) (coins_from w) (w.rows * w.degree) in
    let whole : length (coins_of w) ≡ length (asked w) * (w.rows * w.degree) = size ∙ sym (one-mul (w.rows * w.degree)) in
    let low : asked_block w < w.rows = mod-lt w.seed (omega (arith, is.numbers.shape.some_rows)) in
    let within : All (λ b. b < w.rows) (asked w) = All-cons (λ b. b < w.rows) (asked_block w) [] low (All-nil (λ b. b < w.rows)) in
    let n = length-all_answers w in
    let row : blocks_of rows (asked w) ≡ block_of rows (asked_block w) = in_turn-one (λ v. block_of rows (get_or (asked w) v 0)) in
    let width : w.width ≡ length (asked w) * w.width = sym (one-mul w.width) in
    let decided_on : (v : Verdict) → IsDecidedOn w v → IsDecided (all_answers w) (length (asked w) * w.width) (w.degree + 0) w.agree v =
    λ v is. subst (λ (d : ℕ). IsDecided (all_answers w) (length (asked w) * w.width) d w.agree v) (sym (add-zero w.degree))
    (subst (λ (s : ℕ). IsDecided (all_answers w) s w.degree w.agree v) width is) in
    record {
      listed = λ enough blocks e. subst (λ (b : List ℕ). Contains blocks b) row
          (honest_is_listed (all_answers w) rows 0 [] (coins_of w) (asked w) w.degree w.rows w.width w.agree blocks whole within (products_of w is enough)
          (decided_on (Listed blocks) (subst (IsDecidedOn w) e decided)));
      alone = λ enough close. honest_is_alone (all_answers w) rows 0 [] (coins_of w) (asked w) w.degree w.rows w.width w.agree verdict
          (subst (λ (s : ℕ). HasColumns s (all_answers w)) width (columns-all_answers w (omega (arith, is.numbers.few_servers)))) (omega (arith, n, is.numbers.few_servers)) whole within
          (products_of w is enough) (omega (arith, n, close)) (decided_on verdict decided)
          ∙ ap (λ (b : List ℕ). Listed (b ∷ [])) row;
    }

-- what was decided on the answers is the verdict
pub judged_on : (w : Workload) (verdict : Verdict) → IsWorkload w → IsDecidedOn w verdict → IsVerdictOn w verdict
judged_on w verdict is decided = record { decided = decided; found = finds_asked_row w verdict is decided }
