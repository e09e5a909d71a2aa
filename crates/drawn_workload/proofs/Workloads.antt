-- What is drawn for a workload, and what its servers answer.
use Rattle.std.proofs.Common.{◌≡◌, ◌≢◌, ◌∙◌, ℕ, ◌+◌, ◌-◌, ◌*◌, ◌<◌, ◌≤◌, List, [], ◌∷◌, ◌++◌, length, take, drop, map, refl, sym, ap, ap₂, subst, arith, inl, inr, cond, length-append}
use Rattle.std.specs.Int.{div_ceil}
use Rattle.std.specs.List.{All, flat_map, range_with_len}
use Rattle.std.specs.List.Sorted.{IsStrictlyIncreasing}
use Rattle.std.proofs.Math.Nat.{lt_of_mul-lt-mul_right}
use Rattle.std.proofs.Math.Seq.{take-append_seam, drop-append_seam}
use Rattle.std.proofs.lemmas.Bool.{cases_lt, le-leb, lt-leb}
use Rattle.std.proofs.lemmas.Grind.{div_ceil_times}
use Rattle.std.proofs.lemmas.List.{map-id, flat_map_more}
use Rattle.std.proofs.lemmas.List.Concat.{flat_map-cons}
use Rattle.std.proofs.lemmas.List.Elements.{All-append, All-replicate}
use Rattle.std.proofs.lemmas.List.FromFn.{length-map-range_with_len, map-range_with_len_more, get_or-range_with_len, length-range_with_len}
use Rattle.gf256.specs.Product.{IsMatrix, product}
use Rattle.shamir_share.specs.Query.{query}
use Rattle.wire_frames.specs.Answer.{Answer}
use Rattle.block_matrix.specs.Database.{Database, database, filled_up}
use Rattle.block_matrix.proofs.Rows.{IsMatrix-rows_of, length-rows_of}
use Rattle.block_matrix.proofs.Counts.{length-filled_up}
use Rattle.block_decoder.specs.Agreed.{answers_of}
use Rattle.block_decoder.specs.Verdict.{IsDecided}
use Rattle.block_decoder.specs.declared.answers.ServerAnswers.{ServerAnswers}
use Rattle.block_decoder.specs.declared.verdict.Verdict.{Verdict}
use Rattle.drawn_workload.specs.Stream.{drawn, key_by, stream_bytes}
use Rattle.drawn_workload.specs.Workload.{asked_block, database_of, coins_of, lies_from, honest, honest_payload, lie, payload, all_answers}
use Rattle.drawn_workload.specs.declared.order.Workload.{Workload}
use Rattle.drawn_workload.specs.Servers.{HasAnswered, IsDrawn}
use Rattle.drawn_workload.specs.Judged.{IsDecidedOn}
use Rattle.drawn_workload.proofs.StreamBytes.{length-stream_bytes, small-stream_bytes, take-stream_bytes, drop-stream_bytes}

-- ---- the pieces

-- whole rows are as many as there are widths in the bytes
pub whole_rows : (rows width : ℕ) → 0 < width → div_ceil (rows * width) width ≡ rows
whole_rows rows width some =
    let times = div_ceil_times (rows * width) width some in
    let count = div_ceil (rows * width) width in
    let over : rows * width < (count + 1) * width = grind (arith, times.0, some) in
    let under : count * width < (rows + 1) * width = grind (arith, times.1) in
    let least : rows < count + 1 = lt_of_mul-lt-mul_right width over in
    let most : count < rows + 1 = lt_of_mul-lt-mul_right width under in
    omega (arith, least, most)

-- the database has so many rows
pub rows-database_of : (w : Workload) → 1 ≤ w.width → length (database_of w).rows ≡ w.rows
unfolding database
rows-database_of w some =
    length-rows_of w.width (div_ceil (length (drawn w.seed 0 (w.rows * w.width))) w.width) _
    ∙ ap (λ n. div_ceil n w.width) (length-stream_bytes (key_by w.seed) 0 (w.rows * w.width))
    ∙ whole_rows w.rows w.width (omega (arith, some))

-- the bytes that are drawn, parted
pub parted : (w : Workload) (matrix : Database) (coins lies all : List ℕ) (cells tosses lying count : ℕ)
    → cells ≡ w.rows * w.width → tosses ≡ w.rows * w.degree → lying ≡ w.liars * w.width
    → count ≡ cells + 8 + tosses + lying
    → all ≡ drawn w.seed 0 count → matrix ≡ database w.width (take cells (take (cells + 8) all))
    → coins ≡ take tosses (drop (cells + 8) all) → lies ≡ drop tosses (drop (cells + 8) all)
    → IsDrawn w matrix coins lies
parted w matrix coins lies all cells tosses lying count c t l n is matrix_is coins_are lies_are =
    let key = key_by w.seed in
    let rest : drop (cells + 8) all ≡ stream_bytes key (cells + 8) (tosses + lying) =
    ap (drop (cells + 8)) is ∙ drop-stream_bytes key 0 (cells + 8) (cells + 8) (tosses + lying) count (omega arith) (omega (arith, n)) in
    record {
      database_is = matrix_is
          ∙ ap (database w.width)
          (ap (λ (xs : List ℕ). take cells (take (cells + 8) xs)) is
          ∙ ap (take cells) (take-stream_bytes key 0 (cells + 8) count (omega (arith, n)))
          ∙ take-stream_bytes key 0 cells (cells + 8) (omega arith)
          ∙ ap (stream_bytes key 0) c);
      coins_are = coins_are ∙ ap (take tosses) rest ∙ take-stream_bytes key (cells + 8) tosses (tosses + lying) (omega arith) ∙ ap₂ (λ i k. stream_bytes key (i + 8) k) c t;
      lies_are = lies_are ∙ ap (drop tosses) rest ∙ drop-stream_bytes key (cells + 8) (cells + 8 + tosses) tosses lying (tosses + lying) refl refl
          ∙ ap (λ k. stream_bytes key (k + 8 + tosses) lying) c ∙ ap₂ (λ i k. stream_bytes key (w.rows * w.width + 8 + i) k) t l;
    }

-- they are a matrix
pub IsMatrix-database_of : (w : Workload) → 1 ≤ w.width → IsMatrix (database_of w).rows w.rows w.width
unfolding database
IsMatrix-database_of w some =
    let bytes = drawn w.seed 0 (w.rows * w.width) in
    let size = length-stream_bytes (key_by w.seed) 0 (w.rows * w.width) in
    let count = ap (λ n. div_ceil n w.width) size ∙ whole_rows w.rows w.width (omega (arith, some)) in
    subst (λ n. IsMatrix (database_of w).rows n w.width) count
    (IsMatrix-rows_of w.width (div_ceil (length bytes) w.width) (filled_up w.width bytes) (length-filled_up w.width bytes (omega (arith, some)))
    (All-append (λ (b : ℕ). b < 256) bytes _ (small-stream_bytes (key_by w.seed) 0 (w.rows * w.width)) (All-replicate (λ (b : ℕ). b < 256) _ 0 (omega arith))))

-- it has the width
pub width-database_of : (w : Workload) → (database_of w).width ≡ w.width
unfolding database
width-database_of w = refl

-- ---- the answers

-- the product of the query and the database, from what was drawn
pub product-honest : (w : Workload) (matrix : Database) (held lies coins q out : List ℕ) (t block i : ℕ)
    → IsDrawn w matrix held lies → coins ≡ held → t ≡ w.degree → block ≡ asked_block w
    → q ≡ query coins t w.rows block i
    → out ≡ product matrix.rows matrix.width q → out ≡ honest_payload w i
unfolding database
product-honest w matrix held lies coins q out t block i is c k b asked made =
    made
    ∙ ap₂ (λ (m : Database) (x : List ℕ). product m.rows m.width x) is.database_is
    (asked ∙ ap (λ xs. query xs t w.rows block i) (c ∙ is.coins_are) ∙ ap₂ (λ x y. query (coins_of w) x w.rows y i) k b)

-- the payload of a server that is honest, and of one that lies
pub payload-honest : (w : Workload) (i : ℕ) → i ≤ honest w → payload w i ≡ honest_payload w i
unfolding payload
payload-honest w i few = ap (λ t. cond t (honest_payload w i) (lie w (i - honest w - 1))) (le-leb i (honest w) few)

-- a server behind the honest ones lies
pub payload-lie : (w : Workload) (i : ℕ) → honest w < i → payload w i ≡ lie w (i - honest w - 1)
unfolding payload
payload-lie w i more = ap (λ t. cond t (honest_payload w i) (lie w (i - honest w - 1))) (lt-leb i (honest w) more)

-- place v of so many
among : (v count width : ℕ) → v < count → v * width + (width + (count - v - 1) * width) ≡ count * width
among v count width lt =
    let left : ℕ = count - v - 1 in
    let all : v + (1 + left) ≡ count = omega (arith, lt) in
    let spread : v * width + (width + left * width) ≡ (v + (1 + left)) * width = grind arith in
    spread ∙ ap (λ n. n * width) all

-- the payload of a liar, among those of all liars
pub lie_among : (w : Workload) (lies : List ℕ) (v : ℕ) → lies ≡ drawn w.seed (lies_from w) (w.liars * w.width) → v < w.liars → take w.width (drop (v * w.width) lies) ≡ lie w v
lie_among w lies v is lt =
    let key = key_by w.seed in
    let left : ℕ = (w.liars - v - 1) * w.width in
    let all = among v w.liars w.width lt in
    ap (λ (xs : List ℕ). take w.width (drop (v * w.width) xs)) is
    ∙ ap (take w.width) (drop-stream_bytes key (lies_from w) (lies_from w + v * w.width) (v * w.width) (w.width + left) (w.liars * w.width) refl all)
    ∙ take-stream_bytes key (lies_from w + v * w.width) w.width (w.width + left) (omega arith)

-- the payloads of the liars are so many bytes
pub lie_fits : (w : Workload) (lies : List ℕ) (v : ℕ) → lies ≡ drawn w.seed (lies_from w) (w.liars * w.width) → v < w.liars → v * w.width + w.width ≤ length lies
lie_fits w lies v is lt =
    let all = among v w.liars w.width lt in
    let size = ap length is ∙ length-stream_bytes (key_by w.seed) (lies_from w) (w.liars * w.width) in
    omega (arith, all, size)

-- a lie is as long as a row
pub length-lie : (w : Workload) (v : ℕ) → length (lie w v) ≡ w.width
length-lie w v = length-stream_bytes (key_by w.seed) (lies_from w + v * w.width) w.width

-- a payload has a byte for each column
pub length-payload : (w : Workload) (i : ℕ) → length (payload w i) ≡ w.width
unfolding product
length-payload w i = elim (cases_lt (honest w) i) [
  | inl more ↦ ap length (payload-lie w i more) ∙ length-lie w (i - honest w - 1)
  | inr few ↦ ap length (payload-honest w i few) ∙ length-map-range_with_len _ 0 w.width
]

-- answers whose payloads lie one after another
pub answers_of-each : (width : ℕ) (f : ℕ → List ℕ) (indices : List ℕ) → ((i : ℕ) → length (f i) ≡ width)
    → answers_of width indices (flat_map f indices) ≡ map (λ i. record { index = i; payload = f i }) indices
answers_of-each width f [] sizes = refl
answers_of-each width f (i ∷ indices) sizes =
    let rest = flat_map f indices in
    let whole : flat_map f (i ∷ indices) ≡ f i ++ rest = flat_map-cons f i indices in
    let first : take width (f i ++ rest) ≡ f i = ap (λ n. take n (f i ++ rest)) (sym (sizes i)) ∙ take-append_seam (f i) rest in
    let others : drop width (f i ++ rest) ≡ rest = ap (λ n. drop n (f i ++ rest)) (sym (sizes i)) ∙ drop-append_seam (f i) rest in
    ap (answers_of width (i ∷ indices)) whole
    ∙ ap₂ (λ (p : List ℕ) (more : List Answer). record { index = i; payload = p } ∷ more) first (ap (answers_of width indices) others ∙ answers_of-each width f indices sizes)

-- their bytes are as many as the indices, times the width
pub length-each : (width : ℕ) (f : ℕ → List ℕ) (indices : List ℕ) → ((i : ℕ) → length (f i) ≡ width) → length (flat_map f indices) ≡ length indices * width
length-each width f [] sizes = grind arith
length-each width f (i ∷ indices) sizes =
    let ih = length-each width f indices sizes in
    let size = sizes i in
    let whole = ap length (flat_map-cons f i indices) ∙ length-append (f i) (flat_map f indices) in
    let next : length (i ∷ indices) * width ≡ width + length indices * width = grind arith in
    omega (arith, ih, size, whole, next)

-- one number more
pub range_with_len_more : (a n j : ℕ) → a + n ≡ j → range_with_len a (n + 1) ≡ range_with_len a n ++ j ∷ []
range_with_len_more a n j next =
    sym (map-id (range_with_len a (n + 1))) ∙ map-range_with_len_more (λ x. x) a n j next ∙ ap (λ (xs : List ℕ). xs ++ j ∷ []) (map-id (range_with_len a n))

-- the next number from 1 on
range_next : (next : ℕ) → 1 ≤ next → range_with_len 1 (next + 1 - 1) ≡ range_with_len 1 (next - 1) ++ next ∷ []
range_next next begun = ap (range_with_len 1) (omega (arith, begun)) ∙ range_with_len_more 1 (next - 1) next (omega (arith, begun))

-- the indices with it
pub index_next : (next : ℕ) (before after : List ℕ) → 1 ≤ next → before ≡ range_with_len 1 (next - 1) → after ≡ before ++ next ∷ [] → after ≡ range_with_len 1 (next + 1 - 1)
index_next next before after begun so_far more = more ∙ ap (λ (xs : List ℕ). xs ++ next ∷ []) so_far ∙ sym (range_next next begun)

-- what it stands for, behind what the numbers before it do
pub each_next : (f : ℕ → List ℕ) (next : ℕ) (before after one : List ℕ) → 1 ≤ next → before ≡ flat_map f (range_with_len 1 (next - 1)) → after ≡ before ++ one → one ≡ f next
    → after ≡ flat_map f (range_with_len 1 (next + 1 - 1))
each_next f next before after one begun so_far more is =
    more ∙ ap₂ ◌++◌ so_far is ∙ flat_map_more f [] (range_with_len 1 (next - 1)) next ∙ ap (flat_map f) (sym (range_next next begun))

-- numbers one after the other ascend
pub ascending-range : (a n : ℕ) → IsStrictlyIncreasing (range_with_len a n)
ascending-range a n = λ k lt.
    let size = length-range_with_len a n in
    let one = get_or-range_with_len a n k 0 (omega (arith, lt, size)) in
    let next = get_or-range_with_len a n (k + 1) 0 (omega (arith, lt, size)) in
    omega (arith, one, next)

-- and none of them is 0, from a number on that isn't
pub nonzero-range : (a n : ℕ) → 0 < a → All (λ i. i ≢ 0) (range_with_len a n)
nonzero-range a n some = λ k d lt.
    let size = length-range_with_len a n in
    let is = get_or-range_with_len a n k d (omega (arith, lt, size)) in
    λ none. omega (arith, is, none, some)

-- the payloads of all servers are so many bytes
pub size_of : (w : Workload) (all : ServerAnswers) → HasAnswered w w.servers all → length all.payloads.items ≡ w.servers * w.width
size_of w all held = ap length held.payloads ∙ length-each w.width (payload w) (range_with_len 1 w.servers) (length-payload w) ∙ ap (λ n. n * w.width) (length-range_with_len 1 w.servers)

-- and with the indices they are the answers
pub all_of : (w : Workload) (all : ServerAnswers) → HasAnswered w w.servers all → answers_of w.width all.indices.items all.payloads.items ≡ all_answers w
unfolding all_answers
all_of w all held = ap₂ (answers_of w.width) held.indices held.payloads ∙ answers_of-each w.width (payload w) (range_with_len 1 w.servers) (length-payload w)

-- ---- the verdict on them

-- there are as many answers as servers
pub length-all_answers : (w : Workload) → length (all_answers w) ≡ w.servers
unfolding all_answers
length-all_answers w = length-map-range_with_len _ 1 w.servers

-- what was decided on the answers, as they lie in two slices, is the verdict on them
pub decided_by : (w : Workload) (verdict : Verdict) (answers : List Answer) (t h : ℕ) → answers ≡ all_answers w
    → t ≡ w.degree → h ≡ w.agree → IsDecided answers w.width t h verdict → IsDecidedOn w verdict
decided_by w verdict answers t h same degree agree decided =
    let by_degree = subst (λ k. IsDecided answers w.width k h verdict) degree decided in
    let by_agree = subst (λ k. IsDecided answers w.width w.degree k verdict) agree by_degree in
    subst (λ (xs : List Answer). IsDecided xs w.width w.degree w.agree verdict) same by_agree
