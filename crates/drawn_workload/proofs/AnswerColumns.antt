-- The answers of a workload, as columns of bytes.
use Rattle.std.proofs.Common.{◌≡◌, ℕ, ◌+◌, ◌<◌, ◌≤◌, List, length, get_or, refl, sym, ap, subst, arith, inl, inr}
use Rattle.std.specs.List.{All, range_with_len}
use Rattle.std.proofs.lemmas.Bool.{cases_lt}
use Rattle.std.proofs.lemmas.List.Elements.{All-map}
use Rattle.std.proofs.lemmas.List.FromFn.{get_or-map-range_with_len, get_or-range_with_len, length-map-range_with_len, length-range_with_len}
use Rattle.gf256.specs.Product.{product, product_at}
use Rattle.gf256.proofs.FieldLaws.{mul_lt}
use Rattle.gf256.proofs.Sums.{sum_to-lt}
use Rattle.wire_frames.specs.Answer.{Answer}
use Rattle.block_decoder.specs.Agreed.{HasColumns}
use Rattle.drawn_workload.specs.Stream.{key_by}
use Rattle.drawn_workload.specs.Workload.{database_of, honest, payload, all_answers}
use Rattle.drawn_workload.specs.declared.order.Workload.{Workload}
use Rattle.drawn_workload.proofs.StreamBytes.{small-stream_bytes}
use Rattle.drawn_workload.proofs.Workloads.{length-payload, payload-honest, payload-lie}

-- a product has bytes alone
small-product : (rows : List (List ℕ)) (width : ℕ) (q : List ℕ) → All (λ b. b < 256) (product rows width q)
unfolding product product_at
small-product rows width q = All-map (λ (b : ℕ). b < 256) (product_at q rows) (range_with_len 0 width) (λ c d lt. sum_to-lt _ (length rows) (λ j l. mul_lt _ _))

-- so has what a server answers
small-payload : (w : Workload) (i : ℕ) → All (λ b. b < 256) (payload w i)
small-payload w i = elim (cases_lt (honest w) i) [
  | inl more ↦ subst (All (λ b. b < 256)) (sym (payload-lie w i more)) (small-stream_bytes (key_by w.seed) _ w.width)
  | inr few ↦ subst (All (λ b. b < 256)) (sym (payload-honest w i few)) (small-product (database_of w).rows w.width _)
]

-- the answer of server i
abbrev pub answer_by : Workload → ℕ → Answer
answer_by w i = record { index = i; payload = payload w i }

-- they are columns of bytes, by servers that differ
pub columns-all_answers : (w : Workload) → w.servers ≤ 255 → HasColumns w.width (all_answers w)
unfolding all_answers
columns-all_answers w few =
    let all = range_with_len 1 w.servers in
    let size = length-map-range_with_len (answer_by w) 1 w.servers in
    record {
      filled = All-map (λ (a : Answer). length a.payload ≡ w.width) (answer_by w) all (λ k d lt. length-payload w (get_or all k d));
      bytes = All-map (λ (a : Answer). All (λ b. b < 256) a.payload) (answer_by w) all (λ k d lt. small-payload w (get_or all k d));
      indices = All-map (λ (a : Answer). a.index < 256) (answer_by w) all (λ k d lt.
          let n = length-range_with_len 1 w.servers in
          let is = get_or-range_with_len 1 w.servers k d (omega (arith, lt, n)) in
          omega (arith, is, lt, n, few));
      different = λ i j d before within same.
          let one = ap (λ (a : Answer). a.index) (get_or-map-range_with_len (answer_by w) 1 w.servers i (1 + i) d (omega (arith, before, within, size)) refl) in
          let other = ap (λ (a : Answer). a.index) (get_or-map-range_with_len (answer_by w) 1 w.servers j (1 + j) d (omega (arith, within, size)) refl) in
          omega (arith, one, other, same, before);
    }
