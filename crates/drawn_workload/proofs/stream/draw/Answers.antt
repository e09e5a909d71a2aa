use Rattle.std.proofs.Common.{◌≡◌, ◌∙◌, ◌*◌, ◌+◌, ◌-◌, ◌++◌, ℕ, List, length, take, sym, ap, ap₂, subst, arith}
use Rattle.rand_chacha.specs.ChaCha.{ChaCha, key_of}
use Rattle.drawn_workload.specs.Stream.{drawn, key_by, stream_bytes}
use Rattle.drawn_workload.proofs.StreamBytes.{kept_in_room, with_piece}
use Rattle.block_matrix.proofs.Pieces.{whole_again}
use Rattle.drawn_workload.proofs.stream.draw.Goals as goal

pub pieces-init : goal.pieces-init
unfolding stream_bytes
pieces-init c =
    let none = c.in_ok-bytes.ensures.len in
    record {
      few = omega (arith, none);
      so_far = c.in_ok-bytes.ensures.items ∙ ap (drawn c.args.seed 0) (sym none);
      key = ap (λ (g : ChaCha). g.key) c.from_seed-rng.ensures ∙ ap key_of c.key_bytes.ensures;
      first_stream = ap (λ (g : ChaCha). g.stream) c.from_seed-rng.ensures;
      within = omega (arith, ap (λ (g : ChaCha). g.word_pos) c.from_seed-rng.ensures);
      words = λ more. omega (arith, ap (λ (g : ChaCha). g.word_pos) c.from_seed-rng.ensures, none);
    }

pub pieces-preserved : goal.pieces-preserved
pieces-preserved c =
    let before = c.pieces.bytes.items in
    let room = c.deref_mut.result.now in
    let after = c.draw_rest.new.bytes in
    let held = c.pieces.invariant in
    let start : c.len-start.result ≡ length before = c.len-start.ensures ∙ c.pieces.bytes.ok.0 in
    let now : c.pieces.bytes.len ≡ length before = c.pieces.bytes.ok.0 in
    let size : length room ≡ c.resize.new.self.len = c.deref_mut.ensures.len in
    let whole = c.in_ok-resize.ensures.len in
    let more = c.min-more.ensures in
    let words = held.words (omega (arith, c.pieces-test.true, c.len.ensures)) in
    let place : length before ≡ 4 * c.pieces.rng.word_pos = omega (arith, now, words) in
    let kept : take (length before) room ≡ before =
    ap (take (length before)) (c.deref_mut.ensures.value ∙ c.in_ok-resize.ensures.items)
    ∙ kept_in_room before _ (c.len-start.result + c.min-more.result) (omega (arith, start)) in
    let is = subst (λ (k : ℕ). after ≡ take k room ++ stream_bytes c.pieces.rng.key (4 * c.pieces.rng.word_pos) (length room - k)) start c.draw_rest.ensures.bytes in
    let all = with_piece c.pieces.rng.key before room after (length before) c.pieces.rng.word_pos
    (held.so_far ∙ ap (stream_bytes (key_by c.args.seed) 0) now ∙ ap (λ (k : List ℕ). stream_bytes k 0 (length before)) (sym held.key))
    place (omega (arith, size, whole, start)) kept is in
    let back = whole_again c.resize.new.self.len after c.resize.new.self.items (c.draw_rest.auto.bytes ∙ size) (sym c.resize.new.self.ok.0) in
    let key = ap (λ (g : ChaCha). g.key) c.draw_rest.ensures.place in
    let stream = ap (λ (g : ChaCha). g.stream) c.draw_rest.ensures.place in
    let word = ap (λ (g : ChaCha). g.word_pos) c.draw_rest.ensures.place in
    record {
      few = omega (arith, whole, more, c.pieces-test.true, c.len.ensures, c.len-start.ensures);
      so_far = back ∙ all ∙ ap₂ (λ (k : List ℕ) (n : ℕ). stream_bytes k 0 n) held.key size;
      key = key ∙ held.key;
      first_stream = stream ∙ held.first_stream;
      within = omega (arith, word, whole, more, size, held.within, c.pieces-test.true, c.len.ensures, c.len-start.ensures);
      words = λ further. omega (arith, further, word, whole, more, size, place, now, start);
    }
