-- What an honest server replies to a good query, and to the part of one for its shard.
use Rattle.std.proofs.Common.{◌≡◌, ◌∙◌, ℕ, zero, suc, ◌+◌, ◌*◌, ◌<◌, ◌≤◌, ◌||◌, Bool, false, List, ◌++◌, length, take, drop, Some}
use Rattle.std.proofs.Common.{refl, sym, ap, ap₂, subst, arith, length-append, length-drop}
use Rattle.std.proofs.Math.Seq.{drop-append_seam, take-append_seam}
use Rattle.std.proofs.lemmas.List.{length-take-le, take_all}
use Rattle.gf256.specs.Product.{product}
use Rattle.wire_frames.specs.declared.sizes.TheConstants.{FRAME_HEADER_LEN}
use Rattle.wire_frames.specs.declared.header.QueryHeader.{QueryHeader}
use Rattle.wire_frames.specs.declared.scheme.TheConstants.{SHAMIR}
use Rattle.wire_frames.specs.Answer.{usable}
use Rattle.wire_frames.specs.Header.{answer_header, blocks_in, query_header}
use Rattle.wire_frames.specs.Limits.{IsQuery}
use Rattle.wire_frames.specs.Scheme.{scheme_of}
use Rattle.wire_frames.specs.Sizes.{answer_len}
use Rattle.wire_frames.specs.Turns.{in_turn, piece}
use Rattle.wire_frames.proofs.Answering.{answer_to_query, blocks_in_query}
use Rattle.wire_frames.proofs.Turns.{in_turn-same, length-in_turn, length-piece, piece-in_turn, piece_fits}
use Rattle.serve_core.specs.Terms.{terms_for}
use Rattle.serve_core.specs.Service.{terms_of as served_by}
use Rattle.serve_core.specs.Case.{asked_of, header_of, payload, some_sets_unused}
use Rattle.serve_core.specs.Reply.{Replies, answer_frame, answers}
use Rattle.serve_core.specs.Taking.{IsGood, IsQueryOf}
use Rattle.serve_core.specs.declared.met.Met.TheVariants.{Served as IsServed}
use Rattle.serve_core.proofs.OneReply.{one_reply}
use Rattle.shard_front.specs.Spread.{IsSpread, Spread, rows_in, shards, terms_of}
use Rattle.shard_front.specs.Parts.{header_to, part_for, slice_at, slices_for}
use Rattle.shard_front.specs.Honest.{BeginsWithReply, rows_at, server_of}
use Rattle.shard_front.proofs.ShardProducts.{length-product, length-rows_at, payload_of}
use Rattle.shard_front.proofs.Spreads.{header_range, rows_within}
use Rattle.shard_front.proofs.Usable.{usable_frame}

-- no vector of Shamir's scheme has unused bits
none_unused : (rows width n : ℕ) (vectors : List ℕ) → some_sets_unused (terms_for SHAMIR rows width) n vectors ≡ false
unfolding some_sets_unused scheme_of
none_unused rows width zero vectors = refl
none_unused rows width (suc n) vectors = ap (λ (b : Bool). b || false) (none_unused rows width n vectors)

-- a good query of Shamir's scheme, which begins the bytes of a guest of the server of these rows
module _ (spread : Spread) (rows : List (List ℕ)) (query : QueryHeader) (range : IsQuery query) (vectors guest : List ℕ)
    (asks : IsQueryOf (served_by (server_of spread rows)) query vectors guest) where
  -- it asks for so many blocks
  pub asked_is : asked_of guest ≡ query.count
  asked_is = ap blocks_in asks.header ∙ blocks_in_query (query_header query) query (record { range = range; spelled = refl })

  -- it has a vector for each
  pub length-vectors : length vectors ≡ query.count * length rows
  unfolding scheme_of
  length-vectors =
      let enough : FRAME_HEADER_LEN + asked_of guest * length rows ≤ length guest = asks.good.whole.enough in
      let rest = length-drop FRAME_HEADER_LEN guest in
      ap length asks.vectors_are
      ∙ length-take-le (asked_of guest * length rows) (drop FRAME_HEADER_LEN guest) (omega (arith, enough, rest))
      ∙ ap (λ (n : ℕ). n * length rows) asked_is

  -- what the server answers: the products of the vectors and its rows, one behind another
  abbrev pub products : List ℕ
  products = in_turn query.count (λ v. product rows spread.width (piece (length rows) v vectors))

  -- its answers are these
  answers_are : answers (server_of spread rows) (blocks_in (query_header query)) vectors ≡ products
  unfolding scheme_of
  answers_are = ap (λ (n : ℕ). in_turn n (λ v. product rows spread.width (piece (length rows) v vectors)))
      (blocks_in_query (query_header query) query (record { range = range; spelled = refl }))

  -- and so it replies
  pub replies_products : Replies (server_of spread rows) guest IsServed (answer_header query 0 ++ products)
  replies_products = (
    asks.good,
    sym (
        ap₂ (answer_frame (server_of spread rows)) asks.header (sym asks.vectors_are)
        ∙ ap₂ (λ (h l : List ℕ). h ++ l) (answer_to_query query 0 range.blocks.some_version range.blocks.two_versions) answers_are
        ),
  )

-- the part of a good query for the shard at place i
module _ (spread : Spread) (is : IsSpread spread) (matrix : List (List ℕ)) (rows : length matrix ≡ spread.rows) (query : QueryHeader)
    (good : IsGood (terms_of spread) query) (vectors : List ℕ) (long : length vectors ≡ query.count * spread.rows) (i : ℕ) (there : i < shards spread) where
  -- the rows of the shard
  abbrev own : List (List ℕ)
  own = rows_at spread i matrix

  -- the header of the part
  abbrev header : QueryHeader
  header = header_to spread query i

  -- its bytes
  abbrev part : List ℕ
  part = part_for spread query vectors i

  -- its payload
  abbrev slices : List ℕ
  slices = slices_for spread i query.count vectors

  -- so many rows are the shard's own
  own_rows : length own ≡ rows_in spread i
  own_rows = length-rows_at spread is matrix rows i there

  -- the header of the part is one of a query
  range : IsQuery header
  range = header_range spread is i there query good

  -- a slice has a byte for each of its rows
  length-slice : (v : ℕ) → v < query.count → length (slice_at spread i vectors v) ≡ rows_in spread i
  length-slice v few =
      let fits = piece_fits v query.count spread.rows few in
      let vector = length-piece spread.rows v vectors (omega (arith, fits, long)) in
      let within = rows_within spread is i there in
      length-take-le (rows_in spread i) (drop (i * spread.shard) (piece spread.rows v vectors))
      (omega (arith, within, vector, length-drop (i * spread.shard) (piece spread.rows v vectors)))

  -- so many bytes has the payload of the part
  length-slices : length slices ≡ query.count * rows_in spread i
  length-slices = length-in_turn query.count (rows_in spread i) (slice_at spread i vectors) length-slice

  -- it begins with the header
  begins : header_of part ≡ query_header header
  unfolding part_for
  begins = take-append_seam (query_header header) slices

  -- and ends with the slices
  rest : drop FRAME_HEADER_LEN part ≡ slices
  unfolding part_for
  rest = drop-append_seam (query_header header) slices

  -- so many bytes has the part
  size : length part ≡ FRAME_HEADER_LEN + query.count * rows_in spread i
  unfolding part_for
  size = length-append (query_header header) slices ∙ ap (λ (n : ℕ). FRAME_HEADER_LEN + n) length-slices

  -- it asks for as many blocks as the query
  asked : asked_of part ≡ query.count
  asked = ap blocks_in begins ∙ blocks_in_query (query_header header) header (record { range = range; spelled = refl })

  -- so many bytes does its payload take
  vectors_take : asked_of part * length own ≡ query.count * rows_in spread i
  vectors_take = ap₂ (λ (n m : ℕ). n * m) asked own_rows

  -- it is a good query to the server of the shard's rows
  asks : IsQueryOf (served_by (server_of spread own)) header slices part
  unfolding scheme_of
  asks = record {
    good = record {
      whole = record {
        suits = record {
          query = header;
          asks = record { whole = omega (arith, size); header = record { range = range; spelled = begins } };
          scheme = good.scheme;
          shape = record { rows = sym own_rows; width = good.shape.width };
        };
        enough = let take = vectors_take in omega (arith, size, take);
      };
      unused_is = none_unused (length own) spread.width (asked_of part) (payload (served_by (server_of spread own)) part);
    };
    header = begins;
    vectors_are = sym (ap₂ take vectors_take rest ∙ take_all (query.count * rows_in spread i) slices (omega (arith, length-slices)));
  }

  -- what that server answers
  abbrev pub honest_payload : List ℕ
  honest_payload = payload_of spread is matrix rows query.count vectors i

  -- its answers are the products of the slices
  products_are : products spread own header range slices part asks ≡ honest_payload
  products_are = in_turn-same query.count _ _ (λ v few.
      ap (product own spread.width) (ap (λ (n : ℕ). piece n v slices) own_rows
      ∙ piece-in_turn query.count (rows_in spread i) v (slice_at spread i vectors) length-slice few))

  -- and that is its reply
  pub part_replies : Replies (server_of spread own) part IsServed (answer_header header 0 ++ honest_payload)
  part_replies = subst (λ (l : List ℕ). Replies (server_of spread own) part IsServed (answer_header header 0 ++ l)) products_are
      (replies_products spread own header range slices part asks)

  -- which has a byte for each column of each block
  length-honest : length honest_payload ≡ query.count * spread.width
  length-honest = length-in_turn query.count spread.width (λ v. product own spread.width (slice_at spread i vectors v))
      (λ v few. length-product own spread.width (slice_at spread i vectors v))

  -- bytes that begin with its reply are a usable answer, with what it answers
  pub honest_usable : (bytes : List ℕ) → BeginsWithReply (server_of spread own) part bytes
      → usable (take (answer_len query.count spread.width) bytes) header ≡ Some honest_payload
  honest_usable bytes b =
      let frame = answer_header header 0 ++ honest_payload in
      let is : b.frame ≡ frame = (one_reply (server_of spread own) part b.met IsServed b.frame frame b.replies part_replies).1 in
      let wide = good.shape.width in
      let long_frame : length frame ≡ answer_len query.count spread.width
      = length-append (answer_header header 0) honest_payload ∙ ap (λ (n : ℕ). FRAME_HEADER_LEN + n) length-honest in
      let begins : take (answer_len query.count spread.width) bytes ≡ frame = ap (λ (n : ℕ). take n bytes) (sym long_frame ∙ ap length (sym is)) ∙ b.begins ∙ is in
      ap (λ (l : List ℕ). usable l header) begins
      ∙ usable_frame honest_payload header (length-honest ∙ ap (λ (n : ℕ). query.count * n) (sym wide))
