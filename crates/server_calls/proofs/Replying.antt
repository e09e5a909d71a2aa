-- A reply to a guest, by what its bytes come to.
use Rattle.std.proofs.Common.{◌≡◌, ◌∙◌, inl, inr, ℕ, ◌+◌, ◌*◌, ◌/◌, List, [], ◌∷◌, ◌++◌, length, take, drop, refl, sym, ap, ap₂, subst, arith, length-append, length-drop}
use Rattle.std.specs.Prelude.{Result, Ok, Err, false}
use Rattle.std.proofs.lemmas.List.{length-take-le}
use Rattle.std.proofs.lemmas.List.FromFn.{length-map-range_with_len}
use Rattle.gf256.specs.Product.{product, product_at}
use Rattle.wire_frames.specs.declared.header.QueryHeader.{QueryHeader}
use Rattle.wire_frames.specs.declared.scheme.Scheme.{Scheme}
use Rattle.wire_frames.specs.declared.scheme.Scheme.TheVariants.{Shamir, Xor}
use Rattle.wire_frames.specs.declared.sizes.TheConstants.{FRAME_HEADER_LEN}
use Rattle.wire_frames.specs.Header.{answer_to, blocks_in}
use Rattle.wire_frames.specs.Scheme.{number_of, payload_len, scheme_of}
use Rattle.wire_frames.specs.Turns.{in_turn, piece}
use Rattle.wire_frames.proofs.Answering.{blocks_in_query}
use Rattle.wire_frames.proofs.Turns.{length-in_turn}
use Rattle.block_matrix.specs.Database.{Database, rows_of}
use Rattle.block_matrix.proofs.Rows.{length-rows_of}
use Rattle.chor_xor.proofs.ChosenSums.{length-chosen}
use Rattle.serve_core.specs.declared.met.Met.{Met}
use Rattle.serve_core.specs.declared.met.Met.TheVariants.{Served, Refused, Gone}
use Rattle.serve_core.specs.declared.terms.Terms.{Terms}
use Rattle.serve_core.specs.Case.{IsCut, IsWholeWith, Refuses, header_of, payload}
use Rattle.serve_core.specs.Reply.{Replies, answer, answers}
use Rattle.serve_core.specs.Service.{terms_of}
use Rattle.serve_core.specs.Stages.{IsSuited}
use Rattle.serve_core.specs.Terms.{terms_for}
use Rattle.server_calls.specs.declared.reply.ReplyRefusal.{ReplyRefusal}
use Rattle.server_calls.specs.declared.reply.ReplyRefusal.TheVariants.{Database as NoDatabase, Room}
use Rattle.server_calls.specs.Held.{database_of}
use Rattle.server_calls.specs.Reply.{AreWhole, Held, IsScheme, MayServe, RepliesInto, WritesFrame, answers_by, service_of}
use Rattle.server_calls.proofs.Guests.{scheme_back}

-- an answer to a vector has the width
length-answer : (scheme : Scheme) (m : Database) (vector : List ℕ) → length (answer scheme m vector) ≡ m.width
unfolding product
length-answer Shamir m vector = length-map-range_with_len (product_at vector m.rows) 0 m.width
length-answer Xor m vector = length-chosen m vector

-- so many have so many widths
pub length-answers : (bytes : List ℕ) (rows width : ℕ) (scheme : Scheme) (count : ℕ) (vectors : List ℕ)
    → length (answers_by bytes rows width scheme count vectors) ≡ count * width
length-answers bytes rows width scheme count vectors =
    length-in_turn count width (λ i. answer scheme (database_of bytes rows width) (piece (payload_len scheme rows) i vectors))
    (λ i l. length-answer scheme (database_of bytes rows width) (piece (payload_len scheme rows) i vectors))

-- the header of a reply has the bytes of one
pub length-reply : (h : List ℕ) (status : ℕ) (rest : List ℕ) → length h ≡ FRAME_HEADER_LEN → length (answer_to h status ++ rest) ≡ FRAME_HEADER_LEN + length rest
length-reply h status rest size =
    let all = length-append (answer_to h status) rest in
    let middle = length-take-le 2 (drop 5 h) (omega (arith, size, length-drop 5 h)) in
    let back = length-append (take 2 (drop 5 h)) (status ∷ drop 8 h) in
    omega (arith, size, all, middle, back, length-drop 8 h)

-- the number of a scheme is one
scheme_one : (scheme : Scheme) (number : ℕ) → number ≡ number_of scheme → IsScheme number
scheme_one Shamir number is = inl is
scheme_one Xor number is = inr is

-- what is written of a reply
pub with_reply : (h : Held) (guest old new : List ℕ) (met : Met) (frame : List ℕ) → MayServe h → Replies (service_of h) guest met frame
    → (result : Result (Met × ℕ) ReplyRefusal) → WritesFrame frame met old new result → RepliesInto h guest old new result
with_reply h guest old new met frame may is (Ok done) written = (may, record { met = met; frame = frame; is = is; written = written })
with_reply h guest old new met frame may is (Err NoDatabase) written = absurd written
with_reply h guest old new met frame may is (Err (Room other wanted)) written = (may, record { met = met; frame = frame; is = is; written = written })

module _ (h : Held) (whole : AreWhole h.bytes h.width) (scheme : Scheme) (number : h.scheme ≡ number_of scheme)
    (bytes : List ℕ) (count width : ℕ) (bytes_are : bytes ≡ h.bytes) (count_is : count ≡ length h.bytes / h.width) (width_is : width ≡ h.width) where
  -- as many rows as the bytes have
  abbrev rows : ℕ
  rows = length h.bytes / h.width

  -- so many rows are there
  rows_are : length (rows_of h.width rows h.bytes) ≡ rows
  rows_are = length-rows_of h.width rows h.bytes

  -- the terms by which the guest is judged are the server's
  terms_are : terms_for (number_of scheme) count width ≡ terms_of (service_of h)
  terms_are =
      ap (λ (s : ℕ). terms_for s count width) (sym number)
      ∙ ap (λ (r : ℕ). terms_for h.scheme r width) (count_is ∙ sym rows_are)
      ∙ ap (λ (w : ℕ). terms_for h.scheme (length (rows_of h.width rows h.bytes)) w) width_is

  -- it may be served
  may : MayServe h
  may = (whole, scheme_one scheme h.scheme number)

  -- a guest is gone
  pub gone : (guest old : List ℕ) → IsCut (terms_for (number_of scheme) count width) guest → RepliesInto h guest old old (Ok (Gone, 0))
  gone guest old cut =
      with_reply h guest old old Gone [] may (subst (λ (t : Terms). IsCut t guest) terms_are cut, refl) (Ok (Gone, 0)) (refl, refl, omega arith, refl)

  -- it is refused
  pub refused : (guest old new header : List ℕ) (status : ℕ) → Refuses (terms_for (number_of scheme) count width) guest status → header ≡ header_of guest
      → (result : Result (Met × ℕ) ReplyRefusal) → WritesFrame (answer_to header status) (Refused status) old new result → RepliesInto h guest old new result
  refused guest old new header status is header_is result written =
      with_reply h guest old new (Refused status) (answer_to header status) may
      (subst (λ (t : Terms). Refuses t guest status) terms_are is, ap (λ (l : List ℕ). answer_to l status) header_is) result written

  -- it is served
  pub served : (guest old new header vectors : List ℕ) (query : QueryHeader) → IsWholeWith false (terms_for (number_of scheme) count width) guest
      → header ≡ header_of guest → IsSuited (terms_for (number_of scheme) count width) (header_of guest) query
      → vectors ≡ payload (terms_for (number_of scheme) count width) guest → (result : Result (Met × ℕ) ReplyRefusal)
      → WritesFrame (answer_to header 0 ++ answers_by bytes count width scheme query.count vectors) Served old new result
      → RepliesInto h guest old new result
  served guest old new header vectors query is header_is suited vectors_are result written =
      let own = scheme_of h.scheme in
      let own_is : scheme ≡ own = sym (ap scheme_of number ∙ scheme_back scheme) in
      let blocks : query.count ≡ blocks_in (header_of guest) = sym (blocks_in_query (header_of guest) query suited.is.is) in
      let vectors_is : vectors ≡ payload (terms_of (service_of h)) guest = vectors_are ∙ ap (λ (t : Terms). payload t guest) terms_are in
      let answers_are : answers_by bytes count width scheme query.count vectors
      ≡ answers (service_of h) (blocks_in (header_of guest)) (payload (terms_of (service_of h)) guest) =
      ap (λ (b : List ℕ). answers_by b count width scheme query.count vectors) bytes_are
      ∙ ap (λ (r : ℕ). answers_by h.bytes r width scheme query.count vectors) count_is
      ∙ ap (λ (w : ℕ). answers_by h.bytes rows w scheme query.count vectors) width_is
      ∙ ap (λ (s : Scheme). answers_by h.bytes rows h.width s query.count vectors) own_is
      ∙ ap (λ (k : ℕ). answers_by h.bytes rows h.width own k vectors) blocks
      ∙ ap (λ (v : List ℕ). answers_by h.bytes rows h.width own (blocks_in (header_of guest)) v) vectors_is
      ∙ ap (λ (r : ℕ). in_turn (blocks_in (header_of guest)) (λ i. answer own (database_of h.bytes rows h.width)
      (piece (payload_len own r) i (payload (terms_of (service_of h)) guest)))) (sym rows_are) in
      with_reply h guest old new Served (answer_to header 0 ++ answers_by bytes count width scheme query.count vectors) may (
        subst (λ (t : Terms). IsWholeWith false t guest) terms_are is,
        ap₂ (λ (x y : List ℕ). answer_to x 0 ++ y) header_is answers_are,
      ) result written

-- the payload of a good query has a vector for each block
pub length-vectors : (scheme : Scheme) (count width : ℕ) (guest vectors : List ℕ) (query : QueryHeader)
    → IsWholeWith false (terms_for (number_of scheme) count width) guest → IsSuited (terms_for (number_of scheme) count width) (header_of guest) query
    → vectors ≡ payload (terms_for (number_of scheme) count width) guest → length vectors ≡ query.count * payload_len scheme count
length-vectors scheme count width guest vectors query is suited vectors_are =
    let asked = blocks_in_query (header_of guest) query suited.is.is in
    let size = blocks_in (header_of guest) * payload_len (scheme_of (number_of scheme)) count in
    let enough = is.whole.enough in
    ap length vectors_are
    ∙ length-take-le size (drop FRAME_HEADER_LEN guest) (omega (arith, enough, length-drop FRAME_HEADER_LEN guest))
    ∙ ap₂ (λ (k v : ℕ). k * v) asked (ap (λ (s : Scheme). payload_len s count) (scheme_back scheme))
