-- The header of a session that comes in pieces, and what is read behind it.
use Rattle.std.proofs.Common.{◌≡◌, ℕ, ◌+◌, ◌-◌, ◌<◌, ◌≤◌, List, [], ◌++◌, length, take, drop, min, sym, subst, ap, ap₂, ◌∙◌, arith, append_assoc, length-append}
use Rattle.std.specs.Prelude.{Result, Err}
use Rattle.std.proofs.lemmas.List.{length-take, take-append-drop, take-append-le, take_all, take_rest}
use Rattle.wire_frames.specs.declared.sizes.TheConstants.{SESSION_HEADER_LEN}
use Rattle.wire_frames.specs.declared.session.SessionParams.{SessionParams}
use Rattle.wire_frames.specs.Form.{Starts, Reads}
use Rattle.wire_frames.specs.Layout.{IsHeader}
use Rattle.wire_frames.specs.RecordsReader.{Refuses}
use Rattle.wire_frames.specs.Session.{header_bytes}
use Rattle.wire_frames.proofs.Beginnings.{header_begins, header_part}
use Rattle.wire_frames.proofs.PartialHeaders.{IsBehind, place_behind, head_refuses, head_goes_on, refuses_more}
use Rattle.wire_frames.proofs.Parsing.{length-header}

-- at the prefix of a session stands its header
header_behind : IsBehind IsHeader 28 []
header_behind = record {
  sized = λ bytes p h. ap length h.spelled ∙ length-header p;
  begins = header_begins;
  part = header_part;
}

-- A PIECE OF A HEADER: as many bytes of it as the header still lacks
pub record IsHeaderPiece (old piece : List ℕ) (count : ℕ) (head : List ℕ) : Type 0 where
  pub short : length old < SESSION_HEADER_LEN
  pub right : Starts IsHeader old
  pub count_is : count ≡ min (28 - length old) (length piece)
  pub head_is : head ≡ old ++ take count piece

-- what is read of bytes is read of the same bytes under another name
reads_same : (head read : List ℕ) (result : Result SessionParams ℕ) → read ≡ head → Reads IsHeader read result → Reads IsHeader head result
reads_same head read result e h = subst (λ (l : List ℕ). Reads IsHeader l result) e h

-- the bytes before the piece were right
pub piece_after : (old piece : List ℕ) (count : ℕ) (head read : List ℕ) (place : ℕ) → IsHeaderPiece old piece count head → read ≡ head → Reads IsHeader read (Err place) → length old ≤ place
piece_after old piece count head read place t e h =
    place_behind old (take count piece) place t.right (reads_same (old ++ take count piece) read (Err place) (e ∙ t.head_is) h).0

-- it stops being right
pub piece_refuses : (old piece : List ℕ) (count before : ℕ) (head read : List ℕ) (place : ℕ) → IsHeaderPiece old piece count head → read ≡ head → before ≡ length old
    → Reads IsHeader read (Err place) → place < length head → Refuses old piece (place - before)
piece_refuses old piece count before head read place t e is_before h within =
    let stops = reads_same (old ++ take count piece) read (Err place) (e ∙ t.head_is) h in
    subst (λ (n : ℕ). Refuses old piece (place - n)) (sym is_before)
    (head_refuses 28 [] old piece count place header_behind (omega (arith, t.count_is)) (omega (arith, t.count_is, t.short)) t.right stops.0
    (subst (λ (l : List ℕ). place < length l) t.head_is within))

-- it is right, and not yet whole
pub piece_goes_on : (old piece : List ℕ) (count : ℕ) (head read : List ℕ) (place : ℕ) → IsHeaderPiece old piece count head → read ≡ head → Reads IsHeader read (Err place)
    → length head ≤ place → (head ≡ old ++ piece) × (length head < SESSION_HEADER_LEN) × Starts IsHeader head
piece_goes_on old piece count head read place t e h all =
    let reads = reads_same head read (Err place) e h in
    let goes = head_goes_on 28 head place header_behind.sized reads.0 all reads.1 in
    let whole : take count piece ≡ piece = take_all count piece (omega (arith, t.count_is, goes.0, ap length t.head_is, length-append old (take count piece), length-take count piece)) in
    (t.head_is ∙ ap (λ (l : List ℕ). old ++ l) whole, goes.0, goes.1)

-- it is whole, and is given back for want of memory
pub none_taken : (old piece filled read new : List ℕ) (count before : ℕ) (params : SessionParams) → new ≡ take before filled → before ≡ length old → filled ≡ old ++ take count piece → read ≡ filled → IsHeader read params
    → (new ≡ old) × (SESSION_HEADER_LEN ≤ length (old ++ piece))
none_taken old piece filled read new count before params cut is_before is is_read header = (
  cut ∙ ap₂ (λ (n : ℕ) (l : List ℕ). take n l) is_before is ∙ take-append-le (length old) old (take count piece) (omega arith) ∙ take_all (length old) old (omega arith),
  omega (arith, ap length header.spelled ∙ length-header params, ap length is_read, ap length is, length-append old (take count piece), length-append old piece, length-take count piece),
)

-- THE HEADER IS WHOLE, and the records behind it are read: what they make of the rest of the piece
pub record IsWhole (old piece : List ℕ) (count : ℕ) (head read seen : List ℕ) (params : SessionParams) : Type 0 where
  pub piece_is : IsHeaderPiece old piece count head
  pub read_is : read ≡ head
  pub header : IsHeader read params
  pub seen_is : seen ≡ header_bytes params

-- where a piece has the end of the header, the bytes seen are those before and the first of the piece
whole_seen : (old piece : List ℕ) (count : ℕ) (head read seen : List ℕ) (params : SessionParams) → IsWhole old piece count head read seen params → seen ≡ old ++ take count piece
whole_seen old piece count head read seen params t = t.seen_is ∙ sym t.header.spelled ∙ t.read_is ∙ t.piece_is.head_is

-- and the rest of the piece behind them makes the bytes before and the whole piece
pub whole_feeds : (old piece : List ℕ) (count : ℕ) (head read seen : List ℕ) (params : SessionParams) (new : List ℕ) → IsWhole old piece count head read seen params
    → new ≡ seen ++ take (length piece - count) (drop count piece) → new ≡ old ++ piece
whole_feeds old piece count head read seen params new t more =
    more ∙ ap (λ (l : List ℕ). seen ++ l) (take_rest piece count) ∙ ap (λ (l : List ℕ). l ++ drop count piece) (whole_seen old piece count head read seen params t)
    ∙ append_assoc old (take count piece) (drop count piece) ∙ ap (λ (l : List ℕ). old ++ l) (take-append-drop count piece)

-- and where that rest is refused at a place, so is the piece, as many places further on
pub whole_refuses : (old piece : List ℕ) (count : ℕ) (head read seen : List ℕ) (params : SessionParams) (right : ℕ) → IsWhole old piece count head read seen params
    → Refuses seen (take (length piece - count) (drop count piece)) right → Refuses old piece (count + right)
whole_refuses old piece count head read seen params right t h =
    refuses_more old seen piece count right (whole_seen old piece count head read seen params t) (subst (λ (l : List ℕ). Refuses seen l right) (take_rest piece count) h)
