-- Reading a session from a source, piece by piece.
use Rattle.std.proofs.Common.{◌≡◌, ◌∙◌, ℕ, List, ◌++◌, length, take, sym, ap, subst, arith, append_assoc}
use Rattle.std.specs.Prelude.{Option, Some, None, Ok, Err}
use Rattle.std.proofs.Math.Seq.{take-append_seam}
use Rattle.std.proofs.lemmas.List.{length-take}
use Rattle.std.specs.Io.KnownBytes.{Consumes}
use Rattle.wire_frames.specs.declared.reader.FeedFault.{FeedFault}
use Rattle.wire_frames.specs.declared.reader.FeedFault.TheVariants.{BadSession, Memory as NoMemory}
use Rattle.wire_frames.specs.Reading.{Reading, SoFar, Feeds}
use Rattle.wire_frames.specs.Session.{IsSession}
use Rattle.wire_frames.proofs.StopPlaces.{stops-prefix, stops-none}
use Rattle.pir_show.specs.Reading.{ReadsAs, of_feed}

-- the reader has seen the bytes by which what a source has left is less than it was
pub record HasSeen (reader : Reading) (old left : Option (List ℕ)) : Type 0 where
  pub bytes : List ℕ
  pub still : reader ≡ SoFar bytes
  pub given : Consumes old left bytes

-- one piece, and then another
pub consumes_more : (o l k : Option (List ℕ)) (xs ys : List ℕ) → Consumes o l xs → Consumes l k ys → Consumes o k (xs ++ ys)
consumes_more None l k xs ys h more = tt
consumes_more (Some os) None k xs ys h more = absurd h
consumes_more (Some os) (Some ls) None xs ys h more = absurd more
consumes_more (Some os) (Some ls) (Some ks) xs ys h more = h ∙ ap (λ zs. xs ++ zs) more ∙ sym (append_assoc xs ys ks)

-- what was taken is the prefix of what there was
pub consumed_prefix : (os : List ℕ) (l : Option (List ℕ)) (xs : List ℕ) → Consumes (Some os) l xs → xs ≡ take (length xs) os
consumed_prefix os None xs h = absurd h
consumed_prefix os (Some ls) xs h = sym (take-append_seam xs ls) ∙ ap (take (length xs)) (sym h)

-- a piece that is refused
refused : (old next : Option (List ℕ)) (bytes piece : List ℕ) (fault : FeedFault) (new : Reading)
    → Consumes old next (bytes ++ piece) → Feeds (SoFar bytes) piece (Err fault) new → ReadsAs old (Err (of_feed fault))
refused None next bytes piece fault new all feeds = tt
refused (Some os) next bytes piece (BadSession place) new all feeds =
    let there = stops-prefix IsSession (bytes ++ piece) os place (consumed_prefix os next (bytes ++ piece) all) feeds.1 feeds.0 in
    let size = ap length (consumed_prefix os next (bytes ++ piece) all) in
    record { place_is = there; none = stops-none IsSession os place there (omega (arith, feeds.1, size, length-take (length (bytes ++ piece)) os)) }
refused (Some os) next bytes piece NoMemory new all feeds = tt

-- where a piece is refused, the bytes so far and it are read as that fault
pub seen_stops : (reader new : Reading) (old left next : Option (List ℕ)) (piece : List ℕ) (fault : FeedFault)
    → HasSeen reader old left → Consumes left next piece → Feeds reader piece (Err fault) new → ReadsAs old (Err (of_feed fault))
seen_stops reader new old left next piece fault seen more feeds =
    refused old next seen.bytes piece fault new (consumes_more old left next seen.bytes piece seen.given more)
    (subst (λ (r : Reading). Feeds r piece (Err fault) new) seen.still feeds)

-- a piece that is taken
pub seen_more : (reader new : Reading) (old left next : Option (List ℕ)) (piece : List ℕ) (done : Unit {0})
    → HasSeen reader old left → Consumes left next piece → Feeds reader piece (Ok done) new → HasSeen new old next
seen_more reader new old left next piece done seen more feeds = record {
  bytes = seen.bytes ++ piece;
  still = (subst (λ (r : Reading). Feeds r piece (Ok done) new) seen.still feeds).1;
  given = consumes_more old left next seen.bytes piece seen.given more;
}
