-- Honest shards answer as one server of all rows.
use Rattle.std.proofs.Common.{◌≡◌, ◌∙◌, ℕ, ◌+◌, ◌*◌, ◌<◌, List, [], ◌++◌, length, get_or, refl, sym, ap, subst}
use Rattle.std.specs.Prelude.{Bool, true, false, Option, Some, None}
use Rattle.gf256.specs.Product.{IsMatrix, product}
use Rattle.port_trait.specs.World.{World}
use Rattle.port_trait.specs.Number.{link}
use Rattle.port_trait.proofs.Rises.{once_rose}
use Rattle.wire_frames.specs.declared.header.QueryHeader.{QueryHeader}
use Rattle.wire_frames.specs.declared.scheme.TheConstants.{SHAMIR}
use Rattle.wire_frames.specs.Header.{answer_header}
use Rattle.wire_frames.specs.Turns.{in_turn, piece}
use Rattle.serve_core.specs.declared.terms.Terms.{Terms}
use Rattle.serve_core.specs.Service.{terms_of as served_by}
use Rattle.serve_core.specs.Case.{IsCut, Refuses}
use Rattle.serve_core.specs.Reply.{Replies}
use Rattle.serve_core.specs.Taking.{IsGood, IsQueryOf}
use Rattle.serve_core.specs.declared.met.Met.TheVariants.{Served as IsServed, Refused as IsRefused, Gone as IsGone}
use Rattle.shard_front.specs.declared.relayed.Relayed.{Relayed}
use Rattle.shard_front.specs.declared.relayed.Relayed.TheVariants.{Served, Refused, Gone, GuestFault, ShardLost}
use Rattle.shard_front.specs.Spread.{IsSpread, Spread, shards, terms_of}
use Rattle.shard_front.specs.Relay.{Counts, FrontsTold, GivesRelay, IsRelay, Links, RelaysLoss, RelaysSum, Visit, payload_at, payload_from, visit_of}
use Rattle.shard_front.specs.Honest.{AreHonest, HonestTold, IsReplyOf, server_of}
use Rattle.shard_front.proofs.HonestParts.{honest_payload, honest_usable, length-vectors, replies_products}
use Rattle.shard_front.proofs.ShardProducts.{combined_products, whole}

-- two payloads that are one
same_some : (a b : List ℕ) → Some a ≡ Some b → a ≡ b
same_some a b e = cc

-- a payload that is there isn't lost
some_or_none : (a : List ℕ) (o : Option (List ℕ)) → o ≡ Some a → o ≡ None → ⊥
some_or_none a None e f = absurd (cc)
some_or_none a (Some b) e f = absurd (cc)

-- a link whose count didn't rise didn't fail
not_failed : (b : Bool) (before after : ℕ) → (Counts true before after → ⊥) → Counts b before after → b ≡ false
not_failed true before after none rose = absurd (none rose)
not_failed false before after none same = refl

module _ (spread : Spread) (is : IsSpread spread) (matrix : List (List ℕ)) (is_matrix : IsMatrix matrix spread.rows spread.width)
    (guest : List ℕ) (links : Links) (none : (i : ℕ) → i < shards spread → links.failed i ≡ false)
    (honest : AreHonest spread matrix guest links.held) where
  -- the front takes the queries that the server of all rows takes
  same_terms : terms_of spread ≡ served_by (server_of spread matrix)
  same_terms = ap (λ (n : ℕ). let t : Terms = record { scheme = SHAMIR; rows = n; width = spread.width } in t) (sym is_matrix.rows)

  module _ (query : QueryHeader) (vectors : List ℕ) (good : IsGood (terms_of spread) query) (asks : IsQueryOf (terms_of spread) query vectors guest) where
    -- the guest's query, at that server
    asks_one : IsQueryOf (served_by (server_of spread matrix)) query vectors guest
    asks_one = subst (λ (t : Terms). IsQueryOf t query vectors guest) same_terms asks

    -- its vectors are whole
    long : length vectors ≡ query.count * spread.rows
    long = length-vectors spread matrix query good.range vectors guest asks_one ∙ ap (λ (n : ℕ). query.count * n) is_matrix.rows

    -- each shard gives its honest payload
    gives_honest : (i : ℕ) (there : i < shards spread)
        → payload_at spread query links i ≡ Some (honest_payload spread is matrix is_matrix.rows query good vectors long i there)
    gives_honest i there =
        ap (payload_from spread query i (links.held i)) (none i there)
        ∙ honest_usable spread is matrix is_matrix.rows query good vectors long i there (links.held i) (honest query vectors good asks i there)

  -- all answered: the frame is the reply of the server of all rows
  of_sum : (frame : List ℕ) → RelaysSum spread guest links frame → IsReplyOf (server_of spread matrix) guest Served frame
  of_sum frame r =
      let rows = is_matrix.rows in
      let asks = asks_one r.query r.vectors r.good r.asks in
      let each : (i : ℕ) → i < shards spread → get_or r.payloads i [] ≡ _
      = λ i there. same_some _ _ (sym (r.give.each i there) ∙ gives_honest r.query r.vectors r.good r.asks i there) in
      let sum = combined_products spread is matrix rows r.query.count r.vectors r.payloads r.give.count each in
      let wide : whole spread is matrix rows r.query.count r.vectors ≡ in_turn r.query.count (λ v. product matrix spread.width (piece (length matrix) v r.vectors)) =
      ap (λ (n : ℕ). in_turn r.query.count (λ v. product matrix spread.width (piece n v r.vectors))) (sym rows) in
      record {
        by = IsServed;
        met_is = refl;
        replies = subst (λ (l : List ℕ). Replies (server_of spread matrix) guest IsServed l)
            (sym (r.frame_is ∙ ap (λ (l : List ℕ). answer_header r.query 0 ++ l) (sum ∙ wide)))
            (replies_products spread matrix r.query r.good.range r.vectors guest asks);
      }

  -- no shard is lost
  of_loss : (number : ℕ) (frame : List ℕ) → RelaysLoss spread guest links number frame → ⊥
  of_loss number frame r = some_or_none _ _ (gives_honest r.query r.vectors r.good r.asks r.place r.there) r.lost

  -- and so the guest is met as by the server of all rows
  pub relay_is_reply : (met : Relayed) (frame : List ℕ) → IsRelay spread guest links met frame → IsReplyOf (server_of spread matrix) guest met frame
  relay_is_reply Served frame r = of_sum frame r
  relay_is_reply (ShardLost number) frame r = absurd (of_loss number frame r)
  relay_is_reply (Refused status) frame (refuses, frame_is) = record {
    by = IsRefused status;
    met_is = refl;
    replies = (subst (λ (t : Terms). Refuses t guest status) same_terms refuses, frame_is);
  }
  relay_is_reply Gone frame (cut, frame_is) = record {
    by = IsGone;
    met_is = refl;
    replies = (subst (λ (t : Terms). IsCut t guest) same_terms cut, frame_is);
  }
  relay_is_reply GuestFault frame r = absurd r

-- the guest was given the whole frame, unless the count of Guest rose
gave_whole : (spread : Spread) (links : Links) (met : Relayed) (visit : Visit) → (Counts true visit.before visit.after → ⊥)
    → GivesRelay spread links met visit → IsRelay spread visit.guest links met visit.out
gave_whole spread links Served visit none g = g.1
gave_whole spread links (ShardLost number) visit none g = g.1
gave_whole spread links (Refused status) visit none g = g.1
gave_whole spread links Gone visit none g = g.1
gave_whole spread links GuestFault visit none g = absurd (none g.0)

-- by what is told
pub honest_told : (spread : Spread) (met : Relayed) (w u : World) → IsSpread spread → FrontsTold spread met w u → HonestTold spread met w u
honest_told spread met w u is told matrix guest held before is_matrix holds accepted links none =
    let t = told guest held before holds accepted links in
    let of : Links = record { held = held; failed = t.failed } in (
      t.out,
      t.accepted,
      λ honest. relay_is_reply spread is matrix is_matrix guest of
          (λ i there. not_failed (t.failed i) (w.at (link 1 + i)).faults (u.at (link 1 + i)).faults (λ once. none.links i there (once_rose _ _ once)) (t.links.failed i there))
          honest met t.out (gave_whole spread of met (visit_of guest t.out w u) (λ once. none.guest (once_rose _ _ once)) t.gives),
    )
