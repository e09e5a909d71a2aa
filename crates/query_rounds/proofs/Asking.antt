-- Asking every server, and then taking the answer of each.
use Rattle.std.proofs.Common.{◌≡◌, ◌∙◌, inl, inr, ℕ, ◌+◌, ◌≤◌, ◌<◌, List, [], ◌∷◌, ◌++◌, length, take, set, slice_index_or, ap, ap₂, sym, subst, arith}
use Rattle.std.specs.Prelude.{Bool, true, false, Option, Some, None, IfSome}
use Rattle.std.proofs.lemmas.List.{get_or-append-add, get_or-set_other, get_or-set_same, get_or_append_left}
use Rattle.port_trait.specs.World.{Cell, World}
use Rattle.port_trait.specs.declared.port.TheConstants.{PORT_COUNT}
use Rattle.port_trait.specs.Number.{COINS, link}
use Rattle.port_trait.specs.Moves.{RoseOnce, Touches, took, counted}
use Rattle.port_trait.specs.Whole.{FailsShort}
use Rattle.port_trait.specs.Each.{TouchesRange}
use Rattle.port_trait.proofs.Ranges.{each_as, each_before, each_more, range_still}
use Rattle.port_trait.specs.Tossed.{Tossed}
use Rattle.quantity_limits.specs.declared.TheConstants.{MOST_SERVERS}
use Rattle.wire_frames.specs.Session.{Transcript}
use Rattle.query_rounds.specs.Plan.{params_of}
use Rattle.query_rounds.specs.Queries.{Queries, request_of}
use Rattle.query_rounds.specs.Request.{coins_needed}
use Rattle.query_rounds.specs.Sent.{address_at, frame_at, header_of, payload_of, queries_from, reply_len, sent, session_number}
use Rattle.query_rounds.specs.Link.{LinkAsked, LinkBreaks, LinkSent, LinkTaken, FailsToHand}
use Rattle.query_rounds.specs.Rounds.{SentAt, SentEach, SentTo, TakenEach, TakesNext}
use Rattle.query_rounds.specs.Gathered.{AskedEach, AsksWith, TouchesLinks}
use Rattle.query_rounds.proofs.Schemes.{payload_of_session}

-- a place before the last server is within a slice with a part for each
pub within : (from place end servers len : ℕ) → from ≡ place → place < end → end ≡ servers → len ≡ servers → from < len
within from place end servers len is below all size = omega (arith, is, below, all, size)

-- the loop that ended has been at every server
pub all_asked : (place end servers : ℕ) → place ≤ end → end ≤ place → end ≡ servers → place ≡ servers
all_asked place end servers most least all = omega (arith, most, least, all)

-- a call failed before the whole answer came
pub fails_to_hand : (p most : ℕ) (v u : World) → FailsShort p most v u → FailsToHand most (v.at p) (u.at p)
fails_to_hand p most v u failed = record {
  m = failed.after.n;
  fewer = failed.fewer;
  held = failed.after.held;
  cell = failed.after.cell;
  rose = failed.after.rose;
}

-- a link that was sent the frame, and whose answer was taken after that if it was reached, was asked
pub asked_in_rounds : (address frame : List ℕ) (most : ℕ) (reached : Bool) (answer : Option (List ℕ)) (old mid new : Cell)
    → LinkSent address frame reached old mid → LinkTaken most reached answer mid new
    → LinkAsked address frame most answer old new
asked_in_rounds address frame most true (Some bytes) old mid new sent taken = record {
  cell = taken.cell ∙ ap (took (length bytes)) sent;
  short = taken.short;
  told = subst (λ (c : Cell). IfSome c.holds (λ held. bytes ≡ take most held)) sent taken.told;
}
asked_in_rounds address frame most true None old mid new sent taken = record {
  how = inr (inr record {
    m = taken.m;
    fewer = taken.fewer;
    held = subst (λ (c : Cell). IfSome c.holds (λ held. taken.m ≤ length held)) sent taken.held;
    cell = taken.cell ∙ ap (λ (c : Cell). counted new.faults (took taken.m c)) sent;
  });
  rose = subst (λ (c : Cell). RoseOnce c.faults new.faults) sent taken.rose;
}
asked_in_rounds address frame most false answer old mid new sent taken =
    subst (λ (o : Option (List ℕ)). LinkAsked address frame most o old new) (sym taken.0)
    (subst (λ (c : Cell). LinkBreaks address frame most old c) (sym taken.1) record {
      how = elim sent.how [ inl unopened ↦ inl unopened | inr untaken ↦ inr (inl untaken) ];
      rose = sent.rose;
    })

-- where each server was sent its query, and then the answer of each was taken, each was asked
pub each_asked : (q : Queries) (n : ℕ) (reached : List Bool) (session : Transcript) (w v u : World)
    → SentEach q n reached w v → TakenEach (reply_len (request_of q)) n reached session v u
    → AskedEach (request_of q) q.coins n session w u
each_asked q n reached session w v u first second = record {
  each = λ i l. asked_in_rounds (address_at q i) (frame_at q i) (reply_len (request_of q))
      (slice_index_or reached i false) (slice_index_or session.records i None)
      (w.at (link 1 + i)) (v.at (link 1 + i)) (u.at (link 1 + i)) (first.each i l) (second.each i l);
}

-- one more server was sent its query
pub sent_more : (q : Queries) (n at : ℕ) (reached : List Bool) (mark : Bool) (w v u : World) → at ≡ n → at < length reached
    → n < MOST_SERVERS → SentEach q n reached w v → TouchesRange (link 1) n w v → SentTo q n mark v u → Touches (link 1 + n) v u
    → SentEach q (n + 1) (set reached at mark) w u
sent_more q n at reached mark w v u here within few first range last touch =
    let marks = set reached at mark in
    let marked : slice_index_or marks n false ≡ mark =
    ap (λ (k : ℕ). slice_index_or marks k false) (sym here) ∙ get_or-set_same reached at mark false within in
    each_more (λ i. SentAt q i (slice_index_or marks i false)) (link 1) n w v u (omega (arith, few))
    (each_as (λ i. SentAt q i (slice_index_or reached i false)) (λ i. SentAt q i (slice_index_or marks i false)) (link 1) n w v
    (λ i l c d s. subst (λ (was : Bool). SentAt q i was c d)
    (sym (get_or-set_other reached at i mark false (λ e. omega (arith, e, here, l)))) s) first)
    range touch (subst (λ (was : Bool). SentAt q n was (v.at (link 1 + n)) (u.at (link 1 + n))) (sym marked) last)

-- one more server's answer was taken
pub taken_more : (most n at : ℕ) (reached : List Bool) (was : Bool) (before after : Transcript) (w v u : World) → at ≡ n
    → was ≡ slice_index_or reached at false → length before.records ≡ n → n < MOST_SERVERS
    → TakenEach most n reached before w v → TouchesRange (link 1) n w v → TakesNext most was before after v u → Touches (link 1 + n) v u
    → TakenEach most (n + 1) reached after w u
taken_more most n at reached was before after w v u here was_is count few each range next touch =
    let Takes = λ (i : ℕ) (answer : Option (List ℕ)). LinkTaken most (slice_index_or reached i false) answer in
    let more = next.answer ∷ [] in
    let records = ap (λ (t : Transcript). t.records) next.session in
    let mark : was ≡ slice_index_or reached n false = was_is ∙ ap (λ (k : ℕ). slice_index_or reached k false) here in
    let last : slice_index_or after.records n None ≡ next.answer =
    ap (λ (l : List (Option (List ℕ))). slice_index_or l n None) records
    ∙ ap (λ (k : ℕ). slice_index_or (before.records ++ more) k None) (omega (arith, count)) ∙ get_or-append-add before.records more 0 None in
    let taken = subst (λ (k : ℕ). LinkTaken most was next.answer (v.at (link 1 + k)) (u.at (link 1 + k))) count next.taken in
    each_more (λ i. Takes i (slice_index_or after.records i None)) (link 1) n w v u (omega (arith, few))
    (each_as (λ i. Takes i (slice_index_or before.records i None)) (λ i. Takes i (slice_index_or after.records i None)) (link 1) n w v
    (λ i l c d s. subst (λ (o : Option (List ℕ)). Takes i o c d)
    (sym (ap (λ (rs : List (Option (List ℕ))). slice_index_or rs i None) records
    ∙ get_or_append_left before.records more None i (omega (arith, l, count)))) s) each)
    range touch
    (subst (λ (o : Option (List ℕ)). Takes n o (v.at (link 1 + n)) (u.at (link 1 + n))) (sym last)
    (subst (λ (b : Bool). LinkTaken most b next.answer (v.at (link 1 + n)) (u.at (link 1 + n))) mark taken))

-- two rounds over the same ports touch those alone
pub range_again : (base n : ℕ) (w v u : World) → TouchesRange base n w v → TouchesRange base n v u → TouchesRange base n w u
range_again base n w v u a b = record {
  others = λ q l out. b.others q l out ∙ a.others q l out;
  crowd = b.crowd ∙ a.crowd;
  started = b.started ∙ a.started;
}

-- a fetch that touched Coins, and then the links in two rounds, touched those alone
pub links_asked : (n : ℕ) (w v u z : World) → Touches COINS w v → TouchesRange (link 1) n v u → TouchesRange (link 1) n u z → TouchesLinks n w z
links_asked n w v u z touch first second = record {
  others = λ q l coins links. second.others q l links ∙ first.others q l links ∙ touch.others q l coins;
  crowd = second.crowd ∙ first.crowd ∙ touch.crowd;
  started = second.started ∙ first.started ∙ touch.started;
}

-- the coins were taken, each server was sent its query, and then the answer of each was taken: so each was asked
pub asks_with : (q : Queries) (reached marks : List Bool) (session : Transcript) (n most : ℕ) (w v u z : World) → marks ≡ reached
    → n ≡ q.plan.n → most ≡ reply_len (request_of q) → link 1 + q.plan.n ≤ PORT_COUNT
    → session.params ≡ params_of q.plan (length q.blocks) (session_number q.coins) → length session.records ≡ n
    → Tossed (coins_needed (request_of q)) q.coins (w.at COINS) (v.at COINS) → Touches COINS w v
    → SentEach q q.plan.n reached v u → TouchesRange (link 1) q.plan.n v u
    → TakenEach most n marks session u z → TouchesRange (link 1) n u z
    → AsksWith (request_of q) q.coins session w z
asks_with q reached marks session n most w v u z marks_are n_is most_is fits params whole tossed touch first others second others2 =
    let r = request_of q in
    let range = range_again (link 1) q.plan.n v u z others (subst (λ (k : ℕ). TouchesRange (link 1) k u z) n_is others2) in
    let still : z.at COINS ≡ v.at COINS = range_still (link 1) q.plan.n COINS v z range (omega arith) (inl (omega arith)) in
    let taken = subst (λ (m : ℕ). TakenEach m q.plan.n reached session u z) most_is
    (subst (λ (k : ℕ). TakenEach most k reached session u z) n_is
    (subst (λ (l : List Bool). TakenEach most n l session u z) marks_are second)) in
    record {
      tossed = record { size = tossed.size; bytes = tossed.bytes; cell = still ∙ tossed.cell; told = tossed.told };
      asked = record {
        params = params;
        whole = whole ∙ n_is;
        links = each_before
            (λ i. LinkAsked (slice_index_or r.addresses i []) (sent r.plan r.blocks q.coins (i + 1)) (reply_len r) (slice_index_or session.records i None))
            (link 1) q.plan.n COINS w v z fits (inl (omega arith)) touch (each_asked q q.plan.n reached session v u z first taken);
      };
    }

-- a header and a payload are a frame; a payload doesn't depend on the session's number
pub sent_is : (q : Queries) (i : ℕ) (header payload : List ℕ) → header ≡ header_of q i → payload ≡ payload_of q i
    → header ++ payload ≡ sent q.plan q.blocks q.coins i
unfolding sent
sent_is q i header payload a b =
    ap₂ (λ (x y : List ℕ). x ++ y) a
    (b ∙ payload_of_session q.plan (length q.blocks) (session_number q.coins) (queries_from q.coins) q.blocks i)
