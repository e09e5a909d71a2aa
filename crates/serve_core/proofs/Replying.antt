-- A reply to a guest, once its query was taken, refused or cut.
use Rattle.std.proofs.Common.{◌≡◌, inl, inr, ℕ, ◌≤◌, List, length, take, refl, sym, ◌∙◌, ap, ap₂, subst}
use Rattle.std.specs.Prelude.{Option, Some, None, IfSome}
use Rattle.port_trait.specs.World.{World}
use Rattle.port_trait.specs.Number.{GUEST}
use Rattle.port_trait.specs.Moves.{RoseOnce, gave, counted}
use Rattle.port_trait.specs.Whole.{FailsWithin}
use Rattle.wire_frames.specs.declared.header.QueryHeader.{QueryHeader}
use Rattle.wire_frames.specs.Header.{blocks_in, query_header}
use Rattle.wire_frames.proofs.Answering.{blocks_in_query}
use Rattle.serve_core.specs.Terms.{query_len_for}
use Rattle.serve_core.specs.Service.{Service, terms_of}
use Rattle.serve_core.specs.Case.{asked_of}
use Rattle.serve_core.specs.Reply.{answer_frame}
use Rattle.serve_core.specs.Taking.{IsDismissal, Dismisses, IsBrokenTaking, IsQueryOf, BreaksTaking, TakesQuery, payload_in}
use Rattle.serve_core.specs.Attended.{IsReply, Replied, IsBroken, Broke, Attends}
use Rattle.serve_core.specs.Stages.{Gives}
use Rattle.serve_core.specs.declared.met.Met.{Met}
use Rattle.serve_core.specs.declared.met.Met.TheVariants.{Served, Refused, Gone}

-- a fact of what is told, by another
told_as : (P Q : List ℕ → Type 0) (o : Option (List ℕ)) → ((h : List ℕ) → P h → Q h) → IfSome o P → IfSome o Q
told_as P Q None f p = tt
told_as P Q (Some h) f p = f h p

-- a refusal is a reply
refusal_is : (service : Service) (status n : ℕ) (frame bytes : List ℕ) → IsDismissal (terms_of service) (Refused status) n frame bytes
    → IsReply service (Refused status) n frame bytes
refusal_is service status n frame bytes d = record { replies = (d.is, d.frame_is); takes = d.takes; there = d.there }

-- so the guest had its reply where its query was refused
pub replies_refused : (service : Service) (status : ℕ) (w u : World) → Dismisses (terms_of service) (Refused status) w u → Replied service (Refused status) w u
replies_refused service status w u d = record {
  n = d.n;
  frame = d.frame;
  cell = d.cell;
  told = told_as (IsDismissal (terms_of service) (Refused status) d.n d.frame) (IsReply service (Refused status) d.n d.frame) (w.at GUEST).holds
      (refusal_is service status d.n d.frame) d.told;
}

-- and so is nothing, to a guest that is gone
pub replies_gone : (service : Service) (w u : World) → Dismisses (terms_of service) Gone w u → Replied service Gone w u
replies_gone service w u d = record {
  n = d.n;
  frame = d.frame;
  cell = d.cell;
  told = told_as (IsDismissal (terms_of service) Gone d.n d.frame) (IsReply service Gone d.n d.frame) (w.at GUEST).holds
      (λ h is. record { replies = (is.is, is.frame_is); takes = is.takes; there = is.there }) d.told;
}

-- a call on the guest failed as its query was taken
broken_taking : (service : Service) (n : ℕ) (given bytes : List ℕ) → IsBrokenTaking (terms_of service) n given bytes → IsBroken service n given bytes
broken_taking service n given bytes (inl short) = inl short
broken_taking service n given bytes (inr short) = inr (record {
  met = Refused short.status;
  frame = short.frame;
  size = short.size;
  reply = refusal_is service short.status n short.frame bytes short.refusal;
  proper = short.proper;
  prefix_is = short.prefix_is;
})

-- so its reply broke off there
pub breaks_taking : (service : Service) (w u : World) → BreaksTaking (terms_of service) w u → Broke service w u
breaks_taking service w u b = record {
  n = b.n;
  given = b.given;
  cell = b.cell;
  rose = b.rose;
  told = told_as (IsBrokenTaking (terms_of service) b.n b.given) (IsBroken service b.n b.given) (w.at GUEST).holds
      (broken_taking service b.n b.given) b.told;
}

-- a query was taken whole, and its answer given
module _ (service : Service) (query : QueryHeader) (slice : List ℕ) (w v : World) (takes : TakesQuery (terms_of service) query slice w v) where
  -- how many bytes the query has
  abbrev n : ℕ
  n = query_len_for (terms_of service) query.count

  -- its vectors, one behind another
  abbrev vectors : List ℕ
  vectors = payload_in (terms_of service) query slice

  -- the frame of the answer
  abbrev frame : List ℕ
  frame = answer_frame service (query_header query) vectors

  -- the bytes ask for as many blocks as the query says
  asked_is : (h : List ℕ) → IsQueryOf (terms_of service) query vectors h → query.count ≡ asked_of h
  asked_is h is = sym (blocks_in_query (query_header query) query (record { range = takes.good.range; spelled = refl })) ∙ ap blocks_in (sym is.header)

  -- the frame is the reply to the bytes
  served : (h : List ℕ) → IsQueryOf (terms_of service) query vectors h → IsReply service Served n frame h
  served h is = record {
    replies = (is.good, ap₂ (answer_frame service) (sym is.header) is.vectors_are);
    takes = ap (query_len_for (terms_of service)) (asked_is h is);
    there = subst (λ k. k ≤ length h) (sym (ap (query_len_for (terms_of service)) (asked_is h is))) is.good.whole.enough;
  }

  -- also where it is told what the guest holds
  told : IfSome (w.at GUEST).holds (IsReply service Served n frame)
  told = told_as (IsQueryOf (terms_of service) query vectors) (IsReply service Served n frame) (w.at GUEST).holds served takes.told

  -- it was given a prefix of the frame, up to a call that failed
  gave_prefix : (u : World) → FailsWithin GUEST frame v u → Broke service w u
  gave_prefix u f = record {
    n = n;
    given = take f.n frame;
    cell = f.cell ∙ ap (λ c. counted (u.at GUEST).faults (gave (take f.n frame) c)) takes.cell;
    rose = subst (λ k. RoseOnce k (u.at GUEST).faults) (ap (λ c. c.faults) takes.cell) f.rose;
    told = told_as (IsReply service Served n frame) (IsBroken service n (take f.n frame)) (w.at GUEST).holds
        (λ h is. inr (record { met = Served; frame = frame; size = f.n; reply = is; proper = f.proper; prefix_is = refl })) told;
  }

  -- and so the guest was attended to
  pub attends_answer : (met : Met) (u : World) → Gives Served frame met v u → Attends service met w u
  attends_answer met u (inl given) = subst (λ m. Attends service m w u) (sym given.0)
      (record { n = n; frame = frame; cell = given.1 ∙ ap (gave frame) takes.cell; told = told })
  attends_answer met u (inr failed) = subst (λ m. Attends service m w u) (sym failed.0) (gave_prefix u failed.1)
