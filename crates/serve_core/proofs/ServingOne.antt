-- The guest that is in, seen as one of a server's guests.
use Rattle.std.proofs.Common.{◌≡◌, inl, inr, ℕ, ◌≤◌, List, [], ◌++◌, length, ◌∙◌, ap, subst, arith}
use Rattle.std.specs.Prelude.{◌⊎◌, Option, IfSome}
use Rattle.std.specs.Option.{option_map}
use Rattle.port_trait.specs.World.{Cell, World}
use Rattle.port_trait.specs.Number.{GUEST}
use Rattle.port_trait.specs.Moves.{RoseOnce}
use Rattle.port_trait.specs.Serving.{ServesOne}
use Rattle.wire_frames.specs.declared.sizes.TheConstants.{FRAME_HEADER_LEN}
use Rattle.serve_core.specs.Service.{Service, terms_of}
use Rattle.serve_core.specs.Case.{ReplyTakes, Suits, query_len_of}
use Rattle.serve_core.specs.Taking.{IsShort}
use Rattle.serve_core.specs.Attended.{IsReply, Replied, IsPrefixOfReply, IsBroken, Broke, Attends, HasReply, IsServed}
use Rattle.serve_core.specs.declared.met.Met.{Met}
use Rattle.serve_core.specs.declared.met.Met.TheVariants.{Served, Refused, Gone, GuestFault}

-- the guest had its whole reply
serves_whole : (service : Service) (met : Met) (w v : World) → Replied service met w v → ServesOne (IsServed service) (w.at GUEST) (v.at GUEST)
serves_whole service met w v a = record {
  told = λ guest holds accepted.
      let reply = subst (λ (o : Option (List ℕ)). IfSome o (IsReply service met a.n a.frame)) holds a.told in
      record {
        out = a.frame;
        accepted = ap (λ (c : Cell). c.accepted) a.cell ∙ ap (λ (o : Option (List ℕ)). option_map (λ x. x ++ a.frame) o) accepted;
        by = inl (ap (λ (c : Cell). c.faults) a.cell, record { met = met; replies = reply.replies });
      };
}

-- what was given before a call failed: nothing, or a prefix of the reply
prefix_of : (service : Service) (n : ℕ) (given bytes : List ℕ) → IsBroken service n given bytes
    → (given ≡ []) ⊎ IsPrefixOfReply service given bytes
prefix_of service n given bytes (inl short) = inl short.nothing
prefix_of service n given bytes (inr short) = inr (record {
  met = short.met;
  frame = short.frame;
  n = short.size;
  replies = short.reply.replies;
  proper = short.proper;
  prefix_is = short.prefix_is;
})

-- no more was taken than a header, and the payload of one that suits
pub takes_at_most : (service : Service) (n : ℕ) (given bytes : List ℕ) → IsBroken service n given bytes
    → (n ≤ FRAME_HEADER_LEN) ⊎ (Suits (terms_of service) bytes × (n ≤ query_len_of (terms_of service) bytes))
takes_at_most service n given bytes (inl short) = by_short short.short
  where
    -- not all of the query was taken
    by_short : IsShort (terms_of service) n bytes → (n ≤ FRAME_HEADER_LEN) ⊎ (Suits (terms_of service) bytes × (n ≤ query_len_of (terms_of service) bytes))
    by_short (inl fewer) = inl (omega (arith, fewer))
    by_short (inr (suits, fewer)) = inr (suits, omega (arith, fewer))
takes_at_most service n given bytes (inr short) = by_met short.met short.reply
  where
    -- all that the reply takes was taken
    by_met : (met : Met) → IsReply service met n short.frame bytes
        → (n ≤ FRAME_HEADER_LEN) ⊎ (Suits (terms_of service) bytes × (n ≤ query_len_of (terms_of service) bytes))
    by_met Served reply = inr (reply.replies.0.whole.suits, omega (arith, reply.takes))
    by_met (Refused status) reply = by_refusal reply.takes
      where
        -- of a query that is refused that is the header, or the whole query
        by_refusal : ReplyTakes (terms_of service) bytes (Refused status) n
            → (n ≤ FRAME_HEADER_LEN) ⊎ (Suits (terms_of service) bytes × (n ≤ query_len_of (terms_of service) bytes))
        by_refusal (inl (refused, all)) = inl (omega (arith, all))
        by_refusal (inr (refused, all)) = inr (refused.1.whole.suits, omega (arith, all))
    by_met Gone reply = absurd (omega (arith, short.proper, ap length reply.replies.1))
    by_met GuestFault reply = absurd reply.takes

-- a call on the guest failed
serves_broken : (service : Service) (w v : World) → Broke service w v → ServesOne (IsServed service) (w.at GUEST) (v.at GUEST)
serves_broken service w v b = record {
  told = λ guest holds accepted.
      let broken = subst (λ (o : Option (List ℕ)). IfSome o (IsBroken service b.n b.given)) holds b.told in
      record {
        out = b.given;
        accepted = ap (λ (c : Cell). c.accepted) b.cell ∙ ap (λ (o : Option (List ℕ)). option_map (λ x. x ++ b.given) o) accepted;
        by = inr (b.rose, prefix_of service b.n b.given guest broken);
      };
}

-- whatever the guest was met with
pub serves_one : (service : Service) (met : Met) (w v : World) → Attends service met w v → ServesOne (IsServed service) (w.at GUEST) (v.at GUEST)
serves_one service Served w v a = serves_whole service Served w v a
serves_one service (Refused status) w v a = serves_whole service (Refused status) w v a
serves_one service Gone w v a = serves_whole service Gone w v a
serves_one service GuestFault w v a = serves_broken service w v a

-- the count of Guest is as it was, or rose by one
pub attended_once : (service : Service) (met : Met) (w v : World) → Attends service met w v
    → ((v.at GUEST).faults ≡ (w.at GUEST).faults) ⊎ RoseOnce (w.at GUEST).faults (v.at GUEST).faults
attended_once service Served w v a = inl (ap (λ (c : Cell). c.faults) a.cell)
attended_once service (Refused status) w v a = inl (ap (λ (c : Cell). c.faults) a.cell)
attended_once service Gone w v a = inl (ap (λ (c : Cell). c.faults) a.cell)
attended_once service GuestFault w v a = inr a.rose

-- where no call failed, it was given its whole reply
pub replies_one : (service : Service) (met : Met) (w v : World) → Replied service met w v → ServesOne (λ guest out before after. HasReply service guest out) (w.at GUEST) (v.at GUEST)
replies_one service met w v a = record {
  told = λ guest holds accepted.
      let reply = subst (λ (o : Option (List ℕ)). IfSome o (IsReply service met a.n a.frame)) holds a.told in
      record {
        out = a.frame;
        accepted = ap (λ (c : Cell). c.accepted) a.cell ∙ ap (λ (o : Option (List ℕ)). option_map (λ x. x ++ a.frame) o) accepted;
        by = record { met = met; replies = reply.replies };
      };
}
