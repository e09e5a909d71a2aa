-- Asking one shard.
use Rattle.std.proofs.Common.{◌≡◌, ◌∙◌, inl, inr, ℕ, ◌+◌, List, sym, ap, subst, arith}
use Rattle.std.specs.Prelude.{Bool, true, false, Option, Some, None}
use Rattle.port_trait.specs.World.{World}
use Rattle.port_trait.specs.Number.{link}
use Rattle.wire_frames.specs.declared.header.QueryHeader.{QueryHeader}
use Rattle.wire_frames.specs.Answer.{usable}
use Rattle.shard_front.specs.Parts.{Part, part_answer_len, part_frame, part_header}
use Rattle.shard_front.specs.Link.{LinkAsked}
use Rattle.shard_front.specs.Shard.{AddsUsable, AsksShard}

-- the link with a number was asked, at an address, with a frame, for an answer of so many bytes: those of a part
module _ (part : Part) (address frame : List ℕ) (most index : ℕ) (header : QueryHeader) (w u : World) (next : index ≡ part.place + 1)
    (address_is : address ≡ part.address) (frame_is : frame ≡ part_frame part) (most_is : most ≡ part_answer_len part)
    (header_is : header ≡ part_header part) where
  -- it is the link of the part's shard
  here : link index ≡ link 1 + part.place
  here = omega (arith, next)

  -- its link was asked for its part of the query
  asked_part : (answer : Option (List ℕ)) → LinkAsked address frame most answer (w.at (link index)) (u.at (link index))
      → LinkAsked part.address (part_frame part) (part_answer_len part) answer (w.at (link 1 + part.place)) (u.at (link 1 + part.place))
  asked_part answer a =
      subst (λ (p : ℕ). LinkAsked part.address (part_frame part) (part_answer_len part) answer (w.at p) (u.at p)) here
      (subst (λ (m : ℕ). LinkAsked part.address (part_frame part) m answer (w.at (link index)) (u.at (link index))) most_is
      (subst (λ (f : List ℕ). LinkAsked part.address f most answer (w.at (link index)) (u.at (link index))) frame_is
      (subst (λ (l : List ℕ). LinkAsked l frame most answer (w.at (link index)) (u.at (link index))) address_is a)))

  -- it failed
  pub asks_none : (before after : List ℕ) → LinkAsked address frame most None (w.at (link index)) (u.at (link index))
      → AsksShard part false before after (w.at (link 1 + part.place)) (u.at (link 1 + part.place))
  asks_none before after a = inl (asked_part None a)

  -- it handed out these bytes
  pub asks_some : (bytes : List ℕ) (added : Bool) (before after : List ℕ)
      → LinkAsked address frame most (Some bytes) (w.at (link index)) (u.at (link index)) → AddsUsable bytes header added before after
      → AsksShard part added before after (w.at (link 1 + part.place)) (u.at (link 1 + part.place))
  asks_some bytes true before after a adds = record {
    payload = adds.0;
    answers = record {
      bytes = bytes;
      answered = asked_part (Some bytes) a;
      usable = ap (λ (h : QueryHeader). usable bytes h) (sym header_is) ∙ adds.1;
    };
    sum = adds.2;
  }
  asks_some bytes false before after a none = inr (record {
    bytes = bytes;
    answered = asked_part (Some bytes) a;
    unusable = ap (λ (h : QueryHeader). usable bytes h) (sym header_is) ∙ none;
  })
