-- The steps in which a query is taken, put together.
use Rattle.std.proofs.Common.{◌≡◌, inl, inr, ℕ, ◌+◌, ◌≤◌, List, [], length, take, drop, refl, sym, ◌∙◌, ap, subst, arith}
use Rattle.std.specs.Prelude.{Option, Some, None, IfSome, Ok, Err, Bool, true, false}
use Rattle.std.specs.Option.{option_map}
use Rattle.std.proofs.lemmas.List.{take_all, length-drop}
use Rattle.port_trait.specs.World.{World}
use Rattle.port_trait.specs.Number.{GUEST}
use Rattle.port_trait.specs.Moves.{RoseOnce, Came, Hands, took, gave, counted}
use Rattle.port_trait.specs.Whole.{Ends, FailsShort, FailsWithin}
use Rattle.port_trait.proofs.Cells.{took-took}
use Rattle.port_trait.proofs.Pieces.{gave_none}
use Rattle.wire_frames.specs.declared.sizes.TheConstants.{FRAME_HEADER_LEN}
use Rattle.wire_frames.specs.declared.header.QueryHeader.{QueryHeader}
use Rattle.wire_frames.specs.Header.{answer_to, blocks_in}
use Rattle.wire_frames.specs.Query.{IsQueryHeader}
use Rattle.wire_frames.proofs.Answering.{blocks_in_query}
use Rattle.serve_core.specs.Terms.{payload_len_for, query_len_for}
use Rattle.serve_core.specs.Refusal.{refusal_status}
use Rattle.serve_core.specs.Case.{Asks, IsWholeWith, Suits, RefusedByHeader, header_of, payload, query_len_of, some_sets_unused}
use Rattle.serve_core.specs.Taking.{IsQueryOf, IsDismissal, Dismisses, IsBrokenTaking, BreaksTaking, Takes, payload_in}
use Rattle.serve_core.specs.Stages.{Judges, GivesRefusal, TakesPayload, Stops, HandlesPayload}
use Rattle.serve_core.specs.declared.terms.Terms.{Terms}
use Rattle.serve_core.specs.declared.met.Met.TheVariants.{Refused as IsRefused, Gone as IsGone}
use Rattle.serve_core.specs.declared.taken.Taken.{Taken}
use Rattle.serve_core.specs.declared.taken.Taken.TheVariants.{Query}
use Rattle.serve_core.specs.declared.refusal.Refusal.{Refusal}
use Rattle.serve_core.specs.declared.refusal.Refusal.TheVariants.{Malformed as IsMalformed, OtherScheme as IsOtherScheme, OtherShape as IsOtherShape}

-- a fact of what is told, by what it is
pub told_by : (P : List ℕ → Type 0) (o : Option (List ℕ)) → ((h : List ℕ) → o ≡ Some h → P h) → IfSome o P
told_by P None f = tt
told_by P (Some h) f = f h refl

-- the frame of a refusal was given, behind the bytes that it takes
module _ (terms : Terms) (status n : ℕ) (frame : List ℕ) (w x u : World) (taken : x.at GUEST ≡ took n (w.at GUEST))
    (is : (h : List ℕ) → (w.at GUEST).holds ≡ Some h → IsDismissal terms (IsRefused status) n frame h) where
  -- whole
  refused_whole : u.at GUEST ≡ gave frame (x.at GUEST) → Dismisses terms (IsRefused status) w u
  refused_whole given = record {
    n = n;
    frame = frame;
    cell = given ∙ ap (gave frame) taken;
    told = told_by (IsDismissal terms (IsRefused status) n frame) (w.at GUEST).holds is;
  }

  -- up to a call that failed
  refused_partly : FailsWithin GUEST frame x u → BreaksTaking terms w u
  refused_partly f = record {
    n = n;
    given = take f.n frame;
    cell = f.cell ∙ ap (λ c. counted (u.at GUEST).faults (gave (take f.n frame) c)) taken;
    rose = subst (λ k. RoseOnce k (u.at GUEST).faults) (ap (λ c. c.faults) taken) f.rose;
    told = told_by (IsBrokenTaking terms n (take f.n frame)) (w.at GUEST).holds
        (λ h e. inr (record { status = status; frame = frame; size = f.n; refusal = is h e; proper = f.proper; prefix_is = refl }));
  }

-- the guest failed before its header was whole
pub breaks_first : (terms : Terms) (w v : World) → FailsShort GUEST FRAME_HEADER_LEN w v → BreaksTaking terms w v
breaks_first terms w v f = record {
  n = f.after.n;
  given = [];
  cell = f.after.cell ∙ ap (counted (v.at GUEST).faults) (sym (gave_none (took f.after.n (w.at GUEST))));
  rose = f.after.rose;
  told = told_by (IsBrokenTaking terms f.after.n []) (w.at GUEST).holds
      (λ h e. inl (record {
        short = inl f.fewer;
        there = subst (λ o. IfSome o (λ h. f.after.n ≤ length h)) e f.after.held;
        nothing = refl;
      }));
}

-- the guest ended before its header was whole
pub ends_first : (terms : Terms) (n : ℕ) (before after : List ℕ) (w v : World) → length before ≡ FRAME_HEADER_LEN
    → Ends GUEST n before after w v → Dismisses terms IsGone w v
ends_first terms n before after w v size ends = record {
  n = n;
  frame = [];
  cell = ends.hands.cell ∙ sym (gave_none (took n (w.at GUEST)));
  told = told_by (IsDismissal terms IsGone n []) (w.at GUEST).holds
      (λ h e.
      let all : length h ≡ n = subst (λ o. IfSome o (λ h. length h ≡ n)) e ends.all in
      let fewer = ends.fewer in
      record {
        is = inl (omega (arith, all, fewer, size));
        takes = sym all;
        there = omega (arith, all);
        frame_is = refl;
      });
}

-- the header was taken
module _ (terms : Terms) (before header : List ℕ) (w v : World) (size : length header ≡ FRAME_HEADER_LEN)
    (hands : Hands GUEST FRAME_HEADER_LEN before header w v) where
  module _ (h : List ℕ) (e : (w.at GUEST).holds ≡ Some h) where
    -- the bytes that came are the first that the guest held
    came : Came FRAME_HEADER_LEN before header h
    came = subst (λ o. IfSome o (Came FRAME_HEADER_LEN before header)) e hands.told

    -- so they are the header of those
    header_is : header ≡ header_of h
    header_is = sym (take_all FRAME_HEADER_LEN header (omega (arith, size))) ∙ came.bytes

    -- the guest is left with those behind it
    left : (v.at GUEST).holds ≡ Some (drop FRAME_HEADER_LEN h)
    left = ap (λ c. c.holds) hands.cell ∙ ap (λ o. option_map (drop FRAME_HEADER_LEN) o) e

    -- the guest asks for what the header says
    asks : (query : QueryHeader) → IsQueryHeader header query → Asks h query
    asks query is = record { whole = came.there; header = subst (λ l. IsQueryHeader l query) header_is is }

    -- a header that is refused is refused by what the guest held
    refuses : (refusal : Refusal) → Judges terms header (Err refusal) → RefusedByHeader terms h (refusal_status refusal)
    refuses IsMalformed none = inl (
      refl,
      record {
        whole = came.there;
        none = λ query is. none query (subst (λ l. IsQueryHeader l query) (sym header_is) is);
      },
    )
    refuses IsOtherScheme judged = inr (inl (refl, record { query = judged.0; asks = asks judged.0 judged.1; other = judged.2 }))
    refuses IsOtherShape judged = inr (inr (
      refl,
      record {
        query = judged.0;
        asks = asks judged.0 judged.1.is;
        scheme = judged.1.scheme;
        other = judged.2;
      },
    ))

    -- and the frame that says so is the reply
    refused : (refusal : Refusal) → Judges terms header (Err refusal)
        → IsDismissal terms (IsRefused (refusal_status refusal)) FRAME_HEADER_LEN (answer_to header (refusal_status refusal)) h
    refused refusal judged = record {
      is = inl (refuses refusal judged);
      takes = inl (refuses refusal judged, refl);
      there = came.there;
      frame_is = ap (λ l. answer_to l (refusal_status refusal)) header_is;
    }

    -- one that suits suits by what the guest held
    suits : (query : QueryHeader) → Judges terms header (Ok query) → Suits terms h
    suits query judged = record { query = query; asks = asks query judged.is.is; scheme = judged.is.scheme; shape = judged.shape }

    -- as many blocks are asked for as the query says
    count_is : (query : QueryHeader) → Judges terms header (Ok query) → query.count ≡ blocks_in (header_of h)
    count_is query judged = sym (blocks_in_query header query judged.is.is) ∙ ap blocks_in header_is

    -- so many bytes has the whole query
    query_len_is : (query : QueryHeader) → Judges terms header (Ok query) → query_len_for terms query.count ≡ query_len_of terms h
    query_len_is query judged = ap (query_len_for terms) (count_is query judged)

  -- a refusal of the header
  module _ (refusal : Refusal) (taken : Taken) (slice : List ℕ) (u : World) (judged : Judges terms header (Err refusal)) where
    -- the status that says why
    abbrev status : ℕ
    status = refusal_status refusal

    -- the guest was given the frame that says so
    pub takes_refusal : GivesRefusal header refusal taken v u → Takes terms taken slice w u
    takes_refusal (inl given) = subst (λ t. Takes terms t slice w u) (sym given.0)
        (refused_whole terms status FRAME_HEADER_LEN (answer_to header status) w v u hands.cell (λ h e. refused h e refusal judged) given.1)
    takes_refusal (inr failed) = subst (λ t. Takes terms t slice w u) (sym failed.0)
        (refused_partly terms status FRAME_HEADER_LEN (answer_to header status) w v u hands.cell (λ h e. refused h e refusal judged) failed.1)

  module _ (query : QueryHeader) (judged : Judges terms header (Ok query)) where
    -- the payload was taken
    module _ (unused : Bool) (vectors : List ℕ) (x : World) (takes : TakesPayload unused terms query.count vectors v x) where
      -- as many bytes came as the payload has
      many : length takes.before ≡ payload_len_for terms query.count
      many = takes.full ∙ takes.size

      -- the stream of the guest lost those of the whole query
      all_taken : x.at GUEST ≡ took (query_len_for terms query.count) (w.at GUEST)
      all_taken = takes.hands.cell ∙ ap (took (length takes.before)) hands.cell
          ∙ took-took (length takes.before) FRAME_HEADER_LEN (w.at GUEST)
          ∙ ap (λ n. took (FRAME_HEADER_LEN + n) (w.at GUEST)) many

      module _ (h : List ℕ) (e : (w.at GUEST).holds ≡ Some h) where
        -- the bytes that came are those behind the header
        second : Came (length takes.before) takes.before vectors (drop FRAME_HEADER_LEN h)
        second = subst (λ o. IfSome o (Came (length takes.before) takes.before vectors)) (left h e) takes.hands.told

        -- so they are the payload
        vectors_are : vectors ≡ payload terms h
        vectors_are = sym (take_all (length takes.before) vectors (omega (arith, takes.full))) ∙ second.bytes
            ∙ ap (λ n. take n (drop FRAME_HEADER_LEN h)) (many ∙ ap (payload_len_for terms) (count_is h e query judged))

        -- the guest held all that was taken
        enough_taken : query_len_for terms query.count ≤ length h
        enough_taken = omega (arith, second.there, many, length-drop FRAME_HEADER_LEN h, (came h e).there)

        -- and so the whole query
        enough : query_len_of terms h ≤ length h
        enough = omega (arith, enough_taken, query_len_is h e query judged)

        -- it is a whole query whose payload was judged so
        whole_with : IsWholeWith unused terms h
        whole_with = record {
          whole = record { suits = suits h e query judged; enough = enough };
          unused_is = subst (λ q. some_sets_unused terms (blocks_in (header_of h)) q ≡ unused) vectors_are
              (subst (λ n. some_sets_unused terms n vectors ≡ unused) (count_is h e query judged) takes.unused_is);
        }

    -- the payload sets an unused bit
    module _ (vectors : List ℕ) (x : World) (takes : TakesPayload true terms query.count vectors v x) where
      -- the frame of that refusal is the reply
      declined : (h : List ℕ) → (w.at GUEST).holds ≡ Some h → IsDismissal terms (IsRefused 1) (query_len_for terms query.count) (answer_to header 1) h
      declined h e = record {
        is = inr (refl, whole_with true vectors x takes h e);
        takes = inr ((refl, whole_with true vectors x takes h e), query_len_is h e query judged);
        there = enough_taken true vectors x takes h e;
        frame_is = ap (λ l. answer_to l 1) (header_is h e);
      }

      -- the guest was given it
      declines : (taken : Taken) (slice : List ℕ) (u : World) → GivesRefusal header IsMalformed taken x u → Takes terms taken slice w u
      declines taken slice u (inl given) = subst (λ t. Takes terms t slice w u) (sym given.0)
          (refused_whole terms 1 (query_len_for terms query.count) (answer_to header 1) w x u (all_taken true vectors x takes) declined given.1)
      declines taken slice u (inr failed) = subst (λ t. Takes terms t slice w u) (sym failed.0)
          (refused_partly terms 1 (query_len_for terms query.count) (answer_to header 1) w x u (all_taken true vectors x takes) declined failed.1)

    -- the guest ended before its payload was whole
    stops : (u : World) → Stops terms query.count v u → Dismisses terms IsGone w u
    stops u s = record {
      n = FRAME_HEADER_LEN + s.n;
      frame = [];
      cell = s.ends.hands.cell ∙ ap (took s.n) hands.cell ∙ took-took s.n FRAME_HEADER_LEN (w.at GUEST)
          ∙ sym (gave_none (took (FRAME_HEADER_LEN + s.n) (w.at GUEST)));
      told = told_by (IsDismissal terms IsGone (FRAME_HEADER_LEN + s.n) []) (w.at GUEST).holds
          (λ h e.
          let all : length (drop FRAME_HEADER_LEN h) ≡ s.n = subst (λ o. IfSome o (λ h. length h ≡ s.n)) (left h e) s.ends.all in
          let fewer = s.ends.fewer in
          let whole = (came h e).there in
          let rest = length-drop FRAME_HEADER_LEN h in
          record {
            is = inr (suits h e query judged, omega (arith, all, fewer, whole, rest, s.size, query_len_is h e query judged));
            takes = omega (arith, all, whole, rest);
            there = omega (arith, all, whole, rest);
            frame_is = refl;
          });
    }

    -- the guest failed before its payload was whole
    breaks : (u : World) → FailsShort GUEST (payload_len_for terms query.count) v u → BreaksTaking terms w u
    breaks u f = record {
      n = FRAME_HEADER_LEN + f.after.n;
      given = [];
      cell = f.after.cell ∙ ap (λ c. counted (u.at GUEST).faults (took f.after.n c)) hands.cell
          ∙ ap (counted (u.at GUEST).faults) (took-took f.after.n FRAME_HEADER_LEN (w.at GUEST)
          ∙ sym (gave_none (took (FRAME_HEADER_LEN + f.after.n) (w.at GUEST))));
      rose = subst (λ k. RoseOnce k (u.at GUEST).faults) (ap (λ c. c.faults) hands.cell) f.after.rose;
      told = told_by (IsBrokenTaking terms (FRAME_HEADER_LEN + f.after.n) []) (w.at GUEST).holds
          (λ h e.
          let held : f.after.n ≤ length (drop FRAME_HEADER_LEN h)
          = subst (λ o. IfSome o (λ h. f.after.n ≤ length h)) (left h e) f.after.held in
          inl (record {
            short = inr (suits h e query judged, let l = f.fewer in omega (arith, query_len_is h e query judged));
            there = omega (arith, held, length-drop FRAME_HEADER_LEN h, (came h e).there);
            nothing = refl;
          }));
    }

    -- what is done once the header suits
    module _ (taken : Taken) (slice : List ℕ) (u : World) (fits : payload_len_for terms query.count ≤ length slice) where
      -- a payload that sets no unused bit is taken, and the query with it
      taken_whole : TakesPayload false terms query.count (payload_in terms query slice) v u → Takes terms (Query query) slice w u
      taken_whole takes = record {
        good = record { range = judged.is.is.range; scheme = judged.is.scheme; shape = judged.shape };
        fits = fits;
        trim = takes.unused_is;
        cell = all_taken false (payload_in terms query slice) u takes;
        told = told_by (IsQueryOf terms query (payload_in terms query slice)) (w.at GUEST).holds
            (λ h e. record {
              good = whole_with false (payload_in terms query slice) u takes h e;
              header = sym (header_is h e) ∙ judged.is.is.spelled;
              vectors_are = vectors_are false (payload_in terms query slice) u takes h e;
            });
      }

      -- whatever is done with the payload
      pub takes_payload : HandlesPayload terms query taken (payload_in terms query slice) v u → Takes terms taken slice w u
      takes_payload (inl whole) = subst (λ t. Takes terms t slice w u) (sym whole.0) (taken_whole whole.1)
      takes_payload (inr (inl declined)) = declines declined.vectors declined.mid declined.takes taken slice u
          (subst (λ (h : List ℕ). GivesRefusal h IsMalformed taken declined.mid u) (sym judged.is.is.spelled) declined.gives)
      takes_payload (inr (inr (inl stopped))) = subst (λ t. Takes terms t slice w u) (sym stopped.0) (stops u stopped.1)
      takes_payload (inr (inr (inr broke))) = subst (λ t. Takes terms t slice w u) (sym broke.0) (breaks u broke.1)
