-- Guests that are met one after the other by asking shards.
use Rattle.std.proofs.Common.{◌≡◌, inl, inr, ℕ, ◌+◌, ◌<◌, ◌≤◌, List, [], ◌∷◌, ◌++◌, length, drop, take, get_or, refl, sym, ◌∙◌, ap, subst, arith, append_assoc, length-drop}
use Rattle.std.specs.Prelude.{Option, Some, IfSome}
use Rattle.std.specs.Option.{option_map}
use Rattle.std.proofs.lemmas.Bool.{cases_eq}
use Rattle.std.proofs.lemmas.List.{append-nil, drop-drop, get_or-drop, get_or_push, get_or_append_left, length_push}
use Rattle.port_trait.specs.World.{Cell, Crowd, LinkThen, World, answers, answered, link_now, links_now}
use Rattle.port_trait.specs.Number.{DOOR, GUEST, link}
use Rattle.port_trait.specs.Moves.{Touches}
use Rattle.port_trait.specs.Guests.{Meets}
use Rattle.port_trait.proofs.Served.{answers_push}
use Rattle.port_trait.proofs.Links.{by_links-at, by_links-same}
use Rattle.quantity_limits.specs.declared.TheConstants.{MOST_SHARDS}
use Rattle.shard_front.specs.declared.relayed.Relayed.{Relayed}
use Rattle.shard_front.specs.declared.relayed.Relayed.TheVariants.{Served, Refused, Gone, GuestFault, ShardLost}
use Rattle.shard_front.specs.Spread.{Spread, shards}
use Rattle.shard_front.specs.Fronted.{Fronts, TouchesFirst}
use Rattle.shard_front.specs.Relay.{Counts, FrontsTold, GivesRelay, Visit, visit_of}
use Rattle.commands.specs.FrontAnswers.{FrontsAll, Fronting, IsFronted, of_link, visit_at}

-- what is told of the link with a number, of the links now
of_link_now : (w : World) (n : ℕ) → n < 256 → of_link (links_now w) n ≡ link_now (w.at (link n))
of_link_now w n l = by_links-at (λ k. link_now (w.at (link k))) n _ l

-- the links are as before where each is
links_same : (w v : World) → ((n : ℕ) → n < 256 → v.at (link n) ≡ w.at (link n)) → links_now v ≡ links_now w
links_same w v same = by_links-same (λ k. link_now (v.at (link k))) (λ k. link_now (w.at (link k))) (λ k l. ap link_now (same k l))

-- what a guest that was given nothing yet was given
pub record GivenSome (new : Cell) : Type 0 where
  pub out : List ℕ
  pub accepted : new.accepted ≡ Some out

-- a guest that is met is given some
fronts_give : (spread : Spread) (addresses : List (List ℕ)) (met : Relayed) (m u : World) → (m.at GUEST).accepted ≡ Some [] → Fronts spread addresses met m u → GivenSome (u.at GUEST)
fronts_give spread addresses Served m u empty f = record { out = f.frame; accepted = ap (λ (c : Cell). c.accepted) f.cell ∙ ap (option_map (λ a. a ++ f.frame)) empty }
fronts_give spread addresses (ShardLost number) m u empty f = record { out = f.frame; accepted = ap (λ (c : Cell). c.accepted) f.cell ∙ ap (option_map (λ a. a ++ f.frame)) empty }
fronts_give spread addresses (Refused status) m u empty f = record { out = f.0.frame; accepted = ap (λ (c : Cell). c.accepted) f.0.cell ∙ ap (option_map (λ a. a ++ f.0.frame)) empty }
fronts_give spread addresses Gone m u empty f = record { out = f.0.frame; accepted = ap (λ (c : Cell). c.accepted) f.0.cell ∙ ap (option_map (λ a. a ++ f.0.frame)) empty }
fronts_give spread addresses GuestFault m u empty (inl broke) = record { out = broke.0.given; accepted = ap (λ (c : Cell). c.accepted) broke.0.cell ∙ ap (option_map (λ a. a ++ broke.0.given)) empty }
fronts_give spread addresses GuestFault m u empty (inr broke) = record { out = take broke.given broke.frame; accepted = ap (λ (c : Cell). c.accepted) broke.cell ∙ ap (option_map (λ a. a ++ take broke.given broke.frame)) empty }

-- it is given that by what the links held as it came in, and by which of their counts rose since
fronts_by_links : (spread : Spread) (met : Relayed) (v m u : World) (guest out : List ℕ) → shards spread ≤ MOST_SHARDS → Meets v m → FrontsTold spread met m u → (m.at GUEST).holds ≡ Some guest
    → (m.at GUEST).accepted ≡ Some [] → (u.at GUEST).accepted ≡ Some out → IsFronted spread (visit_of guest out m u) (links_now v) (links_now u)
fronts_by_links spread met v m u guest out few meets told holds empty accepted held are =
    let bytes = told guest held [] holds empty (λ i l. link_holds i l) in
    let same : bytes.out ≡ out = same_out bytes.out (sym bytes.accepted ∙ accepted) in
    record {
      met = met;
      failed = bytes.failed;
      rose = λ i l.
          let before : (of_link (links_now v) (1 + i)).faults ≡ (m.at (link 1 + i)).faults = ap (λ (t : LinkThen). t.faults) (then_is i l) in
          let after : (of_link (links_now u) (1 + i)).faults ≡ (u.at (link 1 + i)).faults = ap (λ (t : LinkThen). t.faults) (end_is i l) in
          subst (λ (k : ℕ). Counts (bytes.failed i) k (of_link (links_now u) (1 + i)).faults) (sym before) (subst (λ (k : ℕ). Counts (bytes.failed i) (m.at (link 1 + i)).faults k) (sym after) (bytes.links.failed i l));
      gives = subst (λ (o : List ℕ). GivesRelay spread (record { held = held; failed = bytes.failed }) met (visit_of guest o m u)) same bytes.gives;
    }
  where
    -- the port of the link to shard i, by either sum
    number_is : (i : ℕ) → link (1 + i) ≡ link 1 + i
    number_is i = omega arith

    -- what is told of a link as the guest came in is what the port says
    then_is : (i : ℕ) → i < shards spread → of_link (links_now v) (1 + i) ≡ link_now (m.at (link 1 + i))
    then_is i l = of_link_now v (1 + i) (omega (arith, few, l)) ∙ ap link_now (ap v.at (number_is i) ∙ sym (meets.others (link 1 + i) (omega (arith, few, l)) (omega arith)))

    -- and so is what is told at its end
    end_is : (i : ℕ) → i < shards spread → of_link (links_now u) (1 + i) ≡ link_now (u.at (link 1 + i))
    end_is i l = of_link_now u (1 + i) (omega (arith, few, l)) ∙ ap link_now (ap u.at (number_is i))

    -- the link holds what is told
    link_holds : (i : ℕ) → i < shards spread → (m.at (link 1 + i)).holds ≡ Some (held i)
    link_holds i l = sym (ap (λ (t : LinkThen). t.holds) (then_is i l)) ∙ are i l

    -- what was given to the guest is what is told
    same_out : (given : List ℕ) → Some ([] ++ given) ≡ Some out → given ≡ out
    same_out given e = cc

module _ (spread : Spread) where
  -- before the first guest nobody was met
  fronting_none : (gs others : List (List ℕ)) (earlier before : List ℕ) (found : List (List LinkThen)) (w : World) → w.crowd.guests ≡ Some gs → answered w ≡ Some others → w.crowd.since ≡ Some earlier
      → (w.at GUEST).accepted ≡ Some before → w.crowd.links ≡ Some found → Fronting spread gs others earlier found 0 w
  fronting_none gs others earlier before found w told answer since accepted links = record {
    outs = [];
    counts = [];
    thens = [];
    present = before;
    there = omega arith;
    guests = told;
    answers = answer ∙ ap (λ (l : List (List ℕ)). Some l) (sym (append-nil others));
    since = since ∙ ap (λ (l : List ℕ). Some l) (sym (append-nil earlier));
    links = links ∙ ap (λ (l : List (List LinkThen)). Some l) (sym (append-nil found));
    accepted = accepted;
    outs_size = refl;
    counts_size = refl;
    thens_size = refl;
    each = λ i l. absurd (omega arith);
  }

  -- what is done to Door meets nobody
  fronting_still : (gs others : List (List ℕ)) (earlier : List ℕ) (found : List (List LinkThen)) (j : ℕ) (w v : World) → Fronting spread gs others earlier found j w → Touches DOOR w v
      → Fronting spread gs others earlier found j v
  fronting_still gs others earlier found j w v s touch =
      let cell : v.at GUEST ≡ w.at GUEST = touch.others 6 (omega arith) (omega arith) in
      let same : links_now v ≡ links_now w = links_same w v (λ n l. touch.others (link n) (omega (arith, l)) (omega arith)) in
      record {
        outs = s.outs;
        counts = s.counts;
        thens = s.thens;
        present = s.present;
        there = s.there;
        guests = ap (λ (c : Crowd). c.guests) touch.crowd ∙ s.guests;
        answers = (λ i. answers (touch.crowd i).since (touch.crowd i).gone (cell i).accepted) ∙ s.answers;
        since = ap (λ (c : Crowd). c.since) touch.crowd ∙ s.since;
        links = ap (λ (c : Crowd). c.links) touch.crowd ∙ s.links;
        accepted = ap (λ (c : Cell). c.accepted) cell ∙ s.accepted;
        outs_size = s.outs_size;
        counts_size = s.counts_size;
        thens_size = s.thens_size;
        each = λ i l.
            let then = get_or s.thens i [] in
            let visit : Cell → Visit = λ c. visit_at gs s.outs s.counts c.faults i in
            subst (λ (t : List LinkThen). IsFronted spread (visit (v.at GUEST)) then (get_or (s.thens ++ t ∷ []) (i + 1) [])) (sym same)
            (subst (λ (c : Cell). IsFronted spread (visit c) then (get_or (s.thens ++ links_now w ∷ []) (i + 1) [])) (sym cell) (s.each i l));
      }

  -- one more guest is met
  fronting_more : (gs others : List (List ℕ)) (earlier : List ℕ) (found : List (List LinkThen)) (addresses : List (List ℕ)) (met : Relayed) (j : ℕ) (w v u : World) → shards spread ≤ MOST_SHARDS
      → Fronting spread gs others earlier found j w → Meets w v → TouchesFirst (shards spread) v u
      → Fronts spread addresses met v u → FrontsTold spread met v u → Fronting spread gs others earlier found (j + 1) u
  fronting_more gs others earlier found addresses met j w v u few s meets touch fronts told =
      let first = subst (λ (o : Option (List (List ℕ))). IfSome o (λ l. (0 < length l) × ((v.at GUEST).holds ≡ Some (get_or l 0 [])))) s.guests meets.first in
      let guest : List ℕ = get_or gs j [] in
      let holds : (v.at GUEST).holds ≡ Some guest = first.1 ∙ ap (λ (h : List ℕ). Some h) (get_or-drop j gs 0 [] ∙ ap (λ (k : ℕ). get_or gs k []) (let e : j + 0 ≡ j = omega arith in e)) in
      let empty : (v.at GUEST).accepted ≡ Some [] = meets.accepted ∙ ap (λ (o : Option (List ℕ)). option_map (λ a. []) o) s.accepted in
      let given : GivenSome (u.at GUEST) = fronts_give spread addresses met v u empty fronts in
      let out : List ℕ = given.out in
      let by = fronts_by_links spread met w v u guest out few meets told holds empty given.accepted in
      let count : ℕ = (w.at GUEST).faults in
      let last : ℕ = (u.at GUEST).faults in
      let here : List LinkThen = links_now w in
      let end : List LinkThen = links_now u in
      let since : u.crowd.since ≡ Some ((earlier ++ s.counts) ++ count ∷ []) = ap (λ (c : Crowd). c.since) touch.crowd ∙ meets.since ∙ ap (λ (o : Option (List ℕ)). option_map (λ l. l ++ count ∷ []) o) s.since in
      let gone : u.crowd.gone ≡ Some (others ++ s.outs) = ap (λ (c : Crowd). c.gone) touch.crowd ∙ meets.gone ∙ s.answers in
      let counts : List ℕ = s.counts ++ count ∷ [] in
      let outs : List (List ℕ) = s.outs ++ out ∷ [] in
      let thens : List (List LinkThen) = s.thens ++ here ∷ [] in
      let many : length counts ≡ j + 1 = length_push s.counts count ∙ ap (λ (k : ℕ). k + 1) s.counts_size in
      let much : length thens ≡ j + 1 = length_push s.thens here ∙ ap (λ (k : ℕ). k + 1) s.thens_size in
      record {
        outs = outs;
        counts = counts;
        thens = thens;
        present = out;
        there = omega (arith, first.0, length-drop j gs);
        guests = ap (λ (c : Crowd). c.guests) touch.crowd ∙ meets.guests ∙ ap (λ (o : Option (List (List ℕ))). option_map (drop 1) o) s.guests ∙ ap (λ (l : List (List ℕ)). Some l) (drop-drop 1 j gs);
        answers = (λ i. answers (since i) (gone i) (given.accepted i)) ∙ answers_push (earlier ++ s.counts) count (others ++ s.outs) out ∙ ap (λ (l : List (List ℕ)). Some l) (append_assoc others s.outs (out ∷ []));
        since = since ∙ ap (λ (l : List ℕ). Some l) (append_assoc earlier s.counts (count ∷ []));
        links = ap (λ (c : Crowd). c.links) touch.crowd ∙ meets.links ∙ ap (λ (o : Option (List (List LinkThen))). option_map (λ l. l ++ here ∷ []) o) s.links ∙ ap (λ (l : List (List LinkThen)). Some l) (append_assoc found s.thens (here ∷ []));
        accepted = given.accepted;
        outs_size = length_push s.outs out ∙ ap (λ (k : ℕ). k + 1) s.outs_size;
        counts_size = many;
        thens_size = much;
        each = λ i l. elim (cases_eq i j) [
          | inl is ↦
              let same_guest : guest ≡ get_or gs i [] = ap (λ (k : ℕ). get_or gs k []) (sym is) in
              let a : out ≡ get_or outs i [] = sym (get_or_push s.outs out [] i (s.outs_size ∙ sym is)) in
              let b : count ≡ get_or counts i 0 = sym (get_or_push s.counts count 0 i (s.counts_size ∙ sym is)) in
              let c : last ≡ get_or (counts ++ last ∷ []) (i + 1) 0 = sym (get_or_push counts last 0 (i + 1) (omega (arith, many, is))) in
              let d : here ≡ get_or thens i [] = sym (get_or_push s.thens here [] i (s.thens_size ∙ sym is)) in
              let e : end ≡ get_or (thens ++ end ∷ []) (i + 1) [] = sym (get_or_push thens end [] (i + 1) (omega (arith, much, is))) in
              moved same_guest a (meets.faults ∙ b) c d e by
          | inr ne ↦
              let below : i < j = omega (arith, l, ne) in
              let a : get_or s.outs i [] ≡ get_or outs i [] = sym (get_or_append_left s.outs (out ∷ []) [] i (omega (arith, s.outs_size, below))) in
              let b : get_or s.counts i 0 ≡ get_or counts i 0 = sym (get_or_append_left s.counts (count ∷ []) 0 i (omega (arith, s.counts_size, below))) in
              let c : get_or counts (i + 1) 0 ≡ get_or (counts ++ last ∷ []) (i + 1) 0 = sym (get_or_append_left counts (last ∷ []) 0 (i + 1) (omega (arith, many, below))) in
              let d : get_or s.thens i [] ≡ get_or thens i [] = sym (get_or_append_left s.thens (here ∷ []) [] i (omega (arith, s.thens_size, below))) in
              let e : get_or thens (i + 1) [] ≡ get_or (thens ++ end ∷ []) (i + 1) [] = sym (get_or_append_left thens (end ∷ []) [] (i + 1) (omega (arith, much, below))) in
              moved refl a b c d e (s.each i below)
        ];
      }
    where
      -- what is told of a guest, by values that are the same
      moved : {g h a b : List ℕ} {c d e f : ℕ} {k l m n : List LinkThen} → g ≡ h → a ≡ b → c ≡ d → e ≡ f → k ≡ l → m ≡ n
          → IsFronted spread (record { guest = g; out = a; before = c; after = e }) k m
          → IsFronted spread (record { guest = h; out = b; before = d; after = f }) l n
      moved {g} {h} {a} {b} {c} {d} {e} {f} {k} {l} {m} {n} gh ab cd ef kl mn is =
          subst (λ (x : List ℕ). IsFronted spread (record { guest = x; out = b; before = d; after = f }) l n) gh
          (subst (λ (x : List ℕ). IsFronted spread (record { guest = g; out = x; before = d; after = f }) l n) ab
          (subst (λ (x : ℕ). IsFronted spread (record { guest = g; out = a; before = x; after = f }) l n) cd
          (subst (λ (x : ℕ). IsFronted spread (record { guest = g; out = a; before = c; after = x }) l n) ef
          (subst (λ (x : List LinkThen). IsFronted spread (record { guest = g; out = a; before = c; after = e }) x n) kl
          (subst (λ (x : List LinkThen). IsFronted spread (record { guest = g; out = a; before = c; after = e }) k x) mn is)))))

  -- before the first guest nobody was met
  pub fronts_none : (w : World) → FrontsAll spread 0 w w
  fronts_none w = record { told = λ gs others earlier before found a b c d e. fronting_none gs others earlier before found w a b c d e }

  -- what is done to Door meets nobody
  pub fronts_still : (j : ℕ) (w v u : World) → FrontsAll spread j w v → Touches DOOR v u → FrontsAll spread j w u
  fronts_still j w v u s touch = record {
    told = λ gs others earlier before found a b c d e. fronting_still gs others earlier found j v u (s.told gs others earlier before found a b c d e) touch;
  }

  -- one more guest is met
  pub fronts_more : (addresses : List (List ℕ)) (met : Relayed) (j : ℕ) (w v m u : World) → shards spread ≤ MOST_SHARDS → FrontsAll spread j w v → Meets v m → TouchesFirst (shards spread) m u
      → Fronts spread addresses met m u → FrontsTold spread met m u → FrontsAll spread (j + 1) w u
  fronts_more addresses met j w v m u few s meets touch fronts told = record {
    told = λ gs others earlier before found a b c d e.
        fronting_more gs others earlier found addresses met j v m u few (s.told gs others earlier before found a b c d e) meets touch fronts told;
  }

  -- a world with the same guests, and the same of the one that is in
  pub fronts_from : (n : ℕ) (w u x : World) → u.crowd ≡ w.crowd → u.at GUEST ≡ w.at GUEST → FrontsAll spread n u x → FrontsAll spread n w x
  fronts_from n w u x crowd guest s = record {
    told = λ gs others earlier before found a b c d e.
        s.told gs others earlier before found
        (ap (λ k. k.guests) crowd ∙ a)
        ((λ i. answers (crowd i).since (crowd i).gone (guest i).accepted) ∙ b)
        (ap (λ k. k.since) crowd ∙ c)
        (ap (λ (k : Cell). k.accepted) guest ∙ d)
        (ap (λ k. k.links) crowd ∙ e);
  }
