-- Guests that are served one after the other.
use Rattle.std.proofs.Common.{◌≡◌, ◌≢◌, inl, inr, ℕ, ◌+◌, ◌<◌, List, [], ◌∷◌, ◌++◌, length, drop, get_or, refl, sym, ◌∙◌, ap, subst, arith, append_assoc, length-drop}
use Rattle.std.specs.Prelude.{Option, Some, IfSome}
use Rattle.std.specs.Option.{option_map}
use Rattle.std.proofs.lemmas.Bool.{cases_eq}
use Rattle.std.proofs.lemmas.List.{append-nil, drop-drop, get_or-drop, get_or_push, get_or_append_left, length_push}
use Rattle.port_trait.specs.World.{Cell, Crowd, World, answers, answered}
use Rattle.port_trait.specs.Number.{GUEST}
use Rattle.port_trait.specs.Moves.{Touches}
use Rattle.port_trait.specs.Guests.{Meets}
use Rattle.port_trait.specs.Serving.{Gives, ServesOne, Serving, Served}

-- once one more guest came in, its answer stands behind those of the guests that left
pub answers_push : (xs : List ℕ) (y : ℕ) (left : List (List ℕ)) (a : List ℕ) → answers (Some (xs ++ y ∷ [])) (Some left) (Some a) ≡ Some (left ++ a ∷ [])
answers_push [] y left a = refl
answers_push (x ∷ xs) y left a = refl

module _ (F : List ℕ → List ℕ → ℕ → ℕ → Type 0) where
  -- before the first guest nobody was served
  serving_none : (gs others : List (List ℕ)) (earlier before : List ℕ) (w : World) → w.crowd.guests ≡ Some gs → answered w ≡ Some others → w.crowd.since ≡ Some earlier → (w.at GUEST).accepted ≡ Some before
      → Serving F gs others earlier 0 w
  serving_none gs others earlier before w told answer since accepted = record {
    outs = [];
    counts = [];
    present = before;
    there = omega arith;
    guests = told;
    answers = answer ∙ ap (λ (l : List (List ℕ)). Some l) (sym (append-nil others));
    since = since ∙ ap (λ (l : List ℕ). Some l) (sym (append-nil earlier));
    accepted = accepted;
    outs_size = refl;
    counts_size = refl;
    each = λ i l. absurd (omega arith);
  }

  -- what is done to other ports serves nobody
  serving_still : (gs others : List (List ℕ)) (earlier : List ℕ) (j p : ℕ) (w v : World) → Serving F gs others earlier j w → Touches p w v → 6 ≢ p → Serving F gs others earlier j v
  serving_still gs others earlier j p w v s touch ne =
      let cell : v.at GUEST ≡ w.at GUEST = touch.others 6 (omega arith) ne in
      record {
        outs = s.outs;
        counts = s.counts;
        present = s.present;
        there = s.there;
        guests = ap (λ (c : Crowd). c.guests) touch.crowd ∙ s.guests;
        answers = (λ i. answers (touch.crowd i).since (touch.crowd i).gone (cell i).accepted) ∙ s.answers;
        since = ap (λ (c : Crowd). c.since) touch.crowd ∙ s.since;
        accepted = ap (λ (c : Cell). c.accepted) cell ∙ s.accepted;
        outs_size = s.outs_size;
        counts_size = s.counts_size;
        each = λ i l. subst (λ (c : Cell). F (get_or gs i []) (get_or s.outs i []) (get_or s.counts i 0) (get_or (s.counts ++ c.faults ∷ []) (i + 1) 0)) (sym cell) (s.each i l);
      }

  -- one more guest is met, and served
  serving_more : (gs others : List (List ℕ)) (earlier : List ℕ) (j : ℕ) (w v u : World) → Serving F gs others earlier j w → Meets w v → Touches GUEST v u → ServesOne F (v.at GUEST) (u.at GUEST) → Serving F gs others earlier (j + 1) u
  serving_more gs others earlier j w v u s meets touch serves =
      let first = subst (λ (o : Option (List (List ℕ))). IfSome o (λ l. (0 < length l) × ((v.at GUEST).holds ≡ Some (get_or l 0 [])))) s.guests meets.first in
      let guest : List ℕ = get_or gs j [] in
      let holds : (v.at GUEST).holds ≡ Some guest = first.1 ∙ ap (λ (h : List ℕ). Some h) (get_or-drop j gs 0 [] ∙ ap (λ (k : ℕ). get_or gs k []) (let e : j + 0 ≡ j = omega arith in e)) in
      let empty : (v.at GUEST).accepted ≡ Some [] = meets.accepted ∙ ap (λ (o : Option (List ℕ)). option_map (λ a. []) o) s.accepted in
      let given : Gives F guest (v.at GUEST) (u.at GUEST) = serves.told guest holds empty in
      let out : List ℕ = given.out in
      let count : ℕ = (w.at GUEST).faults in
      let last : ℕ = (u.at GUEST).faults in
      let since : u.crowd.since ≡ Some ((earlier ++ s.counts) ++ count ∷ []) = ap (λ (c : Crowd). c.since) touch.crowd ∙ meets.since ∙ ap (λ (o : Option (List ℕ)). option_map (λ l. l ++ count ∷ []) o) s.since in
      let gone : u.crowd.gone ≡ Some (others ++ s.outs) = ap (λ (c : Crowd). c.gone) touch.crowd ∙ meets.gone ∙ s.answers in
      let counts : List ℕ = s.counts ++ count ∷ [] in
      let outs : List (List ℕ) = s.outs ++ out ∷ [] in
      let many : length counts ≡ j + 1 = length_push s.counts count ∙ ap (λ (k : ℕ). k + 1) s.counts_size in
      record {
        outs = outs;
        counts = counts;
        present = out;
        there = omega (arith, first.0, length-drop j gs);
        guests = ap (λ (c : Crowd). c.guests) touch.crowd ∙ meets.guests ∙ ap (λ (o : Option (List (List ℕ))). option_map (drop 1) o) s.guests ∙ ap (λ (l : List (List ℕ)). Some l) (drop-drop 1 j gs);
        answers = (λ i. answers (since i) (gone i) (given.accepted i)) ∙ answers_push (earlier ++ s.counts) count (others ++ s.outs) out ∙ ap (λ (l : List (List ℕ)). Some l) (append_assoc others s.outs (out ∷ []));
        since = since ∙ ap (λ (l : List ℕ). Some l) (append_assoc earlier s.counts (count ∷ []));
        accepted = given.accepted;
        outs_size = length_push s.outs out ∙ ap (λ (k : ℕ). k + 1) s.outs_size;
        counts_size = many;
        each = λ i l. elim (cases_eq i j) [
          | inl is ↦
              let new : F guest out count last = subst (λ (k : ℕ). F guest out k last) meets.faults given.by in
              let a : out ≡ get_or outs i [] = sym (get_or_push s.outs out [] i (s.outs_size ∙ sym is)) in
              let b : count ≡ get_or counts i 0 = sym (get_or_push s.counts count 0 i (s.counts_size ∙ sym is)) in
              let d : last ≡ get_or (counts ++ last ∷ []) (i + 1) 0 = sym (get_or_push counts last 0 (i + 1) (omega (arith, many, is))) in
              let at : F (get_or gs i []) out count last = subst (λ (k : ℕ). F (get_or gs k []) out count last) (sym is) new in
              subst (λ (t : ℕ). F (get_or gs i []) (get_or outs i []) (get_or counts i 0) t) d (subst (λ (t : ℕ). F (get_or gs i []) (get_or outs i []) t last) b (subst (λ (t : List ℕ). F (get_or gs i []) t count last) a at))
          | inr ne ↦
              let below : i < j = omega (arith, l, ne) in
              let a : get_or s.outs i [] ≡ get_or outs i [] = sym (get_or_append_left s.outs (out ∷ []) [] i (omega (arith, s.outs_size, below))) in
              let b : get_or s.counts i 0 ≡ get_or counts i 0 = sym (get_or_append_left s.counts (count ∷ []) 0 i (omega (arith, s.counts_size, below))) in
              let d : get_or counts (i + 1) 0 ≡ get_or (counts ++ last ∷ []) (i + 1) 0 = sym (get_or_append_left counts (last ∷ []) 0 (i + 1) (omega (arith, many, below))) in
              subst (λ (t : ℕ). F (get_or gs i []) (get_or outs i []) (get_or counts i 0) t) d (subst (λ (t : ℕ). F (get_or gs i []) (get_or outs i []) t (get_or counts (i + 1) 0)) b (subst (λ (t : List ℕ). F (get_or gs i []) t (get_or s.counts i 0) (get_or counts (i + 1) 0)) a (s.each i below)))
        ];
      }

  -- before the first guest nobody was served
  pub served_none : (w : World) → Served F 0 w w
  served_none w = record { told = λ gs others earlier before a b c d. serving_none gs others earlier before w a b c d }

  -- what is done to other ports serves nobody
  pub served_still : (j p : ℕ) (w v u : World) → Served F j w v → Touches p v u → 6 ≢ p → Served F j w u
  served_still j p w v u s touch ne = record {
    told = λ gs others earlier before a b c d. serving_still gs others earlier j p v u (s.told gs others earlier before a b c d) touch ne;
  }

  -- one more guest is met, and served
  pub served_more : (j : ℕ) (w v m u : World) → Served F j w v → Meets v m → Touches GUEST m u → ServesOne F (m.at GUEST) (u.at GUEST) → Served F (j + 1) w u
  served_more j w v m u s meets touch serves = record {
    told = λ gs others earlier before a b c d. serving_more gs others earlier j v m u (s.told gs others earlier before a b c d) meets touch serves;
  }
