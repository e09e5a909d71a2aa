-- The names that openings have among the words.
use Rattle.std.proofs.Common.{◌≡◌, ◌≢◌, ℕ, zero, suc, get_or, ◌+◌, ◌-◌, ◌<◌, List, [], ◌∷◌, ◌++◌, length, map, drop, refl, sym, ◌∙◌, ap, arith}
use Rattle.std.specs.Prelude.{All, Some, slice_get}
use Rattle.std.specs.List.{AllByRecursion}
use Rattle.std.proofs.lemmas.Bool.Decides.{nat_tests}
use Rattle.std.proofs.lemmas.List.{at_drop_more, get_or-map, length-map, map_push, get_or_append_left, get_or_push}
use Rattle.std.proofs.lemmas.List.Elements.{recursion_from_All}
use Rattle.std.proofs.lemmas.Option.{slice_get-get_or}
use Rattle.pir_ports.specs.Names.{name_at, HasWord}
use Rattle.pir_ports.specs.NameLog.{names_of}
use Rattle.pir_ports.specs.declared.names.Opening.{Opening}

-- more words leave the names as they are
pub names-append : (words more : List (List ℕ)) (os : List Opening) → AllByRecursion (HasWord words) os
    → map (name_at (words ++ more)) os ≡ map (name_at words) os
names-append words more [] all = refl
names-append words more (o ∷ os) all = λ i. (o.port, get_or_append_left words more [] o.word all.0 i) ∷ names-append words more os all.1 i

-- a word more, with its opening, is one name more
pub names-push : (words : List (List ℕ)) (word : List ℕ) (os : List Opening) (o : Opening) → All (HasWord words) os
    → o.word ≡ length words
    → map (name_at (words ++ word ∷ [])) (os ++ o ∷ []) ≡ map (name_at words) os ++ (o.port, word) ∷ []
names-push words word os o all is =
    map_push (name_at (words ++ word ∷ [])) os o
    ∙ ap (λ (l : List (ℕ × List ℕ)). l ++ name_at (words ++ word ∷ []) o ∷ []) (names-append words (word ∷ []) os (recursion_from_All (HasWord words) os all))
    ∙ ap (λ (w : List ℕ). map (name_at words) os ++ (o.port, w) ∷ []) (get_or_push words word [] o.word (sym is))

-- a search through the openings, which has come to opening i
module _ (port : ℕ) (words : List (List ℕ)) (openings : List Opening) (i : ℕ) (d : Opening) (lt : i < length openings) where
  -- the names of the openings
  abbrev names : List (ℕ × List ℕ)
  names = map (name_at words) openings

  -- the opening that the search has come to
  abbrev here : Opening
  here = get_or openings i d

  -- the names from opening i on begin with its name
  at_opening : (left : ℕ)
      → slice_get (names_of port (drop i names)) left ≡ slice_get (names_of port (name_at words here ∷ drop (i + 1) names)) left
  at_opening left =
      at_drop_more (λ ws. slice_get (names_of port ws) left) names i (name_at words d) (omega (arith, lt, length-map openings (name_at words)))
      ∙ ap (λ w. slice_get (names_of port (w ∷ drop (i + 1) names)) left) (get_or-map (name_at words) openings i d (name_at words d) lt)

  -- the name that is looked for is that of opening i
  pub name_here : (left : ℕ) → here.port ≡ port → left ≡ 0 → here.word < length words
      → slice_get (names_of port (drop i names)) left ≡ slice_get words here.word
  name_here left is none there =
      at_opening left ∙ (let e : slice_get (names_of port (name_at words here ∷ drop (i + 1) names)) left ≡ Some (get_or words here.word []) = grind (arith, nat_tests) in e)
      ∙ sym (slice_get-get_or words here.word [] there)

  -- opening i is of the port, but an earlier one than the one that is looked for
  pub name_next : (left : ℕ) → here.port ≡ port → left ≢ 0
      → slice_get (names_of port (drop i names)) left ≡ slice_get (names_of port (drop (i + 1) names)) (left - 1)
  name_next zero is some = absurd (some refl)
  name_next (suc left) is some = at_opening (suc left) ∙ (let e : slice_get (names_of port (name_at words here ∷ drop (i + 1) names)) (suc left) ≡ slice_get (names_of port (drop (i + 1) names)) (suc left - 1) = grind (arith, nat_tests) in e)

  -- opening i is of another port
  pub name_skip : (left : ℕ) → here.port ≢ port
      → slice_get (names_of port (drop i names)) left ≡ slice_get (names_of port (drop (i + 1) names)) left
  name_skip left ne = at_opening left ∙ (let e : slice_get (names_of port (name_at words here ∷ drop (i + 1) names)) left ≡ slice_get (names_of port (drop (i + 1) names)) left = grind (arith, nat_tests) in e)
