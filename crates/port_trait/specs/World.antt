-- What is told of the outside, seen by the numbers of its ports.
use Rattle.std.specs.Prelude.{ℕ, List, [], ◌∷◌, ◌++◌, map, Option, Some, None}
use Rattle.std.specs.List.{range_with_len}
use Rattle.port_trait.specs.declared.port.TheConstants.{LINK_COUNT}
use Rattle.port_trait.specs.Number.{GUEST, link}

-- what is told of one port: the names it was opened with, the bytes still to come, the bytes it took,
-- and always the count of its failed calls
pub record Cell : Type 0 where
  pub opened : Option (List (List ℕ))
  pub holds : Option (List ℕ)
  pub accepted : Option (List ℕ)
  pub faults : ℕ

-- what is told of a link as a guest came in: the bytes that were still to come, and its count
pub record LinkThen : Type 0 where
  pub holds : Option (List ℕ)
  pub faults : ℕ

-- what is told of guests: the bytes of those still to come, the count of Guest as each so far came in, what
-- those that left were given, and what each link held and its count as each so far came in
pub record Crowd : Type 0 where
  pub guests : Option (List (List ℕ))
  pub since : Option (List ℕ)
  pub gone : Option (List (List ℕ))
  pub links : Option (List (List LinkThen))

-- what is told of each port, of the guests, and of children: the lists of words with which one was started
pub record World : Type 0 where
  pub at : ℕ → Cell
  pub crowd : Crowd
  pub started : Option (List (List (List ℕ)))

-- what each guest so far was given, by the counts as they came in: those that left, and last, if any came in,
-- the one that is in
abbrev pub everyone : List ℕ → List (List ℕ) → List ℕ → List (List ℕ)
everyone [] gone present = gone
everyone (n ∷ since) gone present = gone ++ present ∷ []

-- the same where it is told
abbrev pub answers : Option (List ℕ) → Option (List (List ℕ)) → Option (List ℕ) → Option (List (List ℕ))
answers (Some since) (Some left) (Some present) = Some (everyone since left present)
answers None left present = None
answers (Some since) None present = None
answers (Some since) (Some left) None = None

-- what each guest so far was given, in their order, the present one last
abbrev pub answered : World → Option (List (List ℕ))
answered w = answers w.crowd.since w.crowd.gone (w.at GUEST).accepted

-- a link for each number
unfoldable pub by_links : (ℕ → LinkThen) → List LinkThen
by_links f = map f (range_with_len 0 LINK_COUNT)

-- what is told of a link now
abbrev pub link_now : Cell → LinkThen
link_now c = record { holds = c.holds; faults = c.faults }

-- what is told of each link now
abbrev pub links_now : World → List LinkThen
links_now w = by_links (λ i. link_now (w.at (link i)))
