-- What each server is sent in a search.
use Rattle.std.specs.Prelude.{ℕ, List, map}
use Rattle.query_rounds.specs.declared.plan.FetchPlan.{FetchPlan}
use Rattle.list_finds.specs.Queries.{Query, frame_in}

-- the frame of each query to server i
abbrev pub frames_to : FetchPlan → ℕ → List Query → List (List ℕ)
frames_to p i queries = map (frame_in p i) queries
