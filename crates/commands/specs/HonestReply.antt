-- What a server that holds the database replies to the query of a fetch.
use Rattle.std.specs.Prelude.{◌≡◌, ◌↔◌, ℕ, List, length}
use Rattle.gf256.specs.Product.{IsMatrix}
use Rattle.query_rounds.specs.declared.plan.FetchPlan.{FetchPlan}
use Rattle.query_rounds.specs.Plan.{query_params}
use Rattle.query_rounds.specs.Sent.{queries_from, session_number, sent}
use Rattle.fetch_client.specs.Honest.{honest_frame}
use Rattle.serve_core.specs.Service.{Service}
use Rattle.serve_core.specs.Reply.{Replies}
use Rattle.serve_core.specs.declared.met.Met.{Met}
use Rattle.serve_core.specs.declared.met.Met.TheVariants.{Served}

-- the server that holds this matrix, in the plan's scheme
abbrev pub service_with : FetchPlan → List (List ℕ) → ℕ → Service
service_with p matrix workers = record { database = record { rows = matrix; width = p.s }; scheme = p.scheme; workers = workers }

-- the frame of honest server i in the session that is fetched with these coins
abbrev pub frame_of : FetchPlan → List ℕ → List ℕ → List (List ℕ) → ℕ → List ℕ
frame_of p blocks coins matrix i =
    honest_frame (query_params p (length blocks) (session_number coins)) matrix (queries_from coins) blocks i

-- its reply to what it is sent is this frame, and nothing else
abbrev pub RepliesHonestly : FetchPlan → List ℕ → List ℕ → ℕ → List (List ℕ) → ℕ → Type 0
RepliesHonestly p blocks coins i matrix workers = IsMatrix matrix p.r p.s
    → (met : Met) (frame : List ℕ)
    → Replies (service_with p matrix workers) (sent p blocks coins i) met frame
    ↔ ((met ≡ Served) × (frame ≡ frame_of p blocks coins matrix i))
