-- What a fetch finds where enough servers hold the database, by what a server replies to a query.
use Rattle.std.specs.Prelude.{◌≡◌, ℕ, ◌+◌, ◌*◌, ◌<◌, ◌≤◌, List, length, slice_index_or, All, Some, None}
use Rattle.std.specs.List.Sorted.{IsStrictlyIncreasing}
use Rattle.gf256.specs.Product.{IsMatrix}
use Rattle.wire_frames.specs.declared.scheme.TheConstants.{XOR}
use Rattle.wire_frames.specs.Answer.{answers}
use Rattle.wire_frames.specs.Session.{Transcript}
use Rattle.block_decoder.specs.declared.verdict.Verdict.{Verdict}
use Rattle.query_rounds.specs.declared.plan.FetchPlan.{FetchPlan}
use Rattle.fetch_client.specs.Held.{held_by}
use Rattle.query_rounds.specs.Sent.{sent}
use Rattle.fetch_client.specs.Honest.{ListsAlone, ListsAmong, blocks_of}
use Rattle.serve_core.specs.Reply.{Replies}
use Rattle.serve_core.specs.declared.met.Met.TheVariants.{Served}
use Rattle.commands.specs.HonestReply.{service_with}

-- the record at this place, counted from 0, is what a server that holds this matrix replies to the frame that it was
-- sent
pub record IsReplyAt (p : FetchPlan) (blocks coins : List ℕ) (matrix : List (List ℕ)) (session : Transcript) (place : ℕ) : Type 0 where
  pub frame : List ℕ
  pub recorded : slice_index_or session.records place None ≡ Some frame
  pub replied : Replies (service_with p matrix 1) (sent p blocks coins (1 + place)) Served frame

-- h of the records, or more, are what servers reply to the frames that they were sent, each of which holds the matrix or,
-- where the plan's tau isn't 0, its own share of it by these coins
pub record EnoughReply (p : FetchPlan) (blocks coins : List ℕ) (matrix : List (List ℕ)) (share_coins : List ℕ)
    (session : Transcript) : Type 0 where
  pub matrix_is : IsMatrix matrix p.r p.s
  pub shared : length share_coins ≡ p.r * p.s * p.tau
  pub places : List ℕ
  pub ascending : IsStrictlyIncreasing places
  pub within : All (λ j. j < length session.records) places
  pub enough : p.h ≤ length places
  pub each : All (λ j. IsReplyAt p blocks coins (held_by p.tau matrix p.s share_coins (1 + j)) session j) places

-- whatever the matrix that enough servers hold, or in shares by whatever coins: where the verdict lists blocks, the row that
-- is fetched is among them, and where 2 h > k + t + tau, it is listed alone; so it is in the XOR scheme, where h is n
pub record FindsHeldRow (p : FetchPlan) (blocks coins : List ℕ) (session : Transcript) (verdict : Verdict) : Type 0 where
  pub listed : (matrix : List (List ℕ)) (share_coins : List ℕ) → EnoughReply p blocks coins matrix share_coins session
      → ListsAmong verdict (blocks_of matrix blocks)
  pub alone : (matrix : List (List ℕ)) (share_coins : List ℕ) → EnoughReply p blocks coins matrix share_coins session
      → length (answers session) + p.t + p.tau < 2 * p.h → ListsAlone verdict (blocks_of matrix blocks)
  pub xor : p.scheme ≡ XOR → (matrix : List (List ℕ)) (share_coins : List ℕ)
      → EnoughReply p blocks coins matrix share_coins session → ListsAlone verdict (blocks_of matrix blocks)
