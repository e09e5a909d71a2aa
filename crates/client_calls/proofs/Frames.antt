-- The frame that a server is sent: its parts, and its length.
use Rattle.std.proofs.Common.{◌≡◌, ◌∙◌, ℕ, ◌+◌, ◌<◌, List, ◌++◌, length, take, sym, ap, ap₂, length-append}
use Rattle.std.specs.Prelude.{Ok}
use Rattle.wire_frames.specs.declared.sizes.TheConstants.{FRAME_HEADER_LEN}
use Rattle.wire_frames.specs.Header.{query_header}
use Rattle.query_rounds.specs.declared.plan.FetchPlan.{FetchPlan}
use Rattle.query_rounds.specs.Plan.{query_params}
use Rattle.query_rounds.specs.Sent.{header_to, payload_for, queries_from, sent, session_number}
use Rattle.query_rounds.proofs.Schemes.{length-payload_for, payload_of_session}
use Rattle.client_calls.specs.declared.asking.Asking.{Asking}
use Rattle.client_calls.specs.Asking.{query_size}
use Rattle.client_calls.specs.Query.{Order, LacksRoom, TakesOrder, coins_of, frame_of}
use Rattle.client_calls.specs.Numbers.{plan_of}

-- a frame has as many bytes as a query is said to have
pub length-sent : (p : FetchPlan) (blocks coins : List ℕ) (i : ℕ) → length (sent p blocks coins i) ≡ query_size p (length blocks)
unfolding sent
length-sent p blocks coins i =
    let number = session_number coins in
    let params = query_params p (length blocks) number in
    length-append (query_header (header_to p (length blocks) coins i)) (payload_for params (queries_from coins) blocks i)
    ∙ ap (λ (n : ℕ). FRAME_HEADER_LEN + n) (length-payload_for params (queries_from coins) blocks i)

-- a header and a payload are a frame; a payload doesn't depend on the session's number
pub sent_is : (p : FetchPlan) (count : ℕ) (blocks coins : List ℕ) (i : ℕ) (header payload : List ℕ) → count ≡ length blocks
    → header ≡ query_header (header_to p count coins i) → payload ≡ payload_for (query_params p 1 0) (queries_from coins) blocks i
    → header ++ payload ≡ sent p blocks coins i
unfolding sent
sent_is p count blocks coins i header payload count_is a b =
    ap₂ (λ (x y : List ℕ). x ++ y) (a ∙ ap (λ (n : ℕ). query_header (header_to p n coins i)) count_is)
    (b ∙ payload_of_session p (length blocks) (session_number coins) (queries_from coins) blocks i)

-- what is asked for by an order has the length of its frame
pub length_is : (o : Order) (a : Asking) (wanted : ℕ) → TakesOrder o (Ok a) → wanted ≡ query_size a.plan a.count → wanted ≡ length (frame_of o)
length_is o a wanted taken size =
    size ∙ ap₂ query_size taken.2 taken.3 ∙ sym (length-sent (plan_of o.numbers) o.blocks (take (coins_of o) o.coins) o.index)

-- where the room is shorter, it lacks room
pub lacks_room : (o : Order) (a : Asking) (room : List ℕ) (wanted : ℕ) → TakesOrder o (Ok a) → wanted ≡ query_size a.plan a.count
    → length room < wanted → LacksRoom o room wanted
lacks_room o a room wanted taken size short = (taken.0, length_is o a wanted taken size, short)
