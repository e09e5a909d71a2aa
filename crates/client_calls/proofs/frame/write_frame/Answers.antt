use Rattle.std.proofs.Common.{◌≡◌, ◌∙◌, ◌-◌, ℕ, List, length, take, drop, ap, arith}
use Rattle.std.proofs.lemmas.List.{length-drop, take_all}
use Rattle.query_rounds.specs.declared.coins.TheConstants.{NUMBER_LEN}
use Rattle.query_rounds.specs.Plan.{query_params}
use Rattle.query_rounds.specs.Sent.{payload_for}
use Rattle.client_calls.proofs.Frames.{sent_is}
use Rattle.client_calls.proofs.frame.write_frame.Goals as goal

-- the coins from a place on are all behind it
rest_is : (n : ℕ) (coins : List ℕ) → take (length coins - n) (drop n coins) ≡ drop n coins
rest_is n coins = take_all (length coins - n) (drop n coins) (omega (arith, length-drop n coins))

pub returns : goal.returns
returns c =
    let plan = c.args.asking.now.plan in
    let blocks = c.args.blocks.now in
    let index = c.args.index in
    sent_is plan c.args.asking.now.count blocks c.args.coins.now index
    c.write_header.new.out c.write_payload.new.out c.requires.count c.write_header.ensures
    (c.write_payload.ensures
    ∙ ap (λ (l : List ℕ). payload_for (query_params plan 1 0) l blocks index) (rest_is NUMBER_LEN c.args.coins.now))
