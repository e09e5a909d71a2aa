use Rattle.std.proofs.Common.{◌≡◌, ◌∙◌, ℕ, ◌*◌, ◌<◌, List, length, map, string_bytes, sym, subst, rules, arith}
use Rattle.std.specs.Prelude.{Result, Ok, Err}
use Rattle.std.specs.Result.{IsErrAnd}
use Rattle.port_trait.specs.World.{World}
use Rattle.port_trait.specs.Number.{COINS, share_file}
use Rattle.port_trait.specs.Moves.{Touches}
use Rattle.port_trait.specs.Each.{TouchesRange}
use Rattle.share_files.specs.SplitPlan.{SplitPlan, share_names}
use Rattle.share_files.specs.Splits.{Splits, SplitsWhole, SplitsPart, TakesCoins, TouchesShares}
use Rattle.share_files.specs.declared.fault.SplitFault.{SplitFault}
use Rattle.share_files.specs.declared.fault.SplitFault.TheVariants.{CoinsFault, CoinsEnded, ShareFault, Memory}
use Rattle.share_files.proofs.Shares.{whole_split, part_split}
use Rattle.share_files.proofs.splitting.split_bytes.Goals as goal

-- without the coins no file is opened
no_coins : (p : SplitPlan) (bytes : List ℕ) (fault : SplitFault) (result : Result (Unit {0}) SplitFault) (coins : List ℕ) (w v : World)
    → IsErrAnd result (λ told. told ≡ fault) → TakesCoins p.coins (length bytes * p.tau) (Err fault) coins w v → Touches COINS w v
    → Splits p bytes result w v
no_coins p bytes fault (Ok x) coins w v h taken touch = absurd h
no_coins p bytes CoinsFault (Err told) coins w v h taken touch =
    subst (λ (f : SplitFault). Splits p bytes (Err f) w v) (sym h) (taken, touch)
no_coins p bytes (CoinsEnded n) (Err told) coins w v h taken touch =
    subst (λ (f : SplitFault). Splits p bytes (Err f) w v) (sym h) (taken, touch)
no_coins p bytes ShareFault (Err told) coins w v h taken touch = absurd taken
no_coins p bytes Memory (Err told) coins w v h taken touch = absurd taken

pub returns-in_err-take_coins-clause-splits : goal.returns-in_err-take_coins-clause-splits
returns-in_err-take_coins-clause-splits g c =
    let plan = c.args.plan.now in
    let fault = c.in_err-take_coins.field-0.0 in
    let coins = c.take_coins.new.coins in
    let start = g.P.Ports.world c.args.ports.now in
    let mid = g.P.Ports.world c.take_coins.new.ports in
    let named = subst (λ (p : SplitPlan). TakesCoins p.coins (length c.args.coins.now) (Err fault) coins start mid) c.plan.view_is
    c.in_err-take_coins.ensures.taken in
    no_coins plan c.args.bytes.now fault c.from_residual.result coins start mid c.from_residual.ensures.1
    (subst (λ (n : ℕ). TakesCoins plan.coins n (Err fault) coins start mid) c.requires.coins named) c.take_coins.ensures.others

pub returns-in_err-take_coins-clause-others : goal.returns-in_err-take_coins-clause-others
returns-in_err-take_coins-clause-others g c =
    let touch = c.take_coins.ensures.others in
    record { others = λ q lt off on. touch.others q lt off; crowd = touch.crowd; started = touch.started }

pub returns-in-Ok-clause-splits : goal.returns-in-Ok-clause-splits
returns-in-Ok-clause-splits g c =
    let start = g.P.Ports.world c.args.ports.now in
    let mid = g.P.Ports.world c.take_coins.new.ports in
    let end = g.P.Ports.world c.write_shares.new.ports in
    let bytes = c.args.bytes.now in
    let back = sym c.plan.view_is in
    let names = map string_bytes c.args.names.now in
    let few : c.plan.inside.servers < 256 = search rules in
    let are = subst (λ (p : SplitPlan). names ≡ share_names p.into p.servers) back c.requires.names in
    let count = subst (λ (p : SplitPlan). length c.args.names.now ≡ p.servers) back c.requires.count in
    let size = subst (λ (p : SplitPlan). length c.args.coins.now ≡ length bytes * p.tau) back c.requires.coins in
    subst (λ (p : SplitPlan). SplitsWhole p bytes start end) c.plan.view_is
    (whole_split _ bytes _ names _ _ start mid end few are count size c.in_ok-take_coins.ensures.taken
    c.take_coins.ensures.others c.write_shares.ensures.others c.in-Ok.ensures.written)

pub returns-in-Err-clause-splits : goal.returns-in-Err-clause-splits
returns-in-Err-clause-splits g c =
    let start = g.P.Ports.world c.args.ports.now in
    let mid = g.P.Ports.world c.take_coins.new.ports in
    let end = g.P.Ports.world c.write_shares.new.ports in
    let bytes = c.args.bytes.now in
    let back = sym c.plan.view_is in
    let names = map string_bytes c.args.names.now in
    let few : c.plan.inside.servers < 256 = search rules in
    let are = subst (λ (p : SplitPlan). names ≡ share_names p.into p.servers) back c.requires.names in
    let count = subst (λ (p : SplitPlan). length c.args.names.now ≡ p.servers) back c.requires.count in
    let size = subst (λ (p : SplitPlan). length c.args.coins.now ≡ length bytes * p.tau) back c.requires.coins in
    subst (λ (p : SplitPlan). SplitsPart p bytes start end) c.plan.view_is
    (part_split _ bytes _ names _ _ start mid end few are count size c.in_ok-take_coins.ensures.taken
    c.take_coins.ensures.others c.write_shares.ensures.others c.in-Err.ensures.written)

-- Coins alone were touched, and then the files of the shares
both_touched : (n m : ℕ) (w v u : World) → n ≡ m → Touches COINS w v → TouchesRange (share_file 1) n v u → TouchesShares m w u
both_touched n m w v u same touch range =
    let all : TouchesRange (share_file 1) m v u = subst (λ (k : ℕ). TouchesRange (share_file 1) k v u) same range in
    record {
      others = λ q lt off on. all.others q lt on ∙ touch.others q lt off;
      crowd = all.crowd ∙ touch.crowd;
      started = all.started ∙ touch.started;
    }

pub returns-in-Ok-clause-others : goal.returns-in-Ok-clause-others
returns-in-Ok-clause-others g c =
    both_touched _ _ (g.P.Ports.world c.args.ports.now) (g.P.Ports.world c.take_coins.new.ports) (g.P.Ports.world c.write_shares.new.ports)
    c.requires.count c.take_coins.ensures.others c.write_shares.ensures.others

pub returns-in-Err-clause-others : goal.returns-in-Err-clause-others
returns-in-Err-clause-others g c =
    both_touched _ _ (g.P.Ports.world c.args.ports.now) (g.P.Ports.world c.take_coins.new.ports) (g.P.Ports.world c.write_shares.new.ports)
    c.requires.count c.take_coins.ensures.others c.write_shares.ensures.others

pub write_shares-requires-clause-few : goal.write_shares-requires-clause-few
write_shares-requires-clause-few g c =
    let few : c.plan.inside.servers < 256 = search rules in
    let count = subst (λ (p : SplitPlan). length c.args.names.now ≡ p.servers) (sym c.plan.view_is) c.requires.count in
    omega (arith, few, count)

pub write_shares-requires-clause-room : goal.write_shares-requires-clause-room
write_shares-requires-clause-room g c = c.requires.room

pub invariant_of-sharing : goal.invariant_of-sharing
invariant_of-sharing g c =
    let few : c.plan.inside.servers < 256 = search rules in
    let degree = c.plan.invariant in
    let size = subst (λ (p : SplitPlan). length c.args.coins.now ≡ length c.args.bytes.now * p.tau) (sym c.plan.view_is) c.requires.coins in
    record {
      some = c.requires.some;
      some_degree = degree.0;
      few_degrees = omega (arith, few, degree.1);
      enough = c.take_coins.auto.coins ∙ size;
    }
