use Rattle.std.proofs.Common.{◌≡◌, ◌≢◌, ◌∙◌, ◌+◌, ◌-◌, ◌<◌, ◌≤◌, ℕ, List, [], length, map, string_bytes}
use Rattle.std.proofs.Common.{slice_index_or, refl, sym, ap, ap₂, subst, rules, arith}
use Rattle.std.proofs.lemmas.List.{length-map, get_or-map}
use Rattle.port_trait.specs.Number.{share_file}
use Rattle.port_trait.specs.Moves.{gave, named}
use Rattle.port_trait.specs.Each.{TouchesRange}
use Rattle.port_trait.specs.Files.{Unwritten}
use Rattle.port_trait.proofs.Ranges.{range_none}
use Rattle.quantity_limits.specs.declared.TheConstants.{MOST_SERVERS}
use Rattle.share_files.specs.Sharing.{share_of}
use Rattle.share_files.specs.Splits.{SharesEach}
use Rattle.share_files.proofs.Shares.{shares_more, shares_some}
use Rattle.share_files.proofs.splitting.write_shares.Goals as goal

-- the number of the next server fits a byte
next_number : (index done all : ℕ) → index ≡ done → done < all → all ≤ MOST_SERVERS → index + 1 ≤ MOST_SERVERS
next_number index done all is more few = omega arith

-- and is not 0
not_none : (index : ℕ) → index + 1 ≢ 0
not_none index e = omega arith

-- fewer names are left behind the next one
fewer_left : (done all : ℕ) → done < all → all - (done + 1) < all - done
fewer_left done all more = omega arith

-- at the end no name is left
all_named : (done all : ℕ) → done ≤ all → all ≤ done → done ≡ all
all_named done all few most = omega arith

pub shares-init : goal.shares-init
shares-init g c = record {
  number = refl;
  size = c.requires.room;
  so_far = search rules;
  others = range_none (share_file 1) (g.P.Ports.world c.args.ports.now);
}

pub shares-preserved : goal.shares-preserved
shares-preserved g c =
    let names = map string_bytes c.args.names.now in
    let sharing = c.args.sharing.now in
    let i = c.shares.name-index in
    let start = g.P.Ports.world c.args.ports.now in
    let before = g.P.Ports.world c.shares.ports in
    let after = g.P.Ports.world c.write_share.new.ports in
    let number : c.shares.index ≡ i = c.shares.invariant.number in
    let fewer : i < length names = omega (arith, c.shares-test.true, length-map c.args.names.now string_bytes) in
    let few : length names ≤ MOST_SERVERS = omega (arith, c.requires.few, length-map c.args.names.now string_bytes) in
    let next_index : c.shares.index + 1 ≡ i + 1 = omega (arith, number) in
    let name_is : c.deref.result.now ≡ slice_index_or names i [] = c.deref.ensures ∙ ap string_bytes c.name-item.is
    ∙ sym (get_or-map string_bytes c.args.names.now i _ [] c.shares-test.true) in
    let p = share_file (c.shares.index + 1) in
    let last : after.at p ≡ gave (share_of sharing (i + 1)) (named (slice_index_or names i []) (before.at p))
    = c.in-Ok.ensures.ok ∙ ap₂ (λ (k : ℕ) (n : List ℕ). gave (share_of sharing k) (named n (before.at p))) next_index name_is in
    let next = shares_more names sharing i p start before after fewer few (omega (arith, number))
    c.shares.invariant.so_far c.shares.invariant.others last c.write_share.ensures.others in
    record {
      number = search rules;
      size = search rules;
      so_far = next.0;
      others = next.1;
    }

pub returns-in_default-clause-written : goal.returns-in_default-clause-written
returns-in_default-clause-written g c =
    let names = map string_bytes c.args.names.now in
    let sharing = c.args.sharing.now in
    let i = c.shares.name-index in
    let start = g.P.Ports.world c.args.ports.now in
    let before = g.P.Ports.world c.shares.ports in
    let after = g.P.Ports.world c.write_share.new.ports in
    let number : c.shares.index ≡ i = c.shares.invariant.number in
    let fewer : i < length names = omega (arith, c.shares-test.true, length-map c.args.names.now string_bytes) in
    let few : length names ≤ MOST_SERVERS = omega (arith, c.requires.few, length-map c.args.names.now string_bytes) in
    let next_index : c.shares.index + 1 ≡ i + 1 = omega (arith, number) in
    let name_is : c.deref.result.now ≡ slice_index_or names i [] = c.deref.ensures ∙ ap string_bytes c.name-item.is
    ∙ sym (get_or-map string_bytes c.args.names.now i _ [] c.shares-test.true) in
    let p = share_file (c.shares.index + 1) in
    let cut = subst (λ (k : ℕ). Unwritten p (slice_index_or names i []) (share_of sharing k) before after) next_index
    (subst (λ (n : List ℕ). Unwritten p n (share_of sharing (c.shares.index + 1)) before after) name_is c.in_default.ensures.failed) in
    shares_some names sharing i p start before after fewer few (omega (arith, number))
    c.shares.invariant.so_far c.shares.invariant.others cut c.write_share.ensures.others

pub overflow_add-index : goal.overflow_add-index
overflow_add-index g c =
    let next = next_number c.shares.index c.shares.name-index (length c.args.names.now) c.shares.invariant.number c.shares-test.true c.requires.few in
    omega (arith, next)

pub write_share-requires-clause-index : goal.write_share-requires-clause-index
write_share-requires-clause-index g c = not_none c.shares.index

pub write_share-requires-clause-room : goal.write_share-requires-clause-room
write_share-requires-clause-room g c = c.shares.invariant.size

pub shares-smaller : goal.shares-smaller
shares-smaller g c = fewer_left c.shares.name-index (length c.args.names.now) c.shares-test.true

pub returns-clause-written : goal.returns-clause-written
returns-clause-written g c =
    let names = map string_bytes c.args.names.now in
    let all : c.shares.name-index ≡ length names
    = all_named c.shares.name-index (length c.args.names.now) c.shares.auto.name-index-end c.shares-test.false ∙ sym (length-map c.args.names.now string_bytes) in
    subst (λ (n : ℕ). SharesEach names c.args.sharing.now n (g.P.Ports.world c.args.ports.now) (g.P.Ports.world c.shares.ports)) all c.shares.invariant.so_far

pub returns-clause-others : goal.returns-clause-others
returns-clause-others g c =
    subst (λ (n : ℕ). TouchesRange (share_file 1) n (g.P.Ports.world c.args.ports.now) (g.P.Ports.world c.shares.ports))
    (all_named c.shares.name-index (length c.args.names.now) c.shares.auto.name-index-end c.shares-test.false) c.shares.invariant.others
