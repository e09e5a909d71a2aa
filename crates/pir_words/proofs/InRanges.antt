-- The values of a command are in their ranges.
use Rattle.std.proofs.Common.{◌≡◌, inr, ℕ, ◌+◌, ◌<◌, ◌≤◌, ◌-◌, ◌==◌, ◌&&◌, List, length, Option, Some, codes, refl, sym, lit<, subst, arith, unwrap_or, ◌/◌, ap}
use Rattle.std.specs.Prelude.{is_none, nat_le, nat_lt}
use Rattle.std.specs.Int.{div_ceil}
use Rattle.std.proofs.lemmas.Bool.{and_parts, eqb-true, leb-true, ltb-true}
use Rattle.std.specs.Result.{result_ok}
use Rattle.std.specs.Prelude.{Result, Ok, Err, IfOk}
use Rattle.hex.specs.declared.FromHexError.{FromHexError}
use Rattle.clap.specs.Words.{Row, Text, all_of, first_of}
use Rattle.quantity_limits.specs.Shape.{IsShape}
use Rattle.wire_frames.proofs.Counts.{single_count}
use Rattle.quantity_limits.specs.declared.TheConstants.{LEAST_SERVERS, MOST_GUESTS, MOST_SERVERS, MOST_WIDTH}
use Rattle.wire_frames.specs.declared.scheme.Scheme.{Scheme}
use Rattle.wire_frames.specs.declared.scheme.Scheme.TheVariants.{Shamir, Xor}
use Rattle.wire_frames.specs.declared.scheme.TheConstants.{XOR}
use Rattle.wire_frames.specs.Scheme.{number_of}
use Rattle.pir_words.specs.Numbers.{flag_in, limited, number, number_in}
use Rattle.pir_words.specs.Ranges.{FitsSession, block_in, scheme_in, servers_in, sharing_in, sharing_of, sizes_in, workers_in}
use Rattle.pir_words.specs.ReplayForm.{replay_of}
use Rattle.pir_words.specs.FetchForm.{IsSharedFetch, shared_in, addresses_in, blocks_in, fetch_of, fetch_sharing_in, tau_in, xor_sharing_in}
use Rattle.pir_words.specs.ServeForm.{serve_of}
use Rattle.pir_words.specs.SelfrunForm.{selfrun_of}
use Rattle.pir_words.specs.DemoForm.{demo_of}
use Rattle.pir_words.specs.LookUpForm.{key_in, key_named, lookup_of}
use Rattle.pir_words.specs.SplitForm.{split_of, tau_among}
use Rattle.pir_words.specs.FrontForm.{front_of, shard_addresses_in}
use Rattle.hex.specs.Hex.{decode_of}
use Rattle.hex.proofs.HexLemmas.{decode_of-ok}
use Rattle.key_search.specs.Spelled.{spells_bytes}
use Rattle.pir_words.specs.Form.{InRange, IsReadAs}
use Rattle.pir_words.specs.declared.TheConstants.{LEAST_PORT, MOST_PORT, MOST_TAU}
use Rattle.quantity_limits.specs.declared.TheConstants.{MOST_SHARDS}
use Rattle.pir_words.specs.declared.ranges.Sizes.{Sizes}
use Rattle.pir_words.specs.declared.ranges.Sharing.{Sharing}
use Rattle.pir_words.specs.declared.asked.Asked.{Asked}
use Rattle.pir_words.specs.declared.asked.Asked.TheVariants.{Replay}
use Rattle.pir_words.specs.declared.asked.WordsFault.{WordsFault}
use Rattle.pir_words.proofs.Chains.{some_is, test_of, value_of}
use Rattle.pir_words.proofs.ValuesInRange.{block_range, blocks_range, limited_range, number_range, scheme_range, servers_range, shamir_fits, sharing_range, sizes_range, workers_range}

-- all of n servers, and all but one
xor_range : (n : ℕ) (m : List Row) (sharing : Sharing) → xor_sharing_in n m ≡ Some sharing → (LEAST_SERVERS ≤ n) × (record { degree = n - 1; agree = n } ≡ sharing)
unfolding xor_sharing_in
xor_range n m sharing e =
    let none = test_of (is_none (first_of (codes "degree") m) && is_none (first_of (codes "agree") m)) _ sharing e in
    let two = test_of (nat_le LEAST_SERVERS n) _ sharing none.1 in
    (leb-true LEAST_SERVERS n two.0, some_is _ sharing two.1)

-- with which a session of the XOR scheme may be, where the database isn't shared
xor_fits : (sizes : Sizes) (n tau : ℕ) → IsShape sizes.rows sizes.width → LEAST_SERVERS ≤ n → n ≤ MOST_SERVERS → tau ≡ 0
    → FitsSession XOR (sharing_of (n - 1 + tau) n) n sizes
xor_fits sizes n tau shape two few whole = record {
  scheme = inr refl;
  private = omega (arith, two, whole);
  few_private = omega (arith, two, few, whole);
  agreement = omega (arith, two, whole);
  few_agree = few;
  servers = omega arith;
  few_servers = few;
  all_agree = λ e. omega (arith, two, whole);
  all_answer = λ e. refl;
  session = lit< tt;
  shape = shape;
  blocks = single_count sizes.rows sizes.width shape;
}

-- a session may have the sharing of a fetch
fetch_fits : (scheme : Scheme) (n : ℕ) (sizes : Sizes) (m : List Row) (sharing : Sharing) (tau : ℕ)
    → IsShape sizes.rows sizes.width → n ≤ MOST_SERVERS
    → fetch_sharing_in scheme n m ≡ Some sharing → tau_in scheme sharing m ≡ Some tau
    → IsSharedFetch (number_of scheme) sizes sharing tau n
unfolding fetch_sharing_in tau_in
fetch_fits Shamir n sizes m sharing tau shape few e f =
    let shares = sharing_range n m sharing e in
    let given = value_of (number (unwrap_or (first_of (codes "tau") m) (codes "0"))) _ tau f in
    let tested = test_of (nat_le given.0 MOST_TAU && nat_lt (sharing.degree + given.0) sharing.agree) _ tau given.2 in
    let less = ltb-true _ _ (and_parts (nat_le given.0 MOST_TAU) (nat_lt (sharing.degree + given.0) sharing.agree) tested.0).1 in
    let is = some_is given.0 tau tested.1 in
    record {
      numbers = shamir_fits sizes (shared_in tau sharing) n shape (record {
        private = omega (arith, shares.private);
        few_private = omega (arith, less, is, shares.servers, few);
        agreement = omega (arith, less, is);
        servers = shares.servers;
      }) few;
      private = shares.private;
      held_whole = λ two. omega (arith, two);
    }
fetch_fits Xor n sizes m sharing tau shape few e f =
    let all = xor_range n m sharing e in
    let none = test_of (is_none (first_of (codes "tau") m)) _ tau f in
    let whole = sym (some_is 0 tau none.1) in
    subst (λ (z : Sharing). IsSharedFetch XOR sizes z tau n) all.1 (record {
      numbers = xor_fits sizes n tau shape all.0 few whole;
      private = let two = all.0 in omega (arith, two);
      held_whole = λ e. whole;
    })

-- there are no more addresses than there may be
pub addresses_range : (m : List Row) (addresses : List Text) → addresses_in m ≡ Some addresses → length addresses ≤ MOST_SERVERS
unfolding addresses_in
addresses_range m addresses e =
    let given = value_of (all_of (codes "addresses") m) _ addresses e in
    let tested = test_of (nat_le (length given.0) MOST_SERVERS) _ addresses given.2 in
    subst (λ (xs : List Text). length xs ≤ MOST_SERVERS) (some_is _ addresses tested.1) (leb-true _ _ tested.0)

-- the values of `replay`
pub replay_range : (m : List Row) (asked : Asked) → replay_of m ≡ Some asked → InRange asked
unfolding replay_of
replay_range m asked e =
    let file = value_of (first_of (codes "file") m) _ asked e in
    subst InRange (some_is (Replay file.0 (flag_in (codes "report") m)) asked file.2) (record {
      fetch = tt {0};
      serve = tt {0};
      selfrun = tt {0};
      demo = tt {0};
      lookup = tt {0};
      split = tt {0};
      front = tt {0};
    })

-- the values of `fetch`
pub fetch_range : (m : List Row) (asked : Asked) → fetch_of m ≡ Some asked → InRange asked
unfolding fetch_of
fetch_range m asked e =
    let sizes = value_of (sizes_in m) _ asked e in
    let blocks = value_of (blocks_in sizes.0 m) _ asked sizes.2 in
    let scheme = value_of (scheme_in m) _ asked blocks.2 in
    let addresses = value_of (addresses_in m) _ asked scheme.2 in
    let n = length addresses.0 in
    let sharing = value_of (fetch_sharing_in scheme.0 n m) _ asked addresses.2 in
    let tau = value_of (tau_in scheme.0 sharing.0 m) _ asked sharing.2 in
    subst InRange (some_is _ asked tau.2) (record {
      fetch = record {
        shared = fetch_fits scheme.0 n sizes.0 m sharing.0 tau.0 (sizes_range m sizes.0 sizes.1)
            (addresses_range m addresses.0 addresses.1) sharing.1 tau.1;
        together = blocks_range sizes.0 m blocks.0 blocks.1;
      };
      serve = tt {0};
      selfrun = tt {0};
      demo = tt {0};
      lookup = tt {0};
      split = tt {0};
      front = tt {0};
    })

-- the values of `serve`
pub serve_range : (m : List Row) (asked : Asked) → serve_of m ≡ Some asked → InRange asked
unfolding serve_of
serve_range m asked e =
    let width = value_of (limited (codes "width") 1 MOST_WIDTH m) _ asked e in
    let conns = value_of (limited (codes "conns") 1 MOST_GUESTS m) _ asked width.2 in
    let scheme = value_of (scheme_in m) _ asked conns.2 in
    let workers = value_of (workers_in m) _ asked scheme.2 in
    let database = value_of (first_of (codes "database") m) _ asked workers.2 in
    let listen = value_of (first_of (codes "listen") m) _ asked database.2 in
    let s = limited_range _ _ _ m _ width.1 in
    let n = limited_range _ _ _ m _ conns.1 in
    let w = workers_range m workers.0 workers.1 in
    subst InRange (some_is _ asked listen.2) (record {
      fetch = tt {0};
      serve = record {
        known = scheme_range scheme.0;
        some_bytes = s.0;
        few_bytes = s.1;
        some_conns = n.0;
        few_conns = n.1;
        some_workers = w.0;
        few_workers = w.1;
      };
      selfrun = tt {0};
      demo = tt {0};
      lookup = tt {0};
      split = tt {0};
      front = tt {0};
    })

-- the values of `selfrun`
pub selfrun_range : (m : List Row) (asked : Asked) → selfrun_of m ≡ Some asked → InRange asked
unfolding selfrun_of
selfrun_range m asked e =
    let seed = value_of (number_in (codes "seed") m) _ asked e in
    let sizes = value_of (sizes_in m) _ asked seed.2 in
    let servers = value_of (servers_in m) _ asked sizes.2 in
    let n = servers.0 in
    let sharing = value_of (sharing_in n m) _ asked servers.2 in
    let liars = value_of (limited (codes "liars") 0 n m) _ asked sharing.2 in
    let workers = value_of (workers_in m) _ asked liars.2 in
    let w = workers_range m workers.0 workers.1 in
    subst InRange (some_is _ asked workers.2) (record {
      fetch = tt {0};
      serve = tt {0};
      selfrun = record {
        few_seeds = number_range _ m seed.0 seed.1;
        numbers = shamir_fits sizes.0 sharing.0 n (sizes_range m sizes.0 sizes.1)
            (sharing_range n m sharing.0 sharing.1) (servers_range m n servers.1).1;
        few_liars = (limited_range _ _ _ m _ liars.1).1;
        some_workers = w.0;
        few_workers = w.1;
      };
      demo = tt {0};
      lookup = tt {0};
      split = tt {0};
      front = tt {0};
    })

-- the values of `demo`
pub demo_range : (m : List Row) (asked : Asked) → demo_of m ≡ Some asked → InRange asked
unfolding demo_of
demo_range m asked e =
    let port = value_of (limited (codes "port") LEAST_PORT MOST_PORT m) _ asked e in
    let database = value_of (first_of (codes "database") m) _ asked port.2 in
    let sizes = value_of (sizes_in m) _ asked database.2 in
    let block = value_of (block_in sizes.0.rows m) _ asked sizes.2 in
    let servers = value_of (servers_in m) _ asked block.2 in
    let n = servers.0 in
    let sharing = value_of (sharing_in n m) _ asked servers.2 in
    let p = limited_range _ _ _ m _ port.1 in
    subst InRange (some_is _ asked sharing.2) (record {
      fetch = tt {0};
      serve = tt {0};
      selfrun = tt {0};
      demo = record {
        some_port = p.0;
        few_ports = p.1;
        numbers = shamir_fits sizes.0 sharing.0 n (sizes_range m sizes.0 sizes.1)
            (sharing_range n m sharing.0 sharing.1) (servers_range m n servers.1).1;
        block = block_range sizes.0.rows m block.0 block.1;
      };
      lookup = tt {0};
      split = tt {0};
      front = tt {0};
    })

-- the key is not empty, and not longer than a row
key_range : (width : ℕ) (m : List Row) (key : List ℕ) → key_in width m ≡ Some key → (1 ≤ length key) × (length key ≤ width)
unfolding key_in key_named
key_range width m key e =
    let text = value_of (first_of (codes "key") m) _ key e in
    let spells = test_of (spells_bytes text.0) _ key text.2 in
    let short = test_of (nat_le (length text.0 / 2) width) _ key spells.1 in
    let half = (decode_of-ok text.0 key (decoded (decode_of text.0) short.1)).2 in
    let some = ltb-true 0 (length text.0) (and_parts _ _ (and_parts _ _ spells.0).0).0 in
    let few = leb-true (length text.0 / 2) width short.0 in
    (omega (arith, half, some), omega (arith, half, few))
  where
    -- a key that is read is one that is spelled
    decoded : (r : Result (List ℕ) FromHexError) → result_ok r ≡ Some key → r ≡ Ok key
    decoded (Ok bytes) is = ap Ok (some_is bytes key is)
    decoded (Err fault) is = cc

-- the values of `lookup`
pub lookup_range : (m : List Row) (asked : Asked) → lookup_of m ≡ Some asked → InRange asked
unfolding lookup_of
lookup_range m asked e =
    let sizes = value_of (sizes_in m) _ asked e in
    let key = value_of (key_in sizes.0.width m) _ asked sizes.2 in
    let addresses = value_of (addresses_in m) _ asked key.2 in
    let n = length addresses.0 in
    let sharing = value_of (sharing_in n m) _ asked addresses.2 in
    let size = key_range sizes.0.width m key.0 key.1 in
    subst InRange (some_is _ asked sharing.2) (record {
      fetch = tt {0};
      serve = tt {0};
      selfrun = tt {0};
      demo = tt {0};
      lookup = record {
        numbers = shamir_fits sizes.0 sharing.0 n (sizes_range m sizes.0 sizes.1)
            (sharing_range n m sharing.0 sharing.1) (addresses_range m addresses.0 addresses.1);
        some_key = size.0;
        short_key = size.1;
      };
      split = tt {0};
      front = tt {0};
    })

-- the degree is at least 1, and less than the number of servers
tau_range : (n : ℕ) (m : List Row) (tau : ℕ) → tau_among n m ≡ Some tau → (1 ≤ tau) × (tau < n)
unfolding tau_among
tau_range n m tau e =
    let given = value_of (number_in (codes "tau") m) _ tau e in
    let tested = test_of (nat_le 1 given.0 && nat_lt given.0 n) _ tau given.2 in
    let both = and_parts (nat_le 1 given.0) (nat_lt given.0 n) tested.0 in
    subst (λ k. (1 ≤ k) × (k < n)) (some_is given.0 tau tested.1) (leb-true _ _ both.0, ltb-true _ _ both.1)

-- the values of `split`
pub split_range : (m : List Row) (asked : Asked) → split_of m ≡ Some asked → InRange asked
unfolding split_of
split_range m asked e =
    let width = value_of (limited (codes "width") 1 MOST_WIDTH m) _ asked e in
    let servers = value_of (servers_in m) _ asked width.2 in
    let tau = value_of (tau_among servers.0 m) _ asked servers.2 in
    let database = value_of (first_of (codes "database") m) _ asked tau.2 in
    let into = value_of (first_of (codes "into") m) _ asked database.2 in
    let s = limited_range _ _ _ m _ width.1 in
    let u = tau_range servers.0 m tau.0 tau.1 in
    subst InRange (some_is _ asked into.2) (record {
      fetch = tt {0};
      serve = tt {0};
      selfrun = tt {0};
      demo = tt {0};
      lookup = tt {0};
      split = record {
        some_bytes = s.0;
        few_bytes = s.1;
        few_servers = (servers_range m servers.0 servers.1).1;
        some_tau = u.0;
        few_tau = u.1;
      };
      front = tt {0};
    })

-- there is one address for each shard, and no more of them than a front asks
shard_addresses_range : (r k : ℕ) (m : List Row) (addresses : List Text) → shard_addresses_in r k m ≡ Some addresses
    → (length addresses ≡ div_ceil r k) × (length addresses ≤ MOST_SHARDS)
unfolding shard_addresses_in
shard_addresses_range r k m addresses e =
    let given = value_of (all_of (codes "addresses") m) _ addresses e in
    let tested = test_of ((length given.0 == div_ceil r k) && nat_le (length given.0) MOST_SHARDS) _ addresses given.2 in
    let both = and_parts (length given.0 == div_ceil r k) (nat_le (length given.0) MOST_SHARDS) tested.0 in
    subst (λ (xs : List Text). (length xs ≡ div_ceil r k) × (length xs ≤ MOST_SHARDS)) (some_is _ addresses tested.1)
    (eqb-true _ _ both.0, leb-true _ _ both.1)

-- the values of `front`
pub front_range : (m : List Row) (asked : Asked) → front_of m ≡ Some asked → InRange asked
unfolding front_of
front_range m asked e =
    let sizes = value_of (sizes_in m) _ asked e in
    let shard = value_of (limited (codes "shard") 1 sizes.0.rows m) _ asked sizes.2 in
    let conns = value_of (limited (codes "conns") 1 MOST_GUESTS m) _ asked shard.2 in
    let addresses = value_of (shard_addresses_in sizes.0.rows shard.0 m) _ asked conns.2 in
    let listen = value_of (first_of (codes "listen") m) _ asked addresses.2 in
    let k = limited_range _ _ _ m _ shard.1 in
    let n = limited_range _ _ _ m _ conns.1 in
    let each = shard_addresses_range _ _ m addresses.0 addresses.1 in
    subst InRange (some_is _ asked listen.2) (record {
      fetch = tt {0};
      serve = tt {0};
      selfrun = tt {0};
      demo = tt {0};
      lookup = tt {0};
      split = tt {0};
      front = record {
        shape = sizes_range m sizes.0 sizes.1;
        some_on_each = k.0;
        within = k.1;
        one_for_each = each.0;
        few_shards = each.1;
        some_conns = n.0;
        few_conns = n.1;
      };
    })

-- what is read is in its ranges, where what is wanted is
pub in_range : (wanted : Option Asked) (r : Result Asked WordsFault) → ((asked : Asked) → wanted ≡ Some asked → InRange asked)
    → IsReadAs wanted r → IfOk r InRange
in_range wanted (Ok asked) ranges read = ranges asked read
in_range wanted (Err fault) ranges read = tt
