-- A list is built, step by step: the salt, the list, its table, and what is written.
use Rattle.std.proofs.Common.{◌≡◌, ◌≢◌, ◌∙◌, inl, inr, ℕ, ◌<◌, List, length, sym, ap, subst, arith}
use Rattle.std.specs.Prelude.{All, Option, None, Some, Result, Ok, Err}
use Rattle.std.specs.Result.{IsErrAnd}
use Rattle.port_trait.specs.World.{Cell, World}
use Rattle.port_trait.specs.Number.{COINS, INPUT, RECORD}
use Rattle.port_trait.specs.Moves.{Touches, gave, named}
use Rattle.port_trait.specs.declared.port.TheConstants.{PORT_COUNT}
use Rattle.key_table.specs.Entry.{IsPair}
use Rattle.list_builds.specs.Builds.{Builds, BuildsAll, BuildsPart, HasList, TouchesRead, WritesOut}
use Rattle.list_builds.specs.CatalogOf.{text_in}
use Rattle.list_builds.specs.CatalogText.{catalog_port}
use Rattle.list_builds.specs.Gathering.{Gathered}
use Rattle.list_builds.specs.Laid.{Laid, bytes_in}
use Rattle.list_builds.specs.Layout.{CanLayOut, IsLaidOut, most_for}
use Rattle.list_builds.specs.Listed.{IsListed, ReadsList}
use Rattle.list_builds.specs.Order.{IsOrder, Order, form_of, terms_of}
use Rattle.list_builds.specs.Salt.{IsSalt, Salted}
use Rattle.list_builds.specs.Writing.{TouchesWritten, WritesList}
use Rattle.list_builds.specs.declared.order.Values.{Values}
use Rattle.list_builds.specs.declared.fault.Built.{Built}
use Rattle.list_builds.specs.declared.fault.BuildFault.{BuildFault}
use Rattle.list_builds.specs.declared.fault.BuildFault.TheVariants.{DatabaseFault, CatalogFault, Memory}
use Rattle.list_builds.proofs.Carried.{unwritten_before}
use Rattle.list_builds.proofs.Gathers.{count_gathered}
use Rattle.list_builds.proofs.Laying.{most_fits, pairs_are, values_fit}
use Rattle.list_builds.proofs.Written.{cut_text_before, text_before}

-- the catalog's port is neither of those that are read
catalog_unread : (name : Option (List ℕ)) → (COINS ≢ catalog_port name) × (INPUT ≢ catalog_port name) × (catalog_port name < PORT_COUNT)
catalog_unread None = (λ e. omega (arith, e), λ e. omega (arith, e), omega arith)
catalog_unread (Some name) = (λ e. omega (arith, e), λ e. omega (arith, e), omega arith)

-- the salt counts, whatever other ports do later
salt_stays : (name salt : List ℕ) (w v u : World) → u.at COINS ≡ v.at COINS → Salted name salt w v → Salted name salt w u
salt_stays name salt w v u same h = subst (λ (c : Cell). IsSalt name salt (w.at COINS) c) (sym same) h

-- the salt was taken, and then the list was read
module _ (o : Order) (salt : List ℕ) (w v u : World) (salted : Salted o.coins salt w v) (one : Touches COINS w v) (other : Touches INPUT v u) where
  -- Input was as it had been
  input_same : v.at INPUT ≡ w.at INPUT
  input_same = one.others INPUT (omega arith) (λ e. omega (arith, e))

  salted_still : Salted o.coins salt w u
  salted_still = salt_stays o.coins salt w v u (other.others COINS (omega arith) (λ e. omega (arith, e))) salted

  -- there is a list
  pub has_list : (list : Gathered) → ReadsList o.keys salt o.digest (terms_of o.values) (Ok list) v u → HasList o salt list w u
  has_list list h = record {
    salted = salted_still;
    listed = subst (λ (c : Cell). IsListed o.keys salt o.digest (terms_of o.values) list c (u.at INPUT)) input_same h;
  }

-- a gathered list can be laid out
pub can_lay_out : (name salt : List ℕ) (digest : ℕ) (values : Values) (rows : Option ℕ) (list : Gathered) (old new : Cell)
    → IsOrder digest values rows → IsListed name salt digest (terms_of values) list old new → CanLayOut values rows list
can_lay_out name salt digest values rows list old new is listed =
    let count = count_gathered salt digest (form_of values) listed.given list.held list.longest listed.gathers in
    record {
      some = omega (arith, count, listed.some);
      few = omega (arith, count, listed.few);
      short = values_fit salt digest values listed.given list.held list.longest listed.whole listed.gathers;
      most = most_fits salt digest values listed.given list.held list.longest is.short_values listed.whole listed.gathers;
      some_rows = is.some_rows;
      few_rows = is.few_rows;
    }

-- the list was read, and then it was written
module _ (o : Order) (salt : List ℕ) (list : Gathered) (laid : Laid) (w v u : World) (is : IsOrder o.digest o.values o.rows)
    (has : HasList o salt list w v) (read : TouchesRead w v)
    (is_laid : IsLaidOut salt (most_for o.values list.longest) o.rows list.held laid) (touch : TouchesWritten o.catalog v u) where
  catalog_same : v.at (catalog_port o.catalog) ≡ w.at (catalog_port o.catalog)
  catalog_same =
      let apart = catalog_unread o.catalog in
      read.others (catalog_port o.catalog) apart.2 (λ e. apart.0 (sym e)) (λ e. apart.1 (sym e))

  record_same : v.at RECORD ≡ w.at RECORD
  record_same = read.others RECORD (omega arith) (λ e. omega (arith, e)) (λ e. omega (arith, e))

  -- what was read is as it was
  has_still : HasList o salt list w u
  has_still =
      let apart = catalog_unread o.catalog in
      let coins : u.at COINS ≡ v.at COINS = touch.others COINS (omega arith) (λ e. omega (arith, e)) apart.0 in
      let input : u.at INPUT ≡ v.at INPUT = touch.others INPUT (omega arith) (λ e. omega (arith, e)) apart.1 in
      record {
        salted = salt_stays o.coins salt w v u coins has.salted;
        listed = subst (λ (c : Cell). IsListed o.keys salt o.digest (terms_of o.values) list (w.at INPUT) c) (sym input) has.listed;
      }

  -- what was written counts from before
  table_before : u.at RECORD ≡ gave (bytes_in laid) (named o.database (v.at RECORD)) → u.at RECORD ≡ gave (bytes_in laid) (named o.database (w.at RECORD))
  table_before h = h ∙ ap (λ (c : Cell). gave (bytes_in laid) (named o.database c)) record_same

  writes_before : (r : Result (Unit {0}) BuildFault) → WritesList o.database o.catalog laid r v u → WritesList o.database o.catalog laid r w u
  writes_before (Ok x) h = (table_before h.0, text_before (text_in laid) w v u o.catalog catalog_same h.1)
  writes_before (Err CatalogFault) h = (table_before h.0, cut_text_before (text_in laid) w v u o.catalog catalog_same h.1)
  writes_before (Err DatabaseFault) h = (unwritten_before RECORD w v u record_same o.database (bytes_in laid) h.0, h.1 ∙ catalog_same)
  writes_before (Err Memory) h = (elim h.0 [ inl left ↦ inl (left ∙ record_same) | inr whole ↦ inr (table_before whole) ], h.1 ∙ catalog_same)
  writes_before (Err fault) h = absurd h

  -- each pair of the list may stand in a table
  pairs_of_table : All (IsPair o.digest laid.sorted.most) list.held.pairs
  pairs_of_table =
      let listed = has.listed in
      subst (λ (m : ℕ). All (IsPair o.digest m) list.held.pairs) (sym is_laid.sorts.1)
      (pairs_are salt o.digest o.values listed.given list.held list.longest is.short_digest listed.whole listed.gathers)

  -- so it is written out
  written_out : (r : Result (Unit {0}) BuildFault) → WritesList o.database o.catalog laid r v u → WritesOut o laid list r w u
  written_out r h = record {
    has = subst (λ (s : List ℕ). HasList o s list w u) (sym is_laid.salt_is) has_still;
    is_laid = subst (λ (s : List ℕ). IsLaidOut s (most_for o.values list.longest) o.rows list.held laid) (sym is_laid.salt_is) is_laid;
    pairs = pairs_of_table;
    writes = writes_before r h;
  }

  -- the whole of it
  pub built_all : (built : Built) (x : Unit {0}) → WritesList o.database o.catalog laid (Ok x) v u → built.entries ≡ length laid.sorted.pairs
      → built.rows ≡ laid.shape.rows → built.width ≡ laid.shape.width → built.all_end_with_return ≡ list.returns → BuildsAll o built w u
  built_all built x h entries rows width returns = record {
    laid = laid;
    list = list;
    written = written_out (Ok x) h;
    entries = entries;
    rows = rows;
    width = width;
    returns = returns;
  }

  -- or a part
  part : (fault : BuildFault) → WritesList o.database o.catalog laid (Err fault) v u → BuildsPart o fault w u
  part fault h = record { laid = laid; list = list; written = written_out (Err fault) h }

  pub built_part : (fault : BuildFault) (r : Result Built BuildFault) → IsErrAnd r (λ told. told ≡ fault)
      → WritesList o.database o.catalog laid (Err fault) v u → Builds o r w u
  built_part fault (Ok built) told_is h = absurd told_is
  built_part CatalogFault (Err told) told_is h = subst (λ (f : BuildFault). Builds o (Err f) w u) (sym told_is) (part CatalogFault h)
  built_part DatabaseFault (Err told) told_is h = subst (λ (f : BuildFault). Builds o (Err f) w u) (sym told_is) (part DatabaseFault h)
  built_part Memory (Err told) told_is h = subst (λ (f : BuildFault). Builds o (Err f) w u) (sym told_is) (inr (part Memory h))
  built_part fault (Err told) told_is h = absurd h
