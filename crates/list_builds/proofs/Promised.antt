-- A good list is built.
use Rattle.std.proofs.Common.{◌≡◌, ◌∙◌, ℕ, ◌<◌, ◌≤◌, false, nat_lt, List, [], ◌∷◌, length, length-append, take, get_or, refl, sym, ap, ap₂, subst, arith}
use Rattle.std.specs.Prelude.{All, Option, None, Some, Result, Ok, Err}
use Rattle.std.proofs.Math.Seq.{get_or-append_seam}
use Rattle.std.proofs.lemmas.Bool.{cond-false, le-ltb}
use Rattle.std.proofs.lemmas.List.Elements.{Contains-get_or}
use Rattle.std.proofs.lemmas.Option.{none-some}
use Rattle.quantity_limits.specs.Shape.{IsShape}
use Rattle.port_trait.specs.World.{World}
use Rattle.port_trait.specs.Number.{COINS, INPUT}
use Rattle.port_trait.specs.Moves.{Rose}
use Rattle.port_trait.proofs.Cells.{at_told}
use Rattle.port_trait.proofs.Rises.{once_rose}
use Rattle.key_table.specs.Entry.{Pair}
use Rattle.key_table.specs.Held.{Held}
use Rattle.key_table.specs.KeyList.{AreSorted, IsClear}
use Rattle.key_table.specs.Places.{Clashes, pair_at}
use Rattle.key_table.specs.Shapes.{Passes}
use Rattle.key_table.specs.Sorting.{Sorted}
use Rattle.key_table.specs.Width.{width_of}
use Rattle.key_table.specs.declared.shape.ShapeFault.{ShapeFault}
use Rattle.key_table.specs.declared.shape.ShapeLimit.{ShapeLimit}
use Rattle.key_table.specs.declared.shape.ShapeLimit.TheVariants.{TooWide, TooLarge}
use Rattle.list_keys.specs.Form.{IsFirstFault, IsGood, fault_of, refusal_of}
use Rattle.list_keys.specs.Lines.{lines}
use Rattle.list_keys.specs.declared.fault.LineFault.{LineFault}
use Rattle.list_keys.specs.declared.form.Terms.{Terms}
use Rattle.list_builds.specs.Builds.{Builds, HasList}
use Rattle.list_builds.specs.CatalogText.{CutsText, catalog_port}
use Rattle.list_builds.specs.Gathering.{Gathered}
use Rattle.list_builds.specs.Layout.{LacksShape, ShapesFor, most_for}
use Rattle.list_builds.specs.Listed.{HasLines}
use Rattle.list_builds.specs.Listing.{longest_of, pairs_of}
use Rattle.list_builds.specs.Order.{Order, form_of, terms_of}
use Rattle.list_builds.specs.Promise.{BuildPromise, HasRows, IsGoodList, most_by, pairs_by}
use Rattle.list_builds.specs.declared.TheConstants.{SALT_SIZE}
use Rattle.list_builds.specs.declared.fault.Built.{Built}
use Rattle.list_builds.specs.declared.fault.BuildFault.{BuildFault}
use Rattle.list_builds.specs.declared.fault.BuildFault.TheVariants.{CoinsFault, CoinsEnded, KeysFault, NoLine, Refused, Clash, Unshaped, DatabaseFault, CatalogFault, Memory}
use Rattle.list_builds.proofs.Ascending.{sorted_once}

-- no line is refused, where nothing is wrong with any and there aren't too many
not_refused : (terms : Terms) (text : List (List ℕ)) (number : ℕ) (fault : LineFault) → All (IsGood terms.form) text
    → length text ≤ terms.most → IsFirstFault terms text number fault → ⊥
unfolding refusal_of
not_refused terms text number fault good few is =
    let place = length is.before in
    let size = ap length is.are ∙ length-append is.before (is.line ∷ is.behind) in
    let there : place < length text = omega (arith, size) in
    let at : get_or text place is.line ≡ is.line
    = ap (λ (t : List (List ℕ)). get_or t place is.line) is.are ∙ get_or-append_seam is.before is.line is.behind is.line in
    let own : fault_of terms.form is.line ≡ None = subst (IsGood terms.form) at (good place is.line there) in
    let no_more : nat_lt terms.most number ≡ false = le-ltb terms.most number (omega (arith, is.number_is, size, few)) in
    none-some fault (sym own ∙ sym (cond-false _ _ _ no_more) ∙ is.refused)

-- a clear list has no clash
no_clash : (pairs : List Pair) (earlier place : ℕ) → IsClear pairs → Clashes pairs earlier place → ⊥
no_clash pairs earlier place clear h =
    let none : Pair = record { digest = []; value = [] } in
    let one = Contains-get_or pairs earlier none (omega (arith, h.before, h.within)) in
    let other = Contains-get_or pairs place none h.within in
    h.value (ap (λ (p : Pair). p.value) (clear (pair_at pairs earlier) (pair_at pairs place) one other h.digest))

-- a shape passes no limit
passes_none : (limit : ShapeLimit) (rows width : ℕ) → IsShape rows width → Passes limit rows width → ⊥
passes_none TooWide rows width is passes = omega (arith, is.few_bytes, passes)
passes_none TooLarge rows width is passes = omega (arith, is.few_cells, passes.1)

-- rows that make a database have no fault
no_fault : (rows : Option ℕ) (sorted : Sorted) (fault : ShapeFault) → HasRows rows sorted.size sorted.most sorted.pairs
    → ShapesFor rows sorted (Err fault) → ⊥
no_fault None sorted fault has lacks = lacks.2 has.0 has.1
no_fault (Some rows) sorted fault is lacks =
    let own = subst (λ (r : ℕ). IsShape r (width_of sorted.size sorted.most r sorted.pairs)) (sym lacks.0) is in
    passes_none fault.limit fault.rows fault.width (subst (λ (w : ℕ). IsShape fault.rows w) (sym lacks.1.width) own) lacks.1.passes

-- the lines that were read are those that Input held
lines_held : (name : List ℕ) (given : List (List ℕ)) (text : List ℕ) (old new : World) → (old.at INPUT).holds ≡ Some text
    → HasLines name given (old.at INPUT) (new.at INPUT) → lines text ≡ given
lines_held name given text old new told has =
    ap lines (sym (at_told (λ (held : List ℕ). has.read ≡ held) (old.at INPUT).holds text told has.all)) ∙ has.are

-- Coins and Input held these bytes, a salt was taken, and a list was gathered
module _ (o : Order) (coins text salt : List ℕ) (list : Gathered) (old new : World) (in_coins : (old.at COINS).holds ≡ Some coins)
    (in_input : (old.at INPUT).holds ≡ Some text) (has : HasList o salt list old new) where
  -- its pairs are those of the text
  same_pairs : pairs_of salt o.digest (form_of o.values) has.listed.given ≡ pairs_by o coins text
  same_pairs =
      let first = at_told (λ (held : List ℕ). salt ≡ take SALT_SIZE held) (old.at COINS).holds coins in_coins has.salted.told in
      ap₂ (λ s given. pairs_of s o.digest (form_of o.values) given) first (sym (lines_held o.keys has.listed.given text old new in_input has.listed.has))

  held_pairs : list.held.pairs ≡ pairs_by o coins text
  held_pairs = ap (λ (held : Held). held.pairs) has.listed.gathers.held_is ∙ same_pairs

  same_most : most_for o.values list.longest ≡ most_by o coins text
  same_most = ap (most_for o.values) (has.listed.gathers.longest_is ∙ ap longest_of same_pairs)

  -- where that is a good list, rows make a database of it
  shaped : IsGoodList o coins text → (fault : ShapeFault) → LacksShape (most_for o.values list.longest) o.rows list.held fault → ⊥
  shaped good fault lacks =
      let sorted = lacks.sorted in
      let size_is : sorted.size ≡ o.digest = lacks.sorts.0 ∙ ap (λ (held : Held). held.size) has.listed.gathers.held_is in
      let most_is : sorted.most ≡ most_by o coins text = lacks.sorts.1 ∙ same_most in
      let own : AreSorted (most_by o coins text) (pairs_by o coins text) sorted.pairs
      = subst (λ (m : ℕ). AreSorted m (pairs_by o coins text) sorted.pairs) same_most
      (subst (λ (pairs : List Pair). AreSorted (most_for o.values list.longest) pairs sorted.pairs) held_pairs lacks.sorts.3) in
      let entries_are = sorted_once (most_by o coins text) (pairs_by o coins text) sorted.pairs good.entries own good.ascend in
      let rows = subst (λ (pairs : List Pair). HasRows o.rows sorted.size sorted.most pairs) (sym entries_are)
      (subst (λ (m : ℕ). HasRows o.rows sorted.size m good.entries) (sym most_is)
      (subst (λ (n : ℕ). HasRows o.rows n (most_by o coins text) good.entries) (sym size_is) good.rows)) in
      no_fault o.rows sorted fault rows lacks.shapes

-- where the catalog was cut short, a call on its port failed
cut_rose : (name : Option (List ℕ)) (text : List ℕ) (old new : World) → CutsText name text old new
    → Rose (old.at (catalog_port name)).faults (new.at (catalog_port name)).faults
cut_rose None text old new cut = once_rose _ _ cut.rose
cut_rose (Some name) text old new cut = once_rose _ _ cut.rose

-- whatever building answers, it keeps its promise
pub promise_kept : (o : Order) (result : Result Built BuildFault) (old new : World) → Builds o result old new → BuildPromise o result old new
promise_kept o (Ok built) old new h = λ coins text in_coins in_input good none. tt
promise_kept o (Err Memory) old new h = λ coins text in_coins in_input good none. refl
promise_kept o (Err CoinsFault) old new h = λ coins text in_coins in_input good none. absurd (none.0 (once_rose _ _ h.0.rose))
promise_kept o (Err (CoinsEnded taken)) old new h = λ coins text in_coins in_input good none.
    let all : length coins ≡ taken = at_told (λ (held : List ℕ). length held ≡ taken) (old.at COINS).holds coins in_coins h.0.all in
    absurd (omega (arith, all, h.0.fewer, good.salt))
promise_kept o (Err KeysFault) old new h = λ coins text in_coins in_input good none. absurd (none.1.0 (once_rose _ _ h.reads.rose))
promise_kept o (Err NoLine) old new h = λ coins text in_coins in_input good none.
    absurd (omega (arith, ap length (lines_held o.keys [] text old new in_input h.reads), good.some))
promise_kept o (Err (Refused number fault)) old new h = λ coins text in_coins in_input good none.
    absurd (not_refused (terms_of o.values) (lines text) number fault good.good good.few
    (at_told (λ (held : List ℕ). IsFirstFault (terms_of o.values) (lines held) number fault) (old.at INPUT).holds text in_input h.reads.first))
promise_kept o (Err (Clash first second)) old new h = λ coins text in_coins in_input good none.
    absurd (no_clash (pairs_by o coins text) h.lays.earlier h.lays.place good.clear
    (subst (λ (pairs : List Pair). Clashes pairs h.lays.earlier h.lays.place) (held_pairs o coins text h.salt h.list old new in_coins in_input h.has) h.lays.clash.clashes))
promise_kept o (Err (Unshaped fault)) old new h = λ coins text in_coins in_input good none.
    absurd (shaped o coins text h.salt h.list old new in_coins in_input h.has good fault h.lays)
promise_kept o (Err DatabaseFault) old new h = λ coins text in_coins in_input good none.
    absurd (none.1.1.0 (once_rose _ _ h.written.writes.0.rose))
promise_kept o (Err CatalogFault) old new h = λ coins text in_coins in_input good none.
    absurd (none.1.1.1.0 (cut_rose o.catalog _ old new h.written.writes.1))
