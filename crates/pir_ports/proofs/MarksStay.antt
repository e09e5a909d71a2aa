-- What marks say of links stays, however much is put behind.
use Rattle.std.proofs.Common.{◌≡◌, inl, inr, ℕ, ◌-◌, ◌<◌, ◌≤◌, List, [], ◌∷◌, ◌++◌, length, map, set, get_or, refl, sym, ◌∙◌, ap, arith, length-append}
use Rattle.std.specs.Prelude.{All, Some, slice_range}
use Rattle.std.specs.List.{AllByRecursion}
use Rattle.std.proofs.lemmas.Bool.{cases_eq}
use Rattle.std.proofs.lemmas.List.{append-nil, get_or-set_same, get_or-set_other, set-get_or, map_push}
use Rattle.std.proofs.lemmas.List.Elements.{recursion_from_All, All-push}
use Rattle.port_trait.specs.declared.port.TheConstants.{LINK_COUNT}
use Rattle.pir_ports.specs.declared.cell.Mark.{Mark}
use Rattle.port_trait.specs.World.{LinkThen}
use Rattle.port_trait.specs.Number.{link}
use Rattle.pir_ports.specs.MemoryCell.{MemoryCell, empty_cell}
use Rattle.pir_ports.specs.Marks.{no_mark, link_by, links_by, LiesAmong, MarksEach}
use Rattle.pir_ports.specs.CellList.{CellList, with_cell, with_links, link_in, links_in}
use Rattle.pir_ports.specs.CellsInside.{list_by}
use Rattle.port_trait.proofs.Links.{by_links-same}
use Rattle.pir_ports.proofs.WordSpans.{range-append}

-- these bytes, and maybe more behind them
pub record Longer (bytes now : List ℕ) : Type 0 where
  pub more : List ℕ
  pub is : now ≡ bytes ++ more

-- nothing was put to a link but behind what was put before
pub record Extends (cells now : List MemoryCell) : Type 0 where
  pub each : (i : ℕ) → i < LINK_COUNT → Longer (get_or cells (link i) empty_cell).bytes (get_or now (link i) empty_cell).bytes

-- one mark says what it said
link_stays : (bytes now : List ℕ) (m : Mark) → m.to ≤ length bytes → Longer bytes now → link_by now m ≡ link_by bytes m
link_stays bytes now m le longer = λ i. record {
  holds = Some ((ap (λ (l : List ℕ). slice_range l m.from m.to) longer.is ∙ range-append bytes longer.more m.from m.to le) i);
  faults = m.faults;
}

module _ (cells now : List MemoryCell) (extends : Extends cells now) where
  -- the marks of one row say what they said
  row_stays : (row : List Mark) → LiesAmong cells row → links_by now row ≡ links_by cells row
  row_stays row lies = by_links-same (λ i. link_by (get_or now (link i) empty_cell).bytes (get_or row i no_mark)) (λ i. link_by (get_or cells (link i) empty_cell).bytes (get_or row i no_mark))
      (λ i l. link_stays (get_or cells (link i) empty_cell).bytes (get_or now (link i) empty_cell).bytes (get_or row i no_mark) (lies.each i l) (extends.each i l))

  -- the marks of all rows do
  all_stay : (rows : List (List Mark)) → AllByRecursion (LiesAmong cells) rows → map (links_by now) rows ≡ map (links_by cells) rows
  all_stay [] all = refl
  all_stay (row ∷ rows) all = λ i. row_stays row all.0 i ∷ all_stay rows all.1 i

  pub rows_stay : (rows : List (List Mark)) → All (LiesAmong cells) rows → map (links_by now) rows ≡ map (links_by cells) rows
  rows_stay rows all = all_stay rows (recursion_from_All (LiesAmong cells) rows all)

  -- the marks of one row lie in what was put
  row_lies : (row : List Mark) → LiesAmong cells row → LiesAmong now row
  row_lies row lies = record {
    each = λ i l.
        let longer : Longer (get_or cells (link i) empty_cell).bytes (get_or now (link i) empty_cell).bytes = extends.each i l in
        omega (arith, lies.each i l, ap length longer.is, length-append (get_or cells (link i) empty_cell).bytes longer.more);
  }

  -- the marks of all rows do
  pub rows_lie : (rows : List (List Mark)) → All (LiesAmong cells) rows → All (LiesAmong now) rows
  rows_lie rows all = λ k d l. row_lies (get_or rows k d) (all k d l)

-- one port was changed, to which more was put or nothing
pub port_extends : (cells : List MemoryCell) (p : ℕ) (c : MemoryCell) (more : List ℕ) → p < length cells → c.bytes ≡ (get_or cells p empty_cell).bytes ++ more → Extends cells (set cells p c)
port_extends cells p c more lt is = record {
  each = λ i l. elim (cases_eq p (link i)) [
    | inl same ↦ record {
      more = more;
      is = ap (λ (k : ℕ). (get_or (set cells p c) k empty_cell).bytes) (sym same) ∙ ap (λ (x : MemoryCell). x.bytes) (get_or-set_same cells p c empty_cell lt)
          ∙ is ∙ ap (λ (k : ℕ). (get_or cells k empty_cell).bytes ++ more) same;
    }
    | inr ne ↦ record {
      more = [];
      is = ap (λ (x : MemoryCell). x.bytes) (get_or-set_other cells p (link i) c empty_cell (λ e. ne (sym e))) ∙ sym (append-nil (get_or cells (link i) empty_cell).bytes);
    }
  ];
}

-- the port was changed, to which nothing was put
pub still_extends : (cells : List MemoryCell) (p : ℕ) (c : MemoryCell) → p < length cells → c.bytes ≡ (get_or cells p empty_cell).bytes → Extends cells (set cells p c)
still_extends cells p c lt is = port_extends cells p c [] lt (is ∙ sym (append-nil (get_or cells p empty_cell).bytes))

-- Guest is no link
pub guest_extends : (cells : List MemoryCell) (c : MemoryCell) → Extends cells (set cells 6 c)
guest_extends cells c = record {
  each = λ i l. record {
    more = [];
    is = ap (λ (x : MemoryCell). x.bytes) (get_or-set_other cells 6 (link i) c empty_cell (λ e. omega (arith, e))) ∙ sym (append-nil (get_or cells (link i) empty_cell).bytes);
  };
}

-- the list with one port changed
pub one_changed : (cells : List MemoryCell) (rows : List (List Mark)) (room p : ℕ) (f : MemoryCell → MemoryCell) (c : MemoryCell) (list : CellList) → Extends cells (set cells p c) → All (LiesAmong cells) rows
    → c ≡ f (get_or cells p empty_cell) → list_by cells rows room ≡ list → list_by (set cells p c) rows room ≡ with_cell p f list
one_changed cells rows room p f c list extends lie is view =
    (λ i. record { cells = set cells p (is i); links = rows_stay cells (set cells p c) extends rows lie i; room = room }) ∙ ap (with_cell p f) view

-- the list with one port as it was
pub one_same : (cells : List MemoryCell) (rows : List (List Mark)) (room p : ℕ) (c : MemoryCell) (list : CellList) → Extends cells (set cells p c) → All (LiesAmong cells) rows
    → c ≡ get_or cells p empty_cell → list_by cells rows room ≡ list → list_by (set cells p c) rows room ≡ list
one_same cells rows room p c list extends lie is view = one_changed cells rows room p (λ (x : MemoryCell). x) c list extends lie is view ∙ (λ i. record list { cells = set-get_or list.cells p empty_cell i })

-- marks that say what the links hold now say so where they are read
row_says : (cells : List MemoryCell) (row : List Mark) → MarksEach cells row → links_by cells row ≡ links_in cells
row_says cells row marks = by_links-same (λ i. link_by (get_or cells (link i) empty_cell).bytes (get_or row i no_mark)) (λ i. link_in (get_or cells (link i) empty_cell))
    (λ i l. let m = marks.each i l in λ j. record { holds = Some (m.holds j); faults = m.faults j })

-- and they lie in what was put
row_in : (cells : List MemoryCell) (row : List Mark) → MarksEach cells row → LiesAmong cells row
row_in cells row marks = record { each = λ i l. let m = marks.each i l in m.within }

-- the list with one row more, and soundness
pub row_kept : (cells : List MemoryCell) (rows now : List (List Mark)) (room : ℕ) (row : List Mark) (list : CellList) → MarksEach cells row → now ≡ rows ++ row ∷ [] → list_by cells rows room ≡ list
    → list_by cells now (room - 1) ≡ with_links list
row_kept cells rows now room row list marks is view =
    (λ i. record {
      cells = cells;
      links = (ap (map (links_by cells)) is ∙ map_push (links_by cells) rows row ∙ ap (λ (l : List LinkThen). map (links_by cells) rows ++ l ∷ []) (row_says cells row marks)) i;
      room = room - 1;
    }) ∙ ap with_links view

-- where the marks of each row lie within their cells, they do with one row more
pub row_lies_too : (cells : List MemoryCell) (rows : List (List Mark)) (row : List Mark) → All (LiesAmong cells) rows → MarksEach cells row → All (LiesAmong cells) (rows ++ row ∷ [])
row_lies_too cells rows row lie marks = All-push (LiesAmong cells) rows row lie (row_in cells row marks)
