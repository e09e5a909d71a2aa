-- Guests in memory.
use Rattle.std.proofs.Common.{◌≡◌, ℕ, ◌+◌, ◌-◌, ◌<◌, ◌≤◌, List, [], ◌∷◌, ◌++◌, length, map, take, drop, set, get_or, refl, sym, ◌∙◌, ap, arith, length-drop, length-append}
use Rattle.std.specs.Prelude.{Some, slice_get}
use Rattle.std.proofs.lemmas.List.{get_or-set_same, get_or-set_other, get_or-map, get_or-take, get_or-drop, get_or_append_left, length-map, length-take-le, drop-map, map_push, take_more_set, drop-append-le, drop-set-lt, drop-drop}
use Rattle.std.proofs.lemmas.Option.{slice_get-get_or}
use Rattle.port_trait.specs.World.{everyone}
use Rattle.pir_ports.specs.MemoryCell.{MemoryCell, empty_cell, came_in}
use Rattle.pir_ports.specs.CellList.{CellList, with_cell, with_links}
use Rattle.pir_ports.specs.NameLog.{names_of}
use Rattle.pir_ports.specs.Memory.{Memory, told, held_by, cell_at, met, called, next_call, world_of}
use Rattle.pir_ports.specs.PortsInside.{given_to, memory_of, IsSound}
use Rattle.port_trait.specs.Guests.{Meets}
use Rattle.pir_ports.specs.declared.memory.MemPorts.TheInside.{Inside}

-- the guest that was in leaves its cell where the next one waited
gone_next : (guests : List MemoryCell) (many : ℕ) (since : List ℕ) (before : MemoryCell) → many < length guests → length since ≡ many
    → map given_to (drop 1 (take (many + 1) (set guests many before))) ≡ everyone since (map given_to (drop 1 (take many guests))) before.accepted
gone_next guests many [] before lt size =
    let none : many ≡ 0 = sym size in
    ap (λ (l : List MemoryCell). map given_to (drop 1 l)) (take_more_set guests many before lt)
    ∙ ap (λ (k : ℕ). map given_to (drop 1 (take k guests ++ before ∷ []))) none
    ∙ ap (λ (k : ℕ). map given_to (drop 1 (take k guests))) (sym none)
gone_next guests many (n ∷ since) before lt size =
    ap (λ (l : List MemoryCell). map given_to (drop 1 l)) (take_more_set guests many before lt)
    ∙ ap (map given_to) (drop-append-le 1 (take many guests) (before ∷ []) (omega (arith, size, length-take-le many guests (omega (arith, lt)))))
    ∙ map_push given_to (drop 1 (take many guests)) before

-- what the fields are once the next guest is in
pub next_is : (m : Inside) (calls : ℕ) (cells : CellList) (before : MemoryCell) (since : List ℕ) → IsSound m → m.met < length m.guests.items → calls ≡ next_call m.calls → before ≡ get_or m.cells.cells 6 empty_cell
    → cells ≡ with_cell 6 (came_in (get_or m.guests.items m.met empty_cell)) (with_links m.cells) → since ≡ m.since.items ++ (get_or m.cells.cells 6 empty_cell).faults ∷ []
    → ◌≡◌ {A = Memory} (record {
      cut = m.cut;
      fail = m.fail.items;
      calls = calls;
      cells = cells.cells;
      waiting = drop (m.met + 1) (set m.guests.items m.met before);
      gone = map given_to (drop 1 (take (m.met + 1) (set m.guests.items m.met before)));
      since = since;
      links = cells.links;
      log = m.names;
    }) (met (called (memory_of m)))
next_is m calls cells before since sound lt call before_is cells_is since_is =
    let waits : get_or m.guests.items m.met empty_cell ≡ get_or (drop m.met m.guests.items) 0 empty_cell =
    ap (λ (k : ℕ). get_or m.guests.items k empty_cell) (let e : m.met ≡ m.met + 0 = omega arith in e) ∙ sym (get_or-drop m.met m.guests.items 0 empty_cell) in
    let waiting = drop-set-lt (m.met + 1) m.guests.items m.met before (omega arith) ∙ sym (drop-drop 1 m.met m.guests.items) in
    let gone = gone_next m.guests.items m.met m.since.items before lt sound.since ∙ ap (λ (c : MemoryCell). everyone m.since.items (map given_to (drop 1 (take m.met m.guests.items))) c.accepted) before_is in
    λ i. record {
      cut = m.cut;
      fail = m.fail.items;
      calls = call i;
      cells = (ap (λ (l : CellList). l.cells) cells_is ∙ ap (λ (c : MemoryCell). set m.cells.cells 6 (came_in c (get_or m.cells.cells 6 empty_cell))) waits) i;
      waiting = waiting i;
      gone = gone i;
      since = since_is i;
      links = (cells_is i).links;
      log = m.names;
    }

-- the first guest that waits is met
pub meets_next : (m : Memory) → 0 < length m.waiting → 6 < length m.cells → Meets (world_of m) (world_of (met m))
meets_next m some ports =
    let guest : MemoryCell = came_in (get_or m.waiting 0 empty_cell) (cell_at m 6) in
    let here : get_or (set m.cells 6 guest) 6 empty_cell ≡ guest = get_or-set_same m.cells 6 guest empty_cell ports in
    record {
      first = (
        omega (arith, some, length-map m.waiting held_by),
        ap (λ (c : MemoryCell). Some c.holds) here ∙ ap (λ (l : List ℕ). Some l) (sym (get_or-map held_by m.waiting 0 empty_cell [] some)),
      );
      guests = ap (λ (l : List (List ℕ)). Some l) (sym (drop-map held_by 1 m.waiting));
      since = refl;
      gone = refl;
      links = refl;
      accepted = ap (λ (c : MemoryCell). Some c.accepted) here;
      opened = refl;
      faults = ap (λ (c : MemoryCell). c.faults) here;
      others = λ q l ne. ap (told (names_of q m.log.names)) (get_or-set_other m.cells 6 q guest empty_cell ne);
      started = refl;
    }

-- a guest that came in and left was given what lies one place behind its own
pub answer_before : (guests : List MemoryCell) (many i : ℕ) (since present : List ℕ) → many ≤ length guests → length since ≡ many → i + 1 < many
    → slice_get (everyone since (map given_to (drop 1 (take many guests))) present) i ≡ Some (get_or guests (i + 1) empty_cell).accepted
answer_before guests many i [] present le size lt = absurd (omega (arith, size, lt))
answer_before guests many i (n ∷ since) present le size lt =
    let left : List MemoryCell = drop 1 (take many guests) in
    let left_size : length left ≡ many - 1 = omega (arith, length-drop 1 (take many guests), length-take-le many guests le) in
    let gone : List (List ℕ) = map given_to left in
    let gone_size : length gone ≡ many - 1 = length-map left given_to ∙ left_size in
    let back : 1 + i ≡ i + 1 = omega arith in
    slice_get-get_or (gone ++ present ∷ []) i [] (omega (arith, length-append gone (present ∷ []), gone_size, lt))
    ∙ ap (λ (l : List ℕ). Some l) (get_or_append_left gone (present ∷ []) [] i (omega (arith, gone_size, lt))
    ∙ get_or-map given_to left i empty_cell [] (omega (arith, left_size, lt))
    ∙ ap given_to (get_or-drop 1 (take many guests) i empty_cell ∙ get_or-take many guests (1 + i) empty_cell (omega (arith, lt)) ∙ ap (λ (k : ℕ). get_or guests k empty_cell) back))
