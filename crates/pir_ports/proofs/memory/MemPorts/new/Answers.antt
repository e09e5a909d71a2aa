use Rattle.std.proofs.Common.{◌≡◌, ◌∙◌, ℕ, zero, suc, [], ap, refl, replicate, get_or}
use Rattle.pir_ports.specs.MemoryCell.{empty_cell}
use Rattle.pir_ports.specs.Memory.{Memory, told, world_of}
use Rattle.port_trait.specs.declared.port.TheConstants.{PORT_COUNT}
use Rattle.pir_ports.proofs.memory.MemPorts.new.Goals as goal

-- each of so many empty ports is one
empty_at : (n p : ℕ) → get_or (replicate n empty_cell) p empty_cell ≡ empty_cell
empty_at zero p = refl
empty_at (suc n) zero = refl
empty_at (suc n) (suc p) = empty_at n p

pub returns-clause-fresh : goal.returns-clause-fresh
returns-clause-fresh c = λ i. record {
  cut = c.args.cut;
  fail = c.in_ok-fail.ensures.items_if_clones_equal (λ x y same. same) i;
  calls = 0;
  cells = (c.in_ok-cells.ensures i).cells;
  waiting = c.new-3.ensures.items i;
  gone = [];
  since = c.new-4.ensures.items i;
  links = (c.in_ok-cells.ensures i).links;
  log = c.in_ok-names.ensures i;
}

pub returns-clause-told : goal.returns-clause-told
returns-clause-told c = λ p. ap (λ (m : Memory). (world_of m).at p) (returns-clause-fresh c) ∙ ap (told []) (empty_at PORT_COUNT p)
