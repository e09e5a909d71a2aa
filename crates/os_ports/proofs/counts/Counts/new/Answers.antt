use Rattle.std.proofs.Common.{◌≡◌, ◌∙◌, ℕ, zero, suc, List, slice_index, replicate, refl, ap}
use Rattle.port_trait.specs.declared.port.TheConstants.{PORT_COUNT}
use Rattle.os_ports.proofs.counts.Counts.new.Goals as goal

-- a list of zeros has 0 everywhere
zeros : (n q : ℕ) → slice_index (replicate n 0) q ≡ 0
zeros zero q = refl
zeros (suc n) zero = refl
zeros (suc n) (suc q) = zeros n q

pub returns : goal.returns
returns c = λ q. ap (λ (l : List ℕ). slice_index l q) (c.in_ok-vec.ensures.items_if_clones_equal (λ y e. e)) ∙ zeros PORT_COUNT q
