-- The desk of `serve`, from its database on.
use Rattle.std.proofs.Common.{◌≡◌, ◌∙◌, inl, inr, Ok, Err, length, refl, sym, ap, subst, arith}
use Rattle.port_trait.specs.World.{Cell, World}
use Rattle.port_trait.specs.Number.{DATABASE}
use Rattle.port_trait.specs.Moves.{Fails, RoseOnce, counted, named, took}
use Rattle.block_matrix.specs.Loading.{Holds, HoldsMore, HoldsNone, Loads, Stopped, asked_for}
use Rattle.block_matrix.specs.Database.{Database}
use Rattle.block_matrix.specs.declared.matrix.LoadFault.{LoadFault}
use Rattle.block_matrix.specs.declared.matrix.LoadFault.TheVariants.{EmptyFile, TooBig, ReadFault as Unloadable, Memory as NoRoom}
use Rattle.serve_core.specs.Service.{Service}
use Rattle.commands.specs.Faults.{of_load}
use Rattle.commands.specs.ServeOrder.{ServeOrder, service_of}
use Rattle.commands.specs.ServeSteps.{OpensDesk}
use Rattle.commands.specs.declared.status.Status.TheVariants.{ReadFault, Memory}

-- Database can't be opened
pub desk_unopened : (o : ServeOrder) (w v : World) → Fails DATABASE w v → OpensDesk o (Err ReadFault) w v
desk_unopened o w v fails = record { n = 0; fewer = omega arith; cell = inl fails.cell; rose = fails.rose }

-- it was opened, but no database was loaded
pub desk_unloaded : (o : ServeOrder) (fault : LoadFault) (w v u : World) → v.at DATABASE ≡ named o.database (w.at DATABASE) → Loads o.width (Err fault) v u → OpensDesk o (Err (of_load fault)) w u
desk_unloaded o EmptyFile w v u is_open loads = subst (λ (c : Cell). HoldsNone c (u.at DATABASE)) is_open loads
desk_unloaded o (TooBig most) w v u is_open loads = (loads.0, subst (λ (c : Cell). HoldsMore o.width c (u.at DATABASE)) is_open loads.1)
desk_unloaded o Unloadable w v u is_open loads = record {
  n = loads.after.n;
  fewer = loads.fewer;
  cell = inr (loads.after.cell ∙ ap (λ (c : Cell). counted (u.at DATABASE).faults (took loads.after.n c)) is_open);
  rose = subst (λ (c : Cell). RoseOnce c.faults (u.at DATABASE).faults) is_open loads.after.rose;
}
desk_unloaded o NoRoom w v u is_open loads = subst (λ (c : Cell). Stopped (asked_for o.width) c (u.at DATABASE)) is_open loads

-- a database was loaded, but there was no memory for the desk
pub desk_unmade : (o : ServeOrder) (m : Database) (w v u : World) → v.at DATABASE ≡ named o.database (w.at DATABASE) → Loads o.width (Ok m) v u → OpensDesk o (Err Memory) w u
desk_unmade o m w v u is_open loads = record {
  n = length loads.read;
  few = let few = loads.file.few in omega (arith, few);
  cell = loads.cell ∙ ap (took (length loads.read)) is_open;
}

-- the desk is open
pub desk_opened : (o : ServeOrder) (service : Service) (m : Database) (w v u : World) → service ≡ service_of o m
    → v.at DATABASE ≡ named o.database (w.at DATABASE) → Loads o.width (Ok m) v u → OpensDesk o (Ok service) w u
desk_opened o service m w v u is is_open loads =
    subst (λ (s : Service). OpensDesk o (Ok s) w u) (sym is)
    (refl, refl, subst (λ (c : Cell). Holds o.width m c (u.at DATABASE)) is_open loads)
