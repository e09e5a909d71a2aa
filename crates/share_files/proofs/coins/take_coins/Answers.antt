use Rattle.std.proofs.Common.{◌≡◌, ◌∙◌, ℕ, ◌<◌, List, get_or, All, inl, inr, length, sym, ap, subst, arith}
use Rattle.std.specs.Prelude.{IfSome}
use Rattle.std.proofs.lemmas.List.{get_or_default, take_all}
use Rattle.std.proofs.lemmas.Option.{IfSome_then}
use Rattle.port_trait.specs.World.{Cell, World}
use Rattle.port_trait.specs.Number.{COINS}
use Rattle.port_trait.specs.Moves.{Came, Hands, RoseOnce, named, took, counted}
use Rattle.port_trait.specs.Whole.{Ends, FailsShort}
use Rattle.port_trait.specs.Files.{Unread}
use Rattle.port_trait.specs.Tossed.{Tossed, RunsOut}
use Rattle.share_files.proofs.coins.take_coins.Goals as goal

-- bytes, by each of them
small : (bytes : List ℕ) → ((k : ℕ) → get_or bytes k 0 < 256) → All (λ b. b < 256) bytes
small bytes each = λ k d lt. subst (λ b. b < 256) (get_or_default bytes k 0 d lt) (each k)

-- the port was opened by this name, and then it was read
module _ (name before after : List ℕ) (w v u : World) (opened : v.at COINS ≡ named name (w.at COINS)) where
  -- so many bytes came
  all_came : length after ≡ length before → All (λ b. b < 256) after → Hands COINS (length before) before after v u
      → Tossed (length before) after (named name (w.at COINS)) (u.at COINS)
  all_came size bytes hands =
      let told = subst (λ (c : Cell). IfSome c.holds (Came (length before) before after)) opened hands.told in
      record {
        size = size;
        bytes = bytes;
        cell = hands.cell ∙ ap (took (length before)) opened;
        told = IfSome_then (w.at COINS).holds told (λ (held : List ℕ) came. sym (take_all (length before) after (omega (arith, size))) ∙ came.bytes);
      }

  -- fewer came, and no call failed
  fewer_came : (n : ℕ) → Ends COINS n before after v u → RunsOut (length before) n (named name (w.at COINS)) (u.at COINS)
  fewer_came n ends = record {
    fewer = ends.fewer;
    cell = ends.hands.cell ∙ ap (took n) opened;
    all = subst (λ (c : Cell). IfSome c.holds (λ (held : List ℕ). length held ≡ n)) opened ends.all;
  }

  -- a call failed
  cut_off : FailsShort COINS (length before) v u → Unread COINS name (length before) w u
  cut_off cut = record {
    n = cut.after.n;
    fewer = cut.fewer;
    cell = inr (cut.after.cell ∙ ap (λ (c : Cell). counted (u.at COINS).faults (took cut.after.n c)) opened);
    rose = subst (λ (c : Cell). RoseOnce c.faults (u.at COINS).faults) opened cut.after.rose;
  }

pub returns-in_default-clause-taken : goal.returns-in_default-clause-taken
returns-in_default-clause-taken g c = record {
  n = 0;
  fewer = c.requires;
  cell = inl c.in_default.ensures.failed.cell;
  rose = c.in_default.ensures.failed.rose;
}

pub returns-in-Full-clause-taken : goal.returns-in-Full-clause-taken
returns-in-Full-clause-taken g c =
    all_came c.args.name.now c.args.coins.now c.read_exactly.new.into (g.P.Ports.world c.args.ports.now) (g.P.Ports.world c.open.new.self) (g.P.Ports.world c.read_exactly.new.ports)
    c.in-Ok.ensures.ok c.read_exactly.auto.into (small c.read_exactly.new.into (λ k. (c.type_inv.coins k).fits)) c.in-Full.ensures.filled

pub returns-in-Ended-clause-taken : goal.returns-in-Ended-clause-taken
returns-in-Ended-clause-taken g c =
    fewer_came c.args.name.now c.args.coins.now c.read_exactly.new.into (g.P.Ports.world c.args.ports.now) (g.P.Ports.world c.open.new.self) (g.P.Ports.world c.read_exactly.new.ports)
    c.in-Ok.ensures.ok c.in-Ended.taken c.in-Ended.ensures.filled

pub returns-in-Failed-clause-taken : goal.returns-in-Failed-clause-taken
returns-in-Failed-clause-taken g c =
    cut_off c.args.name.now c.args.coins.now c.read_exactly.new.into (g.P.Ports.world c.args.ports.now) (g.P.Ports.world c.open.new.self) (g.P.Ports.world c.read_exactly.new.ports)
    c.in-Ok.ensures.ok c.in-Failed.ensures.filled
