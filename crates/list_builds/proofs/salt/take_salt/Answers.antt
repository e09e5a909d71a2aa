use Rattle.std.proofs.Common.{◌≡◌, ◌∙◌, ℕ, List, take, inl, inr, length, refl, sym, ap, subst, arith}
use Rattle.std.specs.Prelude.{IfSome}
use Rattle.std.proofs.lemmas.List.{take_all}
use Rattle.std.proofs.lemmas.Option.{IfSome_then}
use Rattle.port_trait.specs.World.{Cell, World}
use Rattle.port_trait.specs.Number.{COINS}
use Rattle.port_trait.specs.Moves.{Came, Hands, RoseOnce, named, took, counted}
use Rattle.port_trait.specs.Whole.{Ends, FailsShort}
use Rattle.list_builds.specs.Salt.{LacksSalt, Salted, Unsalted}
use Rattle.list_builds.specs.declared.TheConstants.{SALT_SIZE}
use Rattle.list_builds.proofs.salt.take_salt.Goals as goal

-- the port was opened by this name, and then it was read
module _ (name before after : List ℕ) (w v u : World) (size : length before ≡ SALT_SIZE) (opened : v.at COINS ≡ named name (w.at COINS)) where
  -- so many bytes came
  all_came : length after ≡ length before → Hands COINS (length before) before after v u → Salted name after w u
  all_came same hands =
      let told = subst (λ (c : Cell). IfSome c.holds (Came (length before) before after)) opened hands.told in
      record {
        size = same ∙ size;
        cell = hands.cell ∙ ap (λ n. took n (v.at COINS)) size ∙ ap (took SALT_SIZE) opened;
        told = IfSome_then (w.at COINS).holds told (λ (held : List ℕ) came.
            sym (take_all (length before) after (omega (arith, same))) ∙ came.bytes ∙ ap (λ n. take n held) size);
      }

  -- fewer came, and no call failed
  fewer_came : (n : ℕ) → Ends COINS n before after v u → LacksSalt name n w u
  fewer_came n ends = record {
    fewer = omega (arith, ends.fewer, size);
    cell = ends.hands.cell ∙ ap (took n) opened;
    all = subst (λ (c : Cell). IfSome c.holds (λ (held : List ℕ). length held ≡ n)) opened ends.all;
  }

-- it was opened, and a later call failed
cut_off : (name : List ℕ) (most : ℕ) (w v u : World) → most ≡ SALT_SIZE → v.at COINS ≡ named name (w.at COINS) → FailsShort COINS most v u
    → Unsalted name w u
cut_off name most w v u size opened cut = record {
  n = cut.after.n;
  fewer = omega (arith, cut.fewer, size);
  cell = inr (cut.after.cell ∙ ap (λ (c : Cell). counted (u.at COINS).faults (took cut.after.n c)) opened);
  rose = subst (λ (c : Cell). RoseOnce c.faults (u.at COINS).faults) opened cut.after.rose;
}

pub returns-in_default-clause-takes : goal.returns-in_default-clause-takes
returns-in_default-clause-takes g c = record {
  n = 0;
  fewer = omega arith;
  cell = inl c.in_default.ensures.failed.cell;
  rose = c.in_default.ensures.failed.rose;
}

pub returns-in-Full-clause-takes : goal.returns-in-Full-clause-takes
returns-in-Full-clause-takes g c =
    all_came c.args.name.now _ c.read_exactly.new.into (g.P.Ports.world c.args.ports.now) (g.P.Ports.world c.open.new.self) (g.P.Ports.world c.read_exactly.new.ports)
    refl c.in-Ok.ensures.ok c.read_exactly.auto.into c.in-Full.ensures.filled

pub returns-in-Ended-clause-takes : goal.returns-in-Ended-clause-takes
returns-in-Ended-clause-takes g c =
    fewer_came c.args.name.now _ c.read_exactly.new.into (g.P.Ports.world c.args.ports.now) (g.P.Ports.world c.open.new.self) (g.P.Ports.world c.read_exactly.new.ports)
    refl c.in-Ok.ensures.ok c.in-Ended.taken c.in-Ended.ensures.filled

pub returns-in-Failed-clause-takes : goal.returns-in-Failed-clause-takes
returns-in-Failed-clause-takes g c =
    cut_off c.args.name.now _ (g.P.Ports.world c.args.ports.now) (g.P.Ports.world c.open.new.self) (g.P.Ports.world c.read_exactly.new.ports)
    refl c.in-Ok.ensures.ok c.in-Failed.ensures.filled
