-- A guest who comes in and is attended to.
use Rattle.std.proofs.Common.{◌≡◌, [], ◌∷◌, ◌∙◌, subst}
use Rattle.port_trait.specs.World.{World}
use Rattle.port_trait.specs.Number.{GUEST}
use Rattle.port_trait.specs.Moves.{Touches}
use Rattle.port_trait.specs.Touched.{One, Crowd, TouchesOnly}
use Rattle.port_trait.specs.Guests.{Meets}
use Rattle.serve_core.specs.Service.{Service}
use Rattle.serve_core.specs.Attended.{Attends, AttendsNext}
use Rattle.serve_core.specs.declared.met.Met.{Met}

-- the next guest came in, and one call attended to it, at a desk that serves what it served before
pub attends_next : (service now : Service) (met : Met) (w m u : World) → now ≡ service → Meets w m → Attends now met m u
    → Touches GUEST m u → AttendsNext service met w u
attends_next service now met w m u same meets attends others = record {
  mid = m;
  meets = meets;
  attends = subst (λ (s : Service). Attends s met m u) same attends;
  others = others;
}

-- Guest alone is touched, as that guest comes in
pub next_touches : (service : Service) (met : Met) (w u : World) → AttendsNext service met w u
    → TouchesOnly (One GUEST ∷ Crowd ∷ []) w u
next_touches service met w u a = record {
  others = λ q within other. a.others.others q within other ∙ a.meets.others q within other;
  crowd = tt;
  started = a.others.started ∙ a.meets.started;
}
