use Rattle.std.proofs.Common.{◌≡◌, ◌∙◌, refl, sym, ap}
use Rattle.wire_frames.specs.declared.scheme.Scheme.{Scheme}
use Rattle.wire_frames.specs.declared.scheme.Scheme.TheVariants.{Shamir, Xor}
use Rattle.wire_frames.specs.Scheme.{number_of, scheme_of}
use Rattle.serve_core.specs.Service.{Service}
use Rattle.serve_core.proofs.service.Service.scheme.Goals as goal

-- a scheme's number stands for it
stands : (scheme : Scheme) → scheme_of (number_of scheme) ≡ scheme
unfolding scheme_of
stands Shamir = refl
stands Xor = refl

pub returns : goal.returns
returns c = sym (stands c.self.inside.scheme) ∙ ap (λ (service : Service). scheme_of service.scheme) c.self.view_is
