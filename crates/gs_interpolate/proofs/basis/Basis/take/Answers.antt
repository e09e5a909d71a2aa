use Rattle.std.proofs.Common.{◌≡◌, ℕ, List, Vec, Global, length, refl, sym, ap, subst, ◌∙◌, take_at}
use Rattle.std.proofs.lemmas.Result.{IfOk-weaker}
use Rattle.gs_interpolate.specs.Family.{bytes_of}
use Rattle.gs_interpolate.specs.Steps.{HaveTaken}
use Rattle.gs_interpolate.specs.Basis.{Polynomials, with_rows}
use Rattle.gs_interpolate.proofs.basis.Basis.take.Goals as goal

-- what has all but the rows of one has all but those of an equal one
same_but_rows : (s v made : Polynomials) → s ≡ v → made ≡ with_rows s made.rows s.exponents → made ≡ with_rows v made.rows v.exponents
same_but_rows s v made same is = is ∙ ap (λ x. with_rows x made.rows x.exponents) same

pub returns : goal.returns
returns c =
    let f : Vec ℕ Global → List ℕ = λ r. r.items in
    let steps = c.args.steps.now in
    let n = length steps in
    let old = c.self.inside in
    let made = c.take_steps.new.rows in
    let back = take_at made _ old.rows.len (c.take_steps.auto.rows ∙ c.deref_mut.ensures.len) in
    IfOk-weaker c.take_steps.result _ _
    (λ _ taken.
    record {
      alike = same_but_rows _ _ _ c.self.view_is refl;
      rows =
          subst (λ rows. HaveTaken steps c.args.self.now.t n (bytes_of rows) c.args.self.now.rows) (sym back)
          (subst (λ g. HaveTaken steps g.t n (bytes_of made) g.rows) c.self.view_is
          (subst (λ rows. HaveTaken steps old.t n (bytes_of made) (bytes_of rows)) c.deref_mut.ensures.value taken));
    })
    c.take_steps.ensures
