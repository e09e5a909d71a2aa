use Rattle.std.proofs.Common.{◌≡◌, ◌<◌, ◌++◌, ◌∷◌, [], ℕ, List, length, map, sym, ap, subst, ◌∙◌, refl, arith}
use Rattle.std.proofs.lemmas.List.{map-append, nil_from_length}
use Rattle.std.proofs.lemmas.List.Elements.{All-cons, All-nil}
use Rattle.bi_poly.specs.Substitution.{at_poly_coef}
use Rattle.rr_roots.specs.Descent.{Appends, IsRootOfSize}
use Rattle.rr_roots.proofs.Levels.{appends-nothing, appends-prefix}
use Rattle.rr_roots.proofs.descent.keep_root.Goals as goal

-- behind one byte nothing is left of it
nothing_behind : (q : List (List ℕ)) (g : ℕ) (psi : List ℕ) → IsRootOfSize q 1 (g ∷ psi) → length psi ≡ 0
nothing_behind q g psi h = let size = h.size in omega (arith, size)

pub returns-then-not-vanishes_at : goal.returns-then-not-vanishes_at
returns-then-not-vanishes_at c =
    let q = c.args.q.now in
    let g = c.args.gamma in
    record {
      kept = refl;
      appends = appends-nothing (λ psi. IsRootOfSize q 1 (g ∷ psi)) (c.args.walk.now.prefix.items ++ g ∷ []) (map (λ r. r.items) c.args.walk.now.roots.items)
          (λ psi h.
          let no = c.if-not-vanishes_at.ensures.1 (λ e. subst (λ psi. at_poly_coef q (g ∷ psi) e ≡ 0) (nil_from_length psi (nothing_behind q g psi h)) (h.root e)) in cc);
    }

pub returns : goal.returns
returns c =
    let q = c.args.q.now in
    let g = c.args.gamma in
    let P = λ (psi : List ℕ). IsRootOfSize q 1 (g ∷ psi) in
    let prefix = c.args.walk.now.prefix.items in
    let old = map (λ r. r.items) c.args.walk.now.roots.items in
    let root : c.push.new.self.items ≡ prefix ++ g ∷ []
    = c.in_ok-push.ensures.items ∙ ap (λ xs. xs ++ g ∷ []) (c.in_ok-root.ensures.items ∙ c.deref.ensures.value) in
    let pushed =
    ap (map (λ r. r.items)) c.in_ok-push-2.ensures.items ∙ map-append (λ r. r.items) c.args.walk.now.roots.items (c.push.new.self ∷ [])
    ∙ ap (λ p. old ++ p ∷ []) root in
    record {
      kept = refl;
      appends =
          subst (Appends P (prefix ++ g ∷ []) old) (sym pushed)
          (appends-prefix P (prefix ++ g ∷ []) old
          (record { size = refl; bytes = All-cons (λ c. c < 256) g [] c.ranges.gamma.fits (All-nil (λ c. c < 256)); root = c.vanishes_at.ensures.0 c.if-not-vanishes_at.false })
          (λ psi h. nothing_behind q g psi h));
    }
