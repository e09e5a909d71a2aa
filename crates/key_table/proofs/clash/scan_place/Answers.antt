use Rattle.std.proofs.Common.{◌≡◌, ◌-◌, true, false, inl, inr, get_or, refl, sym, ap, subst, ◌∙◌, arith, rules, true≢false}
use Rattle.key_table.specs.Places.{digest_at}
use Rattle.key_table.specs.Scan.{IsFirst}
use Rattle.key_table.proofs.Numbered.{same_numbered_is}
use Rattle.key_table.proofs.PlaceOrder.{same_ties, tied_same}
use Rattle.key_table.proofs.Scan.{first_new, first_same, scan_more}
use Rattle.key_table.proofs.clash.scan_place.Goals as goal

pub returns-then-not-have_same_digest : goal.returns-then-not-have_same_digest
returns-then-not-have_same_digest c = λ places i o some lt is a b h.
    let list = c.args.pairs.now.pairs in
    let scan = c.args.scan in
    let place = c.args.place.place in
    let no : c.have_same_digest.result ≡ false = search rules in
    let test = same_numbered_is list scan.first c.args.place a b in
    let new = first_new list places i scan.first.place o lt h.last
    (λ z same. true≢false (sym (same_ties (digest_at list scan.first.place) (digest_at list place) (same ∙ ap (digest_at list) (sym is)))
    ∙ sym test ∙ sym c.have_same_digest.ensures ∙ no)) in (
      b,
      scan_more list places i scan.first.place scan.least scan.least_first place place scan.least scan.least_first h is
          (subst (λ p. IsFirst list p p) (sym is) new) (omega arith) h.off (inl refl),
    )

pub returns-then-place-scan : goal.returns-then-place-scan
returns-then-place-scan c = λ places i o some lt is a b h.
    let list = c.args.pairs.now.pairs in
    let scan = c.args.scan in
    let place = c.args.place.place in
    let yes : c.have_same_digest.result ≡ true = search rules in
    let test = same_numbered_is list scan.first c.args.place a b in
    let same = tied_same (digest_at list scan.first.place) (digest_at list place) (sym test ∙ sym c.have_same_digest.ensures ∙ yes) in
    let now = first_same list scan.first.place (get_or places (i - 1) 0) place (h.last (i - 1) (omega (arith, some))) same in (
      a,
      scan_more list places i scan.first.place scan.least scan.least_first scan.first.place place scan.least scan.least_first h is now (omega arith) h.off (inr (omega arith)),
    )

pub returns-then-has_same_value : goal.returns-then-has_same_value
returns-then-has_same_value c = λ places i o some lt is a b h.
    let list = c.args.pairs.now.pairs in
    let scan = c.args.scan in
    let place = c.args.place.place in
    let yes : c.have_same_digest.result ≡ true = search rules in
    let test = same_numbered_is list scan.first c.args.place a b in
    let same = tied_same (digest_at list scan.first.place) (digest_at list place) (sym test ∙ sym c.have_same_digest.ensures ∙ yes) in
    let now = first_same list scan.first.place (get_or places (i - 1) 0) place (h.last (i - 1) (omega (arith, some))) same in
    let alike : c.has_same_value.result ≡ true = search rules in (
      a,
      scan_more list places i scan.first.place scan.least scan.least_first scan.first.place place scan.least scan.least_first h is now (omega arith) h.off
          (inl (c.has_same_value.ensures.yes alike)),
    )

pub returns : goal.returns
returns c = λ places i o some lt is a b h.
    let list = c.args.pairs.now.pairs in
    let scan = c.args.scan in
    let place = c.args.place.place in
    let yes : c.have_same_digest.result ≡ true = search rules in
    let test = same_numbered_is list scan.first c.args.place a b in
    let same = tied_same (digest_at list scan.first.place) (digest_at list place) (sym test ∙ sym c.have_same_digest.ensures ∙ yes) in
    let now = first_same list scan.first.place (get_or places (i - 1) 0) place (h.last (i - 1) (omega (arith, some))) same in
    let other : c.has_same_value.result ≡ false = search rules in (
      a,
      scan_more list places i scan.first.place scan.least scan.least_first scan.first.place place place scan.first.place h is now (omega arith)
          (λ within. record { is_first = now; value = c.has_same_value.ensures.no other }) (inr (omega arith)),
    )
