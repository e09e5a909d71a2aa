use Rattle.std.proofs.Common.{◌≡◌, ◌≤◌, length, get_or, sym, subst, arith}
use Rattle.std.proofs.lemmas.List.{get_or-map, length-map}
use Rattle.key_table.specs.Numbered.{bare}
use Rattle.key_table.specs.Scan.{Scanned}
use Rattle.key_table.specs.declared.place.Place.{Place}
use Rattle.key_table.proofs.Scan.{scan_clash, scan_clear, scan_one}
use Rattle.key_table.proofs.clash.clash_among.Goals as goal

pub bounds-places-0 : goal.bounds-places-0
bounds-places-0 c =
    let one = c.requires.ordered.whole 0 (omega (arith, c.if-count-eq0.false, c.len-count.ensures)) in
    omega (arith, one.1, length-map c.args.places.now (λ (p : Place). p.place))

pub loop-i-init : goal.loop-i-init
loop-i-init c =
    let list = c.args.pairs.now.pairs in
    let all = c.args.places.now in
    let places = bare all in
    let n = c.len-count.result in
    let none : Place = record { number = 0; place = 0 } in
    let long = length-map all (λ (p : Place). p.place) in
    let one = c.requires.ordered.whole 0 (omega (arith, c.if-count-eq0.false, c.len-count.ensures)) in
    let some : 1 ≤ length all = omega (arith, one.1, long) in
    let first = get_or all 0 none in (
      omega arith,
      some,
      c.requires.numbered 0 none some,
      scan_one list places first.place n n c.requires.ordered (omega (arith, some, long))
          (sym (get_or-map (λ (p : Place). p.place) all 0 none 0 some)) (omega (arith, c.len-count.ensures)),
    )

pub loop-i-preserved : goal.loop-i-preserved
loop-i-preserved c =
    let all = c.args.places.now in
    let i = c.loop-i.i in
    let none : Place = record { number = 0; place = 0 } in
    let there = c.loop-i-test.true in
    let next = c.scan_place-scan.ensures (bare all) i c.requires.ordered (omega (arith, c.loop-i.invariant.0))
    (omega (arith, there, length-map all (λ (p : Place). p.place)))
    (sym (get_or-map (λ (p : Place). p.place) all i none 0 there)) c.loop-i.invariant.2 (c.requires.numbered i none there) c.loop-i.invariant.3 in (
      omega arith,
      omega arith,
      next.0,
      next.1,
    )

pub returns-then-scan-count : goal.returns-then-scan-count
returns-then-scan-count c =
    let list = c.args.pairs.now.pairs in
    let places = bare c.args.places.now in
    let s = c.loop-i.scan in
    let all : c.loop-i.i ≡ length places =
    omega (arith, c.loop-i.invariant.1, c.loop-i-test.false, length-map c.args.places.now (λ (p : Place). p.place)) in
    scan_clear list places s.first.place s.least s.least_first c.requires.ordered
    (subst (λ n. Scanned list places n s.first.place s.least s.least_first) all c.loop-i.invariant.3)
    (omega (arith, c.len-count.ensures, c.if-scan-count.true))

pub returns : goal.returns
returns c =
    let list = c.args.pairs.now.pairs in
    let places = bare c.args.places.now in
    let s = c.loop-i.scan in
    let all : c.loop-i.i ≡ length places =
    omega (arith, c.loop-i.invariant.1, c.loop-i-test.false, length-map c.args.places.now (λ (p : Place). p.place)) in
    scan_clash list places s.first.place s.least s.least_first c.requires.ordered
    (subst (λ n. Scanned list places n s.first.place s.least s.least_first) all c.loop-i.invariant.3)
    (omega (arith, c.len-count.ensures, c.if-scan-count.false))
