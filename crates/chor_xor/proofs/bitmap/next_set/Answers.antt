use Rattle.std.proofs.Common.{◌≡◌, ◌+◌, ◌*◌, ◌/◌, ◌%◌, ◌^◌, get_or, subst, arith}
use Rattle.std.proofs.lemmas.Nat.{and_le_l}
use Rattle.std.specs.Int.Count.{count_leading_zeros}
use Rattle.chor_xor.specs.Bitmap.{bit_of}
use Rattle.chor_xor.proofs.NextBits.{rest-first, rest-next, rest-found}
use Rattle.chor_xor.proofs.bitmap.next_set.Goals as goal

pub bytes-init : goal.bytes-init
bytes-init c =
    let byte = get_or c.args.bitmap.now (c.args.from / 8) 0 in
    record {
      within = omega (arith, c.requires.order);
      small = let h = (c.type_inv.bitmap (c.args.from / 8)).fits in omega (arith, h, and_le_l byte (255 / 2 ^ (c.args.from % 8)));
      rest = rest-first c.args.bitmap.now c.args.from;
    }

pub bytes-preserved : goal.bytes-preserved
bytes-preserved c = record {
  within = omega arith;
  small = (c.type_inv.bitmap (c.bytes.byte + 1)).fits;
  rest = rest-next c.args.bitmap.now c.args.from c.bytes.byte c.bytes.rest c.bytes-test.true c.bytes.invariant.rest;
}

pub returns-clause-from : goal.returns-clause-from
returns-clause-from c =
    let found = rest-found c.args.bitmap.now c.args.from c.bytes.byte c.bytes.rest c.bytes-test.false c.bytes.invariant.small c.bytes.invariant.rest in
    omega (arith, c.min.ensures, found.begun, c.requires.order)

pub returns-clause-others : goal.returns-clause-others
returns-clause-others c = λ j l h.
    let found = rest-found c.args.bitmap.now c.args.from c.bytes.byte c.bytes.rest c.bytes-test.false c.bytes.invariant.small c.bytes.invariant.rest in
    found.others j l (omega (arith, c.min.ensures, h))

pub returns-clause-set : goal.returns-clause-set
returns-clause-set c = λ l.
    let found = rest-found c.args.bitmap.now c.args.from c.bytes.byte c.bytes.rest c.bytes-test.false c.bytes.invariant.small c.bytes.invariant.rest in
    let row = 8 * c.bytes.byte + count_leading_zeros 8 c.bytes.rest in
    let e : row ≡ c.min.result = omega (arith, c.min.ensures, l) in
    subst (λ j. bit_of c.args.bitmap.now j ≡ 1) e found.set
