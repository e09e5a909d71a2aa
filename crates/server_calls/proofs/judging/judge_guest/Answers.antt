use Rattle.std.proofs.Common.{◌∙◌, inl, sym, arith}
use Rattle.serve_core.specs.Terms.{terms_for}
use Rattle.wire_frames.specs.Scheme.{number_of}
use Rattle.server_calls.proofs.Guests.{cut, overfull, payload_is, refused_on, suited_is, whole_with}
use Rattle.server_calls.proofs.judging.judge_guest.Goals as goal

pub returns-in-Err : goal.returns-in-Err
returns-in-Err c =
    let cases = c.in-Some.ensures.cases in (
      inl (refused_on (terms_for (number_of c.args.scheme) c.args.rows c.args.width) c.args.guest.now c.in-Some.header.now c.in-Some.rest.now
          cases.0 cases.2 c.in-Err.status c.in-Err.ensures),
      cases.0,
    )

pub returns-then-rest-size : goal.returns-then-rest-size
returns-then-rest-size c =
    let cases = c.in-Some.ensures.cases in
    cut c.args.scheme c.args.rows c.args.width c.args.guest.now c.in-Some.header.now c.in-Some.rest.now cases.0 cases.1 cases.2
    c.in-Ok.query c.in-Ok.ensures c.from.result c.payload_len.result c.from.ensures c.payload_len.ensures.is c.if-rest-size.true

pub returns-then-some_is_overfull : goal.returns-then-some_is_overfull
returns-then-some_is_overfull c =
    let cases = c.in-Some.ensures.cases in (
      overfull c.args.scheme c.args.rows c.args.width c.args.guest.now c.in-Some.header.now c.in-Some.rest.now cases.0 cases.1 cases.2
          c.in-Ok.query c.in-Ok.ensures c.from.result c.payload_len.result c.from.ensures c.payload_len.ensures.is
          (omega (arith, c.if-rest-size.false)) (sym c.if-some_is_overfull.true ∙ c.some_is_overfull.ensures),
      cases.0,
    )

pub returns : goal.returns
returns c =
    let cases = c.in-Some.ensures.cases in (
      whole_with c.args.scheme c.args.rows c.args.width c.args.guest.now c.in-Some.header.now c.in-Some.rest.now cases.0 cases.1 cases.2
          c.in-Ok.query c.in-Ok.ensures c.from.result c.payload_len.result c.from.ensures c.payload_len.ensures.is _
          (omega (arith, c.if-rest-size.false)) (sym c.if-some_is_overfull.false ∙ c.some_is_overfull.ensures),
      cases.0,
      suited_is c.args.scheme c.args.rows c.args.width c.args.guest.now c.in-Some.header.now c.in-Some.rest.now cases.0 cases.1 cases.2
          c.in-Ok.query c.in-Ok.ensures c.from.result c.payload_len.result c.from.ensures c.payload_len.ensures.is,
      payload_is c.args.scheme c.args.rows c.args.width c.args.guest.now c.in-Some.header.now c.in-Some.rest.now cases.0 cases.1 cases.2
          c.in-Ok.query c.in-Ok.ensures c.from.result c.payload_len.result c.from.ensures c.payload_len.ensures.is,
    )
