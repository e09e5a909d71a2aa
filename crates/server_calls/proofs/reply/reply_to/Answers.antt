use Rattle.server_calls.specs.Reply.{held}
use Rattle.server_calls.proofs.Replying.{gone, length-vectors, refused, served}
use Rattle.server_calls.proofs.reply.reply_to.Goals as goal

pub write_served-requires-clause-vectors : goal.write_served-requires-clause-vectors
write_served-requires-clause-vectors c =
    let rows = c.in-Some.rows in
    let is = c.in-Query.ensures in
    length-vectors c.in-Some-scheme_at.scheme rows.count rows.width c.args.guest.now c.in-Query.vectors.now c.in-Query.query is.0 is.2 is.3

pub returns-in-Cut : goal.returns-in-Cut
returns-in-Cut c =
    let rows = c.in-Some.rows in
    let own = c.in-Some.ensures in
    gone (held c.args.bytes.now c.args.width c.args.scheme) own.3 c.in-Some-scheme_at.scheme c.in-Some-scheme_at.ensures
    rows.bytes.now rows.count rows.width own.0 own.1 own.2 c.args.guest.now c.args.out.now c.in-Cut.ensures

pub returns-in-Refused : goal.returns-in-Refused
returns-in-Refused c =
    let rows = c.in-Some.rows in
    let own = c.in-Some.ensures in
    let is = c.in-Refused.ensures in
    refused (held c.args.bytes.now c.args.width c.args.scheme) own.3 c.in-Some-scheme_at.scheme c.in-Some-scheme_at.ensures
    rows.bytes.now rows.count rows.width own.0 own.1 own.2 c.args.guest.now c.args.out.now c.write_refusal.new.out
    c.in-Refused.header.now c.in-Refused.status is.0 is.1 c.write_refusal.result c.write_refusal.ensures

pub returns-in-Query : goal.returns-in-Query
returns-in-Query c =
    let rows = c.in-Some.rows in
    let own = c.in-Some.ensures in
    let is = c.in-Query.ensures in
    served (held c.args.bytes.now c.args.width c.args.scheme) own.3 c.in-Some-scheme_at.scheme c.in-Some-scheme_at.ensures
    rows.bytes.now rows.count rows.width own.0 own.1 own.2 c.args.guest.now c.args.out.now c.write_served.new.out
    c.in-Query.header.now c.in-Query.vectors.now c.in-Query.query is.0 is.1 is.2 is.3 c.write_served.result c.write_served.ensures
