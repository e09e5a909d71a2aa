use Rattle.std.proofs.Common.{◌≡◌, ◌≤◌, ◌∙◌, ◌+◌, inl, inr, length, take, drop, sym, ap, arith, length-drop}
use Rattle.std.specs.List.{position_or_len}
use Rattle.std.proofs.lemmas.List.{take_rest}
use Rattle.port_trait.proofs.Cells.{touches_more}
use Rattle.list_keys.specs.Lines.{is_newline}
use Rattle.list_keys.proofs.Places.{not_longer, place_on}
use Rattle.list_keys.proofs.window.Unread.find_end.Goals as goal
use Rattle.list_keys.proofs.window.Unread.find_end.Goals.{then-at-rest-via-then-at-rest, then-at-rest-via-else-at-rest+then-has_ended, then-at-rest-via-else-at-rest+else-has_ended+then-at-gt-LONGEST_LINE}

pub returns-then-at-rest-clause-ends : goal.returns-then-at-rest-clause-ends
returns-then-at-rest-clause-ends g c =
    let looked = c.looking.looked in
    let rest = c.looking.self.rest in
    let found : c.newline_in.result ≡ position_or_len is_newline (drop looked c.rest.result.now) =
    c.newline_in.ensures.is ∙ ap (position_or_len is_newline) (take_rest c.rest.result.now looked) in
    record {
      is = ap (λ n. looked + n) (found ∙ ap (λ text. position_or_len is_newline (drop looked text)) c.rest.ensures)
          ∙ sym (place_on is_newline rest looked c.looking.invariant.within c.looking.invariant.none);
      settled = elim c.then-at-rest.branch [
        | then-at-rest-via-then-at-rest w ↦ inl (omega (arith, w.if-at-rest.true, ap length c.rest-in-looking.ensures))
        | then-at-rest-via-else-at-rest+then-has_ended w ↦ inr (inl (let is : w.has_ended.result ≡ c.looking.self.ended = w.has_ended.ensures in sym is ∙ w.if-has_ended.true))
        | then-at-rest-via-else-at-rest+else-has_ended+then-at-gt-LONGEST_LINE w ↦ inr (inr w.if-at-gt-LONGEST_LINE.true)
      ];
    }

pub looking-preserved : goal.looking-preserved
looking-preserved g c =
    let looked = c.looking.looked in
    let rest = c.looking.self.rest in
    let at = looked + c.newline_in.result in
    let found : c.newline_in.result ≡ position_or_len is_newline (drop looked c.rest.result.now) =
    c.newline_in.ensures.is ∙ ap (position_or_len is_newline) (take_rest c.rest.result.now looked) in
    let place : at ≡ position_or_len is_newline rest =
    ap (λ n. looked + n) (found ∙ ap (λ text. position_or_len is_newline (drop looked text)) c.rest.ensures)
    ∙ sym (place_on is_newline rest looked c.looking.invariant.within c.looking.invariant.none) in
    let inside : at ≤ length rest =
    omega (arith, c.newline_in.ensures.within, ap length (take_rest c.rest.result.now looked), c.looking.invariant.within, ap length c.rest.ensures, length-drop looked c.rest.result.now) in
    let all : at ≡ length rest = omega (arith, inside, c.if-at-rest.false, ap length c.rest-in-looking.ensures) in
    let more = not_longer rest c.fill.new.self.rest c.in_ok-fill.ensures.kept in
    record {
      within = omega (arith, all, more);
      none = ap (λ n. position_or_len is_newline (take n c.fill.new.self.rest)) all
          ∙ ap (position_or_len is_newline) c.in_ok-fill.ensures.kept ∙ sym place;
      so_far = λ given start h. c.in_ok-fill.ensures.takes given start (c.looking.invariant.so_far given start h);
      others = touches_more _ _ _ _ c.looking.invariant.others c.fill.ensures.others;
    }
