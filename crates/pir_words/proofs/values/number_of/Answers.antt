use Rattle.std.proofs.Common.{◌∙◌, ap, sym}
use Rattle.std.specs.List.{list_all}
use Rattle.pir_words.specs.Numbers.{is_digit}
use Rattle.pir_words.proofs.Digits.{number_parsed}
use Rattle.pir_words.proofs.values.number_of.Goals as goal

pub returns : goal.returns
returns c =
    let digits = ap (list_all is_digit) (sym c.as_bytes.ensures.value) ∙ sym c.are_digits.ensures ∙ c.if-not-are_digits.false in
    c.ok.ensures.value ∙ number_parsed c.args.text.now c.parse.result digits c.parse.ensures.value.0
