use Rattle.std.proofs.Common.{◌≡◌, ◌≢◌, ◌^◌, ◌∙◌, get_or, subst}
use Rattle.std.specs.Result.{result_ok}
use Rattle.std.proofs.lemmas.Str.Parse.{parse_plain}
use Rattle.text_pieces.specs.Numbers.{number_below}
use Rattle.text_pieces.proofs.Digits.{no_number, number_read, own}
use Rattle.text_pieces.proofs.numbers.number_u64.Goals as goal

pub returns-in-Ok : goal.returns-in-Ok
returns-in-Ok c =
    let same = c.in-Ok.ensures.cases.0 in
    let plus : get_or c.in-Ok.text.now 0 0 ≢ 43 = rw same c.if-digits-eq43.false in
    let read = number_read (2 ^ 64) c.in-Ok.text.now c.parse.result (parse_plain own 64 c.in-Ok.text.now c.parse.result c.parse.ensures.value.0 plus) in
    c.ok.ensures.value ∙ subst (λ t. result_ok c.parse.result ≡ number_below (2 ^ 64) t) same read

pub returns-in-Err : goal.returns-in-Err
returns-in-Err c = no_number (2 ^ 64) c.args.digits.now c.in-Err.ensures.cases.0
