use Rattle.std.proofs.Common.{refl, subst}
use Rattle.std.proofs.lemmas.Result.{on_ok_weaker}
use Rattle.farm_page.specs.Replying.{Replies}
use Rattle.farm_page.specs.Request.{place_asked}
use Rattle.farm_page.specs.declared.replying.Reply.{Reply}
use Rattle.farm_page.specs.declared.replying.Reply.TheVariants.{Drain, Told}
use Rattle.page_server.proofs.Sending.{on_ok_anyway}
use Rattle.page_server.proofs.service.PageServiceService.call.Goals as goal

pub returns-in-Told-clause-ok : goal.returns-in-Told-clause-ok
returns-in-Told-clause-ok g c =
    let asked = c.asked_by-asked.result in
    let found = c.in_ok-answer.ensures in
    let P : Reply → Type 0 = λ reply. Replies found.0 asked (place_asked c.args.self.now.place asked) reply in
    on_ok_weaker c.put_answer.result (λ carried. (
      refl,
      record {
        asked = asked;
        asks = c.asked_by-asked.ensures;
        seen = found.0;
        reply = Told c.in-Told.answer;
        replies = subst P c.in-Told.is found.1;
        carries = carried;
      },
    )) c.put_answer.ensures

pub returns-in-Drain-clause-ok : goal.returns-in-Drain-clause-ok
returns-in-Drain-clause-ok g c =
    let asked = c.asked_by-asked.result in
    let found = c.in_ok-answer.ensures in
    let P : Reply → Type 0 = λ reply. Replies found.0 asked (place_asked c.args.self.now.place asked) reply in
    on_ok_anyway _ c.drain.result (
      refl,
      record {
        asked = asked;
        asks = c.asked_by-asked.ensures;
        seen = found.0;
        reply = Drain;
        replies = subst P c.in-Drain.is found.1;
        carries = tt;
      },
    )
