use Rattle.farm_page.specs.Replying.{Replies}
use Rattle.farm_page.specs.Request.{place_asked}
use Rattle.farm_page.specs.declared.health.Moment.{Moment}
use Rattle.farm_page.specs.declared.replying.Seen.{Seen}
use Rattle.page_server.proofs.Sending.{if_ok_with}
use Rattle.page_server.proofs.service.PageService.reply_of.Goals as goal

pub returns : goal.returns
returns g c =
    let page = c.args.self.now in
    let asked = c.args.asked.now in
    let moment : Moment = record { age_ms = c.args.age_ms; round_ms = page.times.round_ms; phase = c.phase.result } in
    let seen : Seen = record { farm = c.args.farm; moment = moment } in
    if_ok_with (λ (seen : Seen) reply. Replies seen asked (place_asked page.place asked) reply) seen c.reply_to.result c.reply_to.ensures
