use Rattle.std.proofs.Common.{inr, sym, subst, ◌∙◌}
use Rattle.std.specs.Prelude.{IfSome}
use Rattle.plan_model.specs.Shown.{Shown}
use Rattle.plan_model.specs.declared.answer.Answer.{Answer}
use Rattle.relaxed_plan.specs.Relaxed.{let_off_of}
use Rattle.pool_supervisor.specs.declared.attempts.Until.{Until}
use Rattle.pool_core.specs.Book.{Book}
use Rattle.pool_supervisor.specs.FarmPosts.{IsRelaxedIn, PostsAfter, plan_order}
use Rattle.pool_supervisor.specs.Published.{ArePosted}
use Rattle.pool_supervisor.proofs.place.RunBoard.post_relaxed.Goals as goal

pub returns-clause-posts : goal.returns-clause-posts
returns-clause-posts g c =
    let settings = g.N.RunId.settings in
    let state = c.args.held.now.state in
    let before = c.args.publisher.now.posts in
    let now = c.publish_plan_by.new.publisher.posts in
    let some = c.in-Ended-None-Some in
    let ended = sym c.args.self.now.until_is ∙ some.is-0 in
    let relaxed = subst (λ o. IfSome o (λ r. IsRelaxedIn settings state r.now)) some.is-2 c.requires.relaxed in
    let problem = relaxed.0 in
    let answer = sym c.answer.ensures.answer ∙ c.in-Planned.is in
    let shown = subst (λ (a : Answer). Shown (let_off_of problem some.relaxed.now.let_off) a) answer relaxed.2.shown in
    subst (λ (u : Until). PostsAfter u settings c.args.ran.now state before now) (sym ended)
    (inr (
      some.is-1,
      record {
        problem = problem;
        is_problem = relaxed.1;
        set = relaxed.2.set;
        let_off = some.relaxed.now.let_off;
        few = relaxed.2.few;
        plan = _;
        backlog = _;
        short = _;
        shown = shown;
        posted = subst (λ (b : Book). ArePosted (plan_order c.in-Planned.plan c.args.ran.now.number b.state) before now) c.pool.ensures c.publish_plan_by.ensures.posts;
      },
    ))
