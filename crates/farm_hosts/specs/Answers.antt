-- When all jobs of a host wait for the first answer over their connections.
use Rattle.std.specs.Prelude.{ℕ, ◌+◌, ◌-◌, ◌^◌, ◌&&◌, ◌||◌, ◌==◌, if◌then◌else◌, min, nat_le, nat_lt, not, Bool, true, false}
use Rattle.std.specs.Prelude.{Option, Some, None}
use Rattle.farm_hosts.specs.declared.first_answers.AnswerNews.{AnswerNews}
use Rattle.farm_hosts.specs.declared.first_answers.AnswerNews.TheVariants as news
use Rattle.farm_hosts.specs.declared.first_answers.FirstAnswers.{FirstAnswers}
use Rattle.farm_hosts.specs.declared.first_answers.Heard.{Heard}
use Rattle.farm_hosts.specs.declared.first_answers.Heard.TheVariants as heard

-- how many jobs such a job adds to those that wait for a first answer
abbrev pub first_of : Heard → ℕ
first_of heard.Nothing = 1
first_of heard.Answer = 0

-- Jobs are there, and all of them wait for the first answer over their connections.
abbrev pub all_wait : FirstAnswers → Bool
all_wait answers = nat_lt 0 answers.jobs && (answers.waiting == answers.jobs)

-- at how many attempts in a row they did, at the one that begins now
abbrev pub attempts_after : FirstAnswers → ℕ
attempts_after answers = if all_wait answers then min (answers.attempts + 1) (2 ^ 32 - 1) else 0

-- That is told, at that attempt or before: they did at four in a row, and no job was answered since.
abbrev pub is_told_after : FirstAnswers → Bool
is_told_after answers = answers.is_told || nat_le 4 (attempts_after answers)

-- what is new at that attempt: it is told once
abbrev pub news_of_attempt : FirstAnswers → Option AnswerNews
news_of_attempt answers =
    if is_told_after answers && not answers.is_told then Some (news.Unanswered answers.waiting) else None

-- what is new after a job, by whether it was answered
abbrev pub news_of_answer : Bool → FirstAnswers → Option AnswerNews
news_of_answer is_answered answers = if is_answered && answers.is_told then Some news.Answered else None
