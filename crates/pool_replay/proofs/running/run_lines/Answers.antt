use Rattle.std.proofs.Common.{ℕ, List, string_bytes, ap, arith, subst, sym}
use Rattle.pool_replay.specs.Transcript.{IsTranscript, first_desk, lines_of}
use Rattle.pool_replay.specs.declared.running.End.TheVariants.{BadLine, Done, Memory}
use Rattle.pool_replay.proofs.Ends.{starts, goes_on, ends, bad_line, gives_up, all_done}
use Rattle.pool_replay.proofs.running.run_lines.Goals as goal

pub loop-line-init : goal.loop-line-init
loop-line-init c = record {
  settings = ap (λ d. d.pool.settings) c.requires.first;
  within = omega arith;
  transcript = starts c.args.settings.now (lines_of c.args.input.now) (string_bytes c.args.output.now) c.args.desk.now c.requires.first c.requires.empty;
}

pub returns-in-Err-NoCommand : goal.returns-in-Err-NoCommand
returns-in-Err-NoCommand c =
    let p = c.args.settings.now in
    let l = c.loop-line in
    let all = lines_of c.args.input.now in
    subst (λ (o : List ℕ). IsTranscript p 1 (first_desk p) all o (BadLine l.number)) (sym c.in-Err-NoCommand.ensures.unchanged)
    (ends p all (string_bytes l.output) l.number l.desk (lines_of l.rest.now) (BadLine l.number) l.invariant.transcript
    (bad_line p l.number l.desk (lines_of l.rest.now) c.in-Some.line.now (lines_of c.in-Some.tail.now) c.in-Some.ensures.0
    (c.in-Err-NoCommand.ensures.no_command c.in-Err-NoCommand.field-0-is)))

pub returns-in-Err-Memory : goal.returns-in-Err-Memory
returns-in-Err-Memory c =
    let p = c.args.settings.now in
    let l = c.loop-line in
    let all = lines_of c.args.input.now in
    subst (λ (o : List ℕ). IsTranscript p 1 (first_desk p) all o Memory) (sym c.in-Err-Memory.ensures.unchanged)
    (ends p all (string_bytes l.output) l.number l.desk (lines_of l.rest.now) Memory l.invariant.transcript
    (gives_up p l.number l.desk (lines_of l.rest.now) c.in-Some.line.now (lines_of c.in-Some.tail.now) c.in-Some.ensures.0))

pub loop-line-preserved : goal.loop-line-preserved
loop-line-preserved c =
    let p = c.args.settings.now in
    let l = c.loop-line in
    record {
      settings = c.in-Ok.ensures.settings;
      within = omega (arith, l.invariant.within, c.in-Some.ensures.1);
      transcript = goes_on p (lines_of c.args.input.now) (string_bytes l.output) (string_bytes c.answer_line.new.output) l.number l.desk c.answer_line.new.desk
          (lines_of l.rest.now) c.in-Some.line.now (lines_of c.in-Some.tail.now) l.invariant.transcript c.in-Some.ensures.0 c.in-Ok.ensures.answer;
    }

pub returns : goal.returns
returns c =
    let p = c.args.settings.now in
    let l = c.loop-line in
    ends p (lines_of c.args.input.now) (string_bytes l.output) l.number l.desk (lines_of l.rest.now) Done l.invariant.transcript
    (all_done p l.number l.desk (lines_of l.rest.now) c.in_default.ensures)
