use Rattle.std.specs.Int.NonZero.{non_zero_u32_get}
use Rattle.std.specs.Prelude.{option_map}
use Rattle.std.proofs.Common.{inl, map, refl, subst, sym}
use Rattle.plan_commands.proofs.Posing.{meets_nothing, nothing_from}
use Rattle.command_line.specs.Named.{named}
use Rattle.devices.specs.Folder.{IsReadFile}
use Rattle.plan_commands.specs.Plan.{Plans}
use Rattle.plan_commands.specs.Problem.{load_of}
use Rattle.size_command.specs.CheckSizes.{ChecksSizeText}
use Rattle.size_command.specs.Sizes.{Sizes}
use Rattle.program.specs.Carrying.{CarriesOut}
use Rattle.program.proofs.Carried.{drained, planned, served, shown, sized, size_checked, unread}
use Rattle.program.proofs.carrying.carry_out.Goals as goal

pub returns-in-Err : goal.returns-in-Err
returns-in-Err g c = record {
  carries_out = unread (g.F.Folder.file c.args.lent.files.now) (named c.args.command.now) (g.R.Device.input c.args.source.now)
      (g.S.Device.output c.args.sink.now) c.in-Err.fault c.refused.result c.refused.ensures
      (rw c.in-Plan.is c.in-Err.ensures.err);
}

pub returns-in-Err-read_both : goal.returns-in-Err-read_both
returns-in-Err-read_both g c = record {
  carries_out = unread (g.F.Folder.file c.args.lent.files.now) (named c.args.command.now) (g.R.Device.input c.args.source.now)
      (g.S.Device.output c.args.sink.now) c.in-Err-read_both.fault c.refused-in-Err-read_both.result
      c.refused-in-Err-read_both.ensures (rw c.in-Check.is c.in-Err-read_both.ensures.err);
}

pub returns-in-Err-read_settings : goal.returns-in-Err-read_settings
returns-in-Err-read_settings g c = record {
  carries_out = unread (g.F.Folder.file c.args.lent.files.now) (named c.args.command.now) (g.R.Device.input c.args.source.now)
      (g.S.Device.output c.args.sink.now) c.in-Err-read_settings.fault c.refused-in-Err-read_settings.result
      c.refused-in-Err-read_settings.ensures (rw c.in-Replay.is c.in-Err-read_settings.ensures.err);
}

pub returns-in-Ok-read_both : goal.returns-in-Ok-read_both
returns-in-Ok-read_both g c =
    let told = c.check_text.ensures.checks in
    let read = c.in-Ok-read_both in
    let file = g.F.Folder.file c.args.lent.files.now in record {
      carries_out = (
        told.0,
        told.1,
        rw (c.in-Check.is, ← c.deref-in-Ok-read_both-3.ensures.value) (inl (
          c.deref-in-Ok-read_both.result.now,
          c.deref-in-Ok-read_both-2.result.now,
          subst (IsReadFile (file c.in-Check.settings.now)) (sym c.deref-in-Ok-read_both.ensures.value) read.ensures.settings,
          subst (IsReadFile (file c.in-Check.status.now)) (sym c.deref-in-Ok-read_both-2.ensures.value) read.ensures.other,
          told.2,
        )),
      );
    }

pub returns-in-Ok-read_settings : goal.returns-in-Ok-read_settings
returns-in-Ok-read_settings g c =
    let told = c.run_commands.ensures.replays in record {
      carries_out = (
        told.0,
        told.1,
        rw c.in-Replay.is (inl (
          c.deref-in-Ok-read_settings.result.now,
          subst (IsReadFile (g.F.Folder.file c.args.lent.files.now c.in-Replay.settings.now)) (sym c.deref-in-Ok-read_settings.ensures.value)
              c.in-Ok-read_settings.ensures.whole,
          told.2,
        )),
      );
    }

pub returns-in-Ok : goal.returns-in-Ok
returns-in-Ok g c =
    let told = c.plan_text.ensures.plans in
    let file = g.F.Folder.file c.args.lent.files.now in
    let old = g.S.Device.output c.args.sink.now in
    let new = g.S.Device.output c.plan_text.new.sink in
    let read = subst (IsReadFile (file c.in-Plan.settings.now)) (sym c.deref.ensures.value) c.in-Ok.ensures.whole in
    let plans = subst (λ lost. Plans c.deref.result.now (map (λ w. w.now) lost) told.0 old new c.plan_text.result) c.deref-in-Ok.ensures.value told.2 in record {
      carries_out = (
        told.0,
        told.1,
        subst (λ command. CarriesOut file (named command) told.0 old new c.plan_text.result) (sym c.in-Plan.is)
            (planned file c.in-Plan.settings.now (map (λ w. w.now) c.in-Plan.lost.items) c.deref.result.now told.0 old new c.plan_text.result read plans),
      );
    }

-- nothing was taken
pub returns-in-Settings : goal.returns-in-Settings
returns-in-Settings g c =
    let side = g.R.Device.input c.args.source.now in
    let file = g.F.Folder.file c.args.lent.files.now in
    let old = g.S.Device.output c.args.sink.now in
    let new = g.S.Device.output c.show_settings.new.sink in record {
      carries_out = (
        nothing_from side,
        meets_nothing side,
        rw c.in-Settings.is (shown file c.in-Settings.settings.now (option_map (λ t. t.now) c.in-Settings.services) (nothing_from side) old new
            c.show_settings.result (refl, refl, refl) c.show_settings.ensures.shows),
      );
    }

pub returns-in-Err-read_settings-2 : goal.returns-in-Err-read_settings-2
returns-in-Err-read_settings-2 g c = record {
  carries_out = unread (g.F.Folder.file c.args.lent.files.now) (named c.args.command.now) (g.R.Device.input c.args.source.now)
      (g.S.Device.output c.args.sink.now) c.in-Err-read_settings-2.fault c.refused-in-Err-read_settings-2.result
      c.refused-in-Err-read_settings-2.ensures (rw c.in-Run.is c.in-Err-read_settings-2.ensures.err);
}

-- nothing was taken
pub returns-in-Ok-read_settings-2 : goal.returns-in-Ok-read_settings-2
returns-in-Ok-read_settings-2 g c =
    let side = g.R.Device.input c.args.source.now in record {
      carries_out = (
        nothing_from side,
        meets_nothing side,
        rw c.in-Run.is (inl (
          c.deref-in-Ok-read_settings-2.result.now,
          subst (IsReadFile (g.F.Folder.file c.args.lent.files.now c.in-Run.settings.now)) (sym c.deref-in-Ok-read_settings-2.ensures.value)
              c.in-Ok-read_settings-2.ensures.whole,
          (refl, refl, refl),
          c.run_rounds.ensures.supervises,
        )),
      );
    }

pub returns-in-Err-read_settings-3 : goal.returns-in-Err-read_settings-3
returns-in-Err-read_settings-3 g c = record {
  carries_out = unread (g.F.Folder.file c.args.lent.files.now) (named c.args.command.now) (g.R.Device.input c.args.source.now)
      (g.S.Device.output c.args.sink.now) c.in-Err-read_settings-3.fault c.refused-in-Err-read_settings-3.result
      c.refused-in-Err-read_settings-3.ensures (rw c.in-Size.is c.in-Err-read_settings-3.ensures.err);
}

pub returns-in-Err-read_both-2 : goal.returns-in-Err-read_both-2
returns-in-Err-read_both-2 g c = record {
  carries_out = unread (g.F.Folder.file c.args.lent.files.now) (named c.args.command.now) (g.R.Device.input c.args.source.now)
      (g.S.Device.output c.args.sink.now) c.in-Err-read_both-2.fault c.refused-in-Err-read_both-2.result
      c.refused-in-Err-read_both-2.ensures (rw c.in-CheckSize.is c.in-Err-read_both-2.ensures.err);
}

pub returns-in-Ok-read_settings-3 : goal.returns-in-Ok-read_settings-3
returns-in-Ok-read_settings-3 g c =
    let told = c.size_of_texts.ensures.sizes in
    let file = g.F.Folder.file c.args.lent.files.now in
    let old = g.S.Device.output c.args.sink.now in
    let new = g.S.Device.output c.size_of_texts.new.sink in
    let level = option_map non_zero_u32_get c.in-Size.level in
    let read = subst (IsReadFile (file c.in-Size.settings.now)) (sym c.deref-in-Ok-read_settings-3.ensures.value) c.in-Ok-read_settings-3.ensures.whole in
    let sizes = subst (λ lost. Sizes c.deref-in-Ok-read_settings-3.result.now (map (λ w. w.now) lost) level told.0 old new c.size_of_texts.result)
    c.deref-in-Ok-read_settings-3-2.ensures.value told.2 in record {
      carries_out = (
        told.0,
        told.1,
        subst (λ command. CarriesOut file (named command) told.0 old new c.size_of_texts.result) (sym c.in-Size.is)
            (sized file c.in-Size.settings.now level (map (λ w. w.now) c.in-Size.lost.items) c.deref-in-Ok-read_settings-3.result.now told.0 old new
            c.size_of_texts.result read sizes),
      );
    }

pub returns-in-Ok-read_both-2 : goal.returns-in-Ok-read_both-2
returns-in-Ok-read_both-2 g c =
    let told = c.check_size_text.ensures.checks in
    let read = c.in-Ok-read_both-2 in
    let file = g.F.Folder.file c.args.lent.files.now in
    let old = g.S.Device.output c.args.sink.now in
    let new = g.S.Device.output c.check_size_text.new.sink in
    let level = option_map non_zero_u32_get c.in-CheckSize.level in
    let text = c.deref-in-Ok-read_both-2-2.result.now in
    let status_text = c.deref-in-Ok-read_both-2-3.result.now in
    let of_settings = subst (IsReadFile (file c.in-CheckSize.settings.now)) (sym c.deref-in-Ok-read_both-2-2.ensures.value) read.ensures.settings in
    let of_status = subst (IsReadFile (file c.in-CheckSize.status.now)) (sym c.deref-in-Ok-read_both-2-3.ensures.value) read.ensures.other in
    let checks = subst (λ lost. ChecksSizeText text level (map (λ w. w.now) lost) (load_of status_text) told.0 old new c.check_size_text.result)
    c.deref-in-Ok-read_both-2-4.ensures.value told.2 in record {
      carries_out = (
        told.0,
        told.1,
        subst (λ command. CarriesOut file (named command) told.0 old new c.check_size_text.result) (sym c.in-CheckSize.is)
            (size_checked file c.in-CheckSize.settings.now c.in-CheckSize.status.now level (map (λ w. w.now) c.in-CheckSize.lost.items) text status_text
            told.0 old new c.check_size_text.result of_settings of_status checks),
      );
    }

-- nothing was taken or written
pub returns-in-Serve : goal.returns-in-Serve
returns-in-Serve g c =
    let side = g.R.Device.input c.args.source.now in
    let file = g.F.Folder.file c.args.lent.files.now in
    let out = g.S.Device.output c.args.sink.now in record {
      carries_out = (
        nothing_from side,
        meets_nothing side,
        rw c.in-Serve.is (served file c.in-Serve.settings.now c.in-Serve.services.now c.in-Serve._until_input (nothing_from side) out c.serve.result (refl, refl, refl)
            c.serve.ensures.serves),
      );
    }

-- nothing was taken
pub returns-in-Drain : goal.returns-in-Drain
returns-in-Drain g c =
    let side = g.R.Device.input c.args.source.now in
    let file = g.F.Folder.file c.args.lent.files.now in
    let old = g.S.Device.output c.args.sink.now in
    let new = g.S.Device.output c.drain.new.sink in record {
      carries_out = (
        nothing_from side,
        meets_nothing side,
        rw c.in-Drain.is (drained file c.in-Drain.services.now (nothing_from side) old new c.drain.result (refl, refl, refl) c.drain.ensures.drains),
      );
    }
