use Rattle.std.proofs.Common.{ap, subst, sym}
use Rattle.dsr_names.specs.Streams.{streams}
use Rattle.dsr_command.specs.Readings.{IfDo, IfHelp, IfVersion}
use Rattle.dsr_cli.specs.Status.{Run, WhatShowingLeft, WhatTaskLeft, run_of}
use Rattle.dsr_cli.proofs.StatusLemmas.{on_ok, showing_left, task_left}
use Rattle.dsr_cli.proofs.obey.Goals as goal

pub returns-in-Help-clause-help : goal.returns-in-Help-clause-help
returns-in-Help-clause-help g c =
    let io = streams (g.I.Source.input c.args.input.now) (g.O.Sink.output c.args.output.now) (g.O.Sink.output c.show.new.output) in
    let run : Run = run_of io (g.E.Sink.output c.args.errors.now) (g.E.Sink.output c.show.new.errors) in
    let status = c.show.result in
    let left = showing_left c.as_str.result.now status run c.show.ensures.whole c.show.ensures.part in
    subst (λ r. IfHelp r (λ text. WhatShowingLeft text status run)) (sym c.in-Help.is)
    (subst (λ text. WhatShowingLeft text status run) c.as_str.ensures.value left)

pub returns-in-Version-clause-version : goal.returns-in-Version-clause-version
returns-in-Version-clause-version g c =
    let shown = c.show-in-Version in
    let io = streams (g.I.Source.input c.args.input.now) (g.O.Sink.output c.args.output.now) (g.O.Sink.output shown.new.output) in
    let run : Run = run_of io (g.E.Sink.output c.args.errors.now) (g.E.Sink.output shown.new.errors) in
    let left = showing_left c.as_str-in-Version.result.now shown.result run shown.ensures.whole shown.ensures.part in
    subst (λ r. IfVersion r (λ line. WhatShowingLeft line shown.result run)) (sym c.in-Version.is)
    (subst (λ line. WhatShowingLeft line shown.result run) c.as_str-in-Version.ensures.value left)

pub returns-in-Do-clause-task : goal.returns-in-Do-clause-task
returns-in-Do-clause-task g c =
    let io = streams (g.I.Source.input c.args.input.now) (g.O.Sink.output c.args.output.now) (g.O.Sink.output c.perform-done.new.output) in
    let run : Run = run_of io (g.E.Sink.output c.args.errors.now) (g.E.Sink.output c.status_after.new.errors) in
    let did = c.perform-done.ensures in
    let after = c.status_after.ensures in
    subst (λ r. IfDo r (λ named. WhatTaskLeft named c.status_after.result run)) (sym c.in-Do.is)
    (task_left c.in-Do.task c.perform-done.result c.status_after.result run did.done did.refused after.done
    (on_ok c.perform-done.result (λ same. ap (λ e. (g.E.Sink.output e).contents) same) after.silent) after.refused)
