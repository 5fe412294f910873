use Rattle.std.proofs.Common.{rules}
use Rattle.std.specs.Prelude.{string_bytes}
use Rattle.dsr_names.specs.Streams.{streams}
use Rattle.dsr_cli.specs.Served.{IsServiceReport}
use Rattle.dsr_cli.proofs.ServedLemmas.{all_served, service_left}
use Rattle.dsr_cli.proofs.serve.run_serve.Goals as goal

pub returns-clause-done : goal.returns-clause-done
returns-clause-done g c =
    let s = streams (g.S.Source.input c.args.source.now) (g.K.Sink.output c.args.sink.now) (g.K.Sink.output c.give_out.new.sink) in
    all_served IsServiceReport s c.as_slice.result.now c.in-Ok.outcome.cause (string_bytes c.in-Ok.outcome.report)
    (search rules) (search rules) c.in-Ok.ensures.served c.give_out.result c.give_out.ensures.done

pub returns-clause-refused : goal.returns-clause-refused
returns-clause-refused g c =
    let s = streams (g.S.Source.input c.args.source.now) (g.K.Sink.output c.args.sink.now) (g.K.Sink.output c.give_out.new.sink) in
    service_left IsServiceReport s c.as_slice.result.now c.in-Ok.outcome.cause (string_bytes c.in-Ok.outcome.report)
    (search rules) (search rules) c.in-Ok.ensures.served c.give_out.result c.give_out.ensures.refused
