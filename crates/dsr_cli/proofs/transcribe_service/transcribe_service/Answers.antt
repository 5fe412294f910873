use Rattle.std.proofs.Common.{rules}
use Rattle.dsr_names.specs.Streams.{streams}
use Rattle.dsr_record.specs.RecordText.{record_text}
use Rattle.dsr_cli.specs.Served.{IsServiceTranscript}
use Rattle.dsr_cli.proofs.ServedLemmas.{all_served, service_left}
use Rattle.dsr_cli.proofs.transcribe_service.transcribe_service.Goals as goal

pub returns-clause-done : goal.returns-clause-done
returns-clause-done g c =
    let s = streams (g.S.Source.input c.args.source.now) (g.K.Sink.output c.args.sink.now) (g.K.Sink.output c.give_out-given.new.sink) in
    all_served IsServiceTranscript s c.as_slice.result.now c.in-Ok.recording.cause (record_text c.in-Ok.recording.recorded)
    (search rules) (search rules) c.in-Ok.ensures.served c.give_out-given.result c.give_out-given.ensures.done

pub returns-clause-refused : goal.returns-clause-refused
returns-clause-refused g c =
    let s = streams (g.S.Source.input c.args.source.now) (g.K.Sink.output c.args.sink.now) (g.K.Sink.output c.give_out-given.new.sink) in
    service_left IsServiceTranscript s c.as_slice.result.now c.in-Ok.recording.cause (record_text c.in-Ok.recording.recorded)
    (search rules) (search rules) c.in-Ok.ensures.served c.give_out-given.result c.give_out-given.ensures.refused
