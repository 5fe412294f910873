use Rattle.std.proofs.Common.{rules}
use Rattle.dsr_names.specs.Streams.{streams}
use Rattle.dsr_record.specs.RecordText.{record_text}
use Rattle.dsr_reports.specs.Played.{IsTranscript}
use Rattle.dsr_reports.proofs.PlayedLemmas.{all_out, refused_left}
use Rattle.dsr_reports.proofs.transcribe.transcribe_play.Goals as goal

pub returns-clause-done : goal.returns-clause-done
returns-clause-done g c =
    let s = streams (g.S.Source.input c.args.source.now) (g.K.Sink.output c.args.sink.now) (g.K.Sink.output c.give_out-given.new.sink) in
    all_out IsTranscript s c.as_slice.result.now c.in-Ok.recording.refused c.in-Ok.recording.starved (record_text c.in-Ok.recording.recorded)
    (search rules) (search rules) c.in-Ok.ensures.played c.give_out-given.result c.give_out-given.ensures.done

pub returns-clause-refused : goal.returns-clause-refused
returns-clause-refused g c =
    let s = streams (g.S.Source.input c.args.source.now) (g.K.Sink.output c.args.sink.now) (g.K.Sink.output c.give_out-given.new.sink) in
    let out = c.give_out-given.ensures in
    refused_left IsTranscript s c.as_slice.result.now c.in-Ok.recording.refused c.in-Ok.recording.starved (record_text c.in-Ok.recording.recorded)
    (search rules) (search rules) c.in-Ok.ensures.played c.give_out-given.result out.refusals out.starved out.failed
