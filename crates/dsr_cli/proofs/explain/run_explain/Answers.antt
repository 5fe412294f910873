use Rattle.std.proofs.Common.{◌∙◌, rules, sym}
use Rattle.dsr_names.specs.Streams.{streams}
use Rattle.dsr_cli.proofs.ExplainedLemmas.{from_err, from_ok, play_explained, play_left, steps_explained, steps_left}
use Rattle.dsr_cli.proofs.explain.run_explain.Goals as goal

pub returns-then-is_transcript-clause-done : goal.returns-then-is_transcript-clause-done
returns-then-is_transcript-clause-done g c =
    let s = streams (g.S.Source.input c.args.source.now) (g.K.Sink.output c.args.sink.now) (g.K.Sink.output c.explain_steps.new.sink) in
    from_ok c.explain_steps.result _ _
    (steps_explained s c.as_slice-text.result.now c.args.narrowing.now (search rules) (search rules) (sym c.is_transcript.ensures ∙ c.if-is_transcript.true))
    c.explain_steps.ensures.done

pub returns-then-is_transcript-clause-refused : goal.returns-then-is_transcript-clause-refused
returns-then-is_transcript-clause-refused g c =
    let s = streams (g.S.Source.input c.args.source.now) (g.K.Sink.output c.args.sink.now) (g.K.Sink.output c.explain_steps.new.sink) in
    from_err c.explain_steps.result _ _
    (steps_left s c.as_slice-text.result.now c.args.narrowing.now (search rules) (search rules) (sym c.is_transcript.ensures ∙ c.if-is_transcript.true))
    c.explain_steps.ensures.refused

pub returns-clause-done : goal.returns-clause-done
returns-clause-done g c =
    let s = streams (g.S.Source.input c.args.source.now) (g.K.Sink.output c.args.sink.now) (g.K.Sink.output c.explain.new.sink) in
    from_ok c.explain.result _ _
    (play_explained s c.as_slice-text.result.now c.args.narrowing.now (search rules) (search rules) (sym c.is_transcript.ensures ∙ c.if-is_transcript.false))
    (search rules)

pub returns-clause-refused : goal.returns-clause-refused
returns-clause-refused g c =
    let s = streams (g.S.Source.input c.args.source.now) (g.K.Sink.output c.args.sink.now) (g.K.Sink.output c.explain.new.sink) in
    from_err c.explain.result _ _
    (play_left s c.as_slice-text.result.now c.args.narrowing.now (search rules) (search rules) (sym c.is_transcript.ensures ∙ c.if-is_transcript.false))
    (search rules)
