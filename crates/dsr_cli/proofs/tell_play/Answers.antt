use Rattle.dsr_cli.proofs.tell_play.Goals as goal

pub returns-then-transcript-clause-done : goal.returns-then-transcript-clause-done
returns-then-transcript-clause-done g c = rw (c.if-transcript.true) c.transcribe_play.ensures.done

pub returns-then-transcript-clause-refused : goal.returns-then-transcript-clause-refused
returns-then-transcript-clause-refused g c = rw (c.if-transcript.true) c.transcribe_play.ensures.refused

pub returns-else-transcript-clause-done : goal.returns-else-transcript-clause-done
returns-else-transcript-clause-done g c = rw (c.if-transcript.false) c.run_play.ensures.done

pub returns-else-transcript-clause-refused : goal.returns-else-transcript-clause-refused
returns-else-transcript-clause-refused g c = rw (c.if-transcript.false) c.run_play.ensures.refused
