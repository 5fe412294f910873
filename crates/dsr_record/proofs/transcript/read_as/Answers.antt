use Rattle.dsr_record.proofs.LineLemmas.{line_clean}
use Rattle.dsr_record.proofs.transcript.read_as.Goals as goal

-- no line of a transcript has a line feed in it
pub take_lines-requires-clause-clean : goal.take_lines-requires-clause-clean
take_lines-requires-clause-clean g c = line_clean g.F.Format.version
