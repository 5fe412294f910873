use Rattle.std.proofs.Common.{◌≡◌, ◌++◌, reverse, string_bytes, take}
use Rattle.dsr_text.specs.Header.{header_line}
use Rattle.dsr_text.specs.Lines.{lines_text}
use Rattle.dsr_record.specs.RecordText.{version_title, transcripts}
use Rattle.dsr_record.proofs.files.text_of.Given as goal

-- the header and the lines of the steps so far
abbrev pub invariant-loop-step : goal.invariant-loop-step
invariant-loop-step l =
    string_bytes l.text
    ≡ header_line (version_title l.recorded.version) l.recorded.shape ++ lines_text (transcripts l.recorded.version) (reverse (take l.step-index l.step-items))
