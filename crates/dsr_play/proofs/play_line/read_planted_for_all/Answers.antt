use Rattle.dsr_names.specs.Actor.{replica_text}
use Rattle.dsr_script.specs.EnvelopeText.{envelope_text}
use Rattle.dsr_play.proofs.PlayPartLemmas.{no_space, reads_zip, replica_spaceless}
use Rattle.dsr_play.proofs.play_line.read_planted_for_all.Goals as goal

pub returns-in-None-clause-read : goal.returns-in-None-clause-read
returns-in-None-clause-read c = no_space _ replica_text _ envelope_text replica_spaceless _ c.in-None.ensures.absent

pub returns-in_ok-read-in-Some-clause-read : goal.returns-in_ok-read-in-Some-clause-read
returns-in_ok-read-in-Some-clause-read c =
    rw c.zip.ensures (reads_zip _ _ _ _ replica_spaceless _ _ _ c.in-Some.ensures.found c.in-Some.ensures.first _ _ c.read.ensures c.in_ok-read-in-Some.ensures.read)
