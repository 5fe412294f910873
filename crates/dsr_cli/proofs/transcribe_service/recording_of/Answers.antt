use Rattle.std.proofs.Common.{refl}
use Rattle.dsr_cli.proofs.ServiceLemmas.{unmerged}
use Rattle.dsr_cli.proofs.transcribe_service.recording_of.Goals as goal

pub returns-clause-served : goal.returns-clause-served
returns-clause-served g c =
    let made = c.in-Ok-of_logs.ensures in
    let recorded = c.in-Ok-of_logs.recorded in
    record {
      logs = c.in-Ok.service.logs;
      served = c.in-Ok.ensures.served;
      tells = record {
        recorded = recorded;
        shape_is = made.shape;
        whole = made.logs;
        merged = made.merged;
        version = made.version;
        is = refl;
        spells = c.transcripts_spell_their_records.ensures made.fits;
      };
    }

pub returns-in-Err-of_logs-clause-refused : goal.returns-in-Err-of_logs-clause-refused
returns-in-Err-of_logs-clause-refused g c =
    unmerged c.args.text.now c.in-Ok.service.logs c.in-Err-of_logs.refusal c.in-Ok.ensures.served.right.of_run c.in-Err-of_logs.ensures.refused
