use Rattle.std.proofs.Common.{◌≡◌, ◌↔◌, refl, subst}
use Rattle.std.specs.Prelude.{All, List}
use Rattle.dsr_run.specs.Step.{Step}
use Rattle.dsr_record.specs.RecordText.{IsStepOf}
use Rattle.dsr_record.specs.declared.version.Version.TheVariants.{One}
use Rattle.dsr_reports.proofs.transcribe.recording_of.Goals as goal

pub returns-clause-played : goal.returns-clause-played
returns-clause-played c =
    let made = c.in-Ok-of_world.ensures in
    let recorded = c.in-Ok-of_world.recorded in
    record {
      shape = c.in-Ok.played.world.shape;
      run = c.in-Ok.played.world.run;
      end = c.in-Ok.played.end;
      played = c.in-Ok.ensures.played;
      refused_is = refl;
      starved_is = refl;
      tells = record {
        recorded = recorded;
        shape_is = made.shape;
        run_is = made.run;
        version = subst (λ (run : List Step). (recorded.version ≡ One) ↔ All (IsStepOf One) run) made.run made.version;
        is = refl;
        spells = c.transcripts_spell_their_records.ensures made.fits;
      };
    }
