use Rattle.std.proofs.Common.{refl}
use Rattle.clap.specs.Words.{found_of}
use Rattle.dsr_command.proofs.ReadingLemmas.{given_read}
use Rattle.dsr_command.proofs.is_given.Goals as goal

pub returns : goal.returns
returns c = given_read (found_of c.args.given.now) c.args.name.now c.get_str.result _ c.eq.result c.get_str.ensures refl c.eq.ensures
