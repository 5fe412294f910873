use Rattle.std.proofs.Common.{sym}
use Rattle.dsr_command.proofs.WishLemmas.{no_hyphen}
use Rattle.dsr_command.proofs.narrowing.is_short_help.Goals as goal

pub returns-in-None : goal.returns-in-None
unfolding lib.Utf8.encode
returns-in-None c = sym (no_hyphen c.args.word.now c.in-None.ensures.cases)
