use Rattle.std.proofs.Common.{◌∙◌, ap, map, sym}
use Rattle.clap.specs.Words.{App, fault_of, is_simple_and_free}
use Rattle.dsr_command.proofs.ReadingLemmas.{command_line_is_simple}
use Rattle.dsr_command.proofs.parse.Goals as goal

pub returns-clause-taken : goal.returns-clause-taken
returns-clause-taken g c =
    let is = c.in_ok-command.ensures.0 in
    ap (λ (app : App). fault_of app (map g.S.AsStr.text c.args.words.now)) (sym is)
    ∙ c.in_ok-matches.ensures.kinds (ap is_simple_and_free is ∙ command_line_is_simple)
