use Rattle.std.proofs.Common.{◌∙◌, ap, length, subst}
use Rattle.std.specs.List.{IsDistinct}
use Rattle.std.specs.Map.{keys_of}
use Rattle.std.specs.Str.{bytes_eq}
use Rattle.dsr_register.proofs.ValueLemmas.{count_stands}
use Rattle.dsr_register.proofs.directory.Directory.len.Goals as goal

pub returns-clause-count : goal.returns-clause-count
returns-clause-count c ops stands =
    c.len.ensures.count
    ∙ (ap length c.self.view_is
    ∙ count_stands c.args.self.now ops (subst (λ t. IsDistinct bytes_eq (keys_of t)) c.self.view_is c.len.ensures.distinct) stands)
