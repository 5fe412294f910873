use Rattle.std.proofs.Common.{◌≡◌, ◌++◌, Some, ap, sym, ◌∙◌}
use Rattle.std.specs.Option.{option_map}
use Rattle.dsr_replica.specs.Replica.{ask_of}
use Rattle.dsr_replica.proofs.Choosing.{added_more}
use Rattle.dsr_replica.proofs.held.Asks.+add_to.Goals as goal

pub returns-in-len1-up-clause-added : goal.returns-in-len1-up-clause-added
returns-in-len1-up-clause-added t c = λ all e.
    let one : Some c.unwrap.result.now ≡ ask_of c.args.self.now c.first-item.result =
    sym (ap (option_map (λ a. a.now)) c.unwrap.ensures) ∙ c.get.ensures in
    added_more c.args.self.now c.args.clients.now c.first-item.result c.unwrap.result.now c.args.list.now.items c.add_to.new.list.items all
    c.first-item.is c.in-len1-up.len_at_least one (λ more m. c.add_to.ensures.added more m ∙ ap (λ xs. xs ++ more) c.push_reserved.ensures.items) e
