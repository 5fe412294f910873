use Rattle.std.proofs.Common.{◌≡◌, ◌∙◌, true, false, sym, subst}
use Rattle.std.specs.Option.{is_none}
use Rattle.std.proofs.lemmas.Bool.{true≢false}
use Rattle.dsr_names.specs.declared.actor.Actor.TheVariants.{Replica, Client}
use Rattle.dsr_client.specs.Conduct.{ask_to}
use Rattle.dsr_node.specs.Conduct.{is_exhausted}
use Rattle.dsr_run.specs.Step.{log_of}
use Rattle.dsr_lines.proofs.WantedLemmas.{given_test, more_there, where_none}
use Rattle.dsr_lines.proofs.wanted.wanted_ask.Goals as goal

pub unreachable-requires : goal.unreachable-requires
unreachable-requires c =
    let w = c.args.stage.now in
    let pick = c.args.pick.now in
    let from = c.args.from in
    let to = c.args.to in
    let log = log_of w.run (Client from) in
    let client = c.client_of.result.now in
    let is = c.client_of.ensures in
    let more = subst (λ s. is_exhausted s log (Client client.me) (Replica to) pick ≡ false) (sym is.shape)
    (subst (λ m. is_exhausted w.shape log (Client m) (Replica to) pick ≡ false) (sym is.me)
    (more_there w.shape (log_of w.run) (Client from) (Replica to) pick c.requires)) in
    let none = where_none c.ask_by.result (is_none (ask_to client.shape client.me log pick) ≡ true) c.in-None.is
    (c.ask_by.ensures.none log to is.stands more) in
    let ours = subst (λ m. is_none (ask_to w.shape m log pick) ≡ true) is.me
    (subst (λ s. is_none (ask_to s client.me log pick) ≡ true) is.shape none) in
    true≢false (sym ours ∙ given_test w.shape (log_of w.run) (Client from) (Replica to) pick c.requires)
