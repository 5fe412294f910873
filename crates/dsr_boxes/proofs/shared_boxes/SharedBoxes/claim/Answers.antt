use Rattle.std.proofs.Common.{ap, sym, ◌∙◌, refl, rules}
use Rattle.dsr_boxes.specs.View.{log_in}
use Rattle.dsr_boxes.proofs.Told.{claims_as, claim_told, on_found, on_missed}
use Rattle.dsr_boxes.proofs.shared_boxes.SharedBoxes.claim.Goals as goal

pub compare_exchange-found-requires : goal.compare_exchange-found-requires
compare_exchange-found-requires c = (
  search rules,
  search rules,
  claims_as c.args.self.now.shape c.self.inside.memory.shared.key c.self.inside.memory.shared.table_id.slots c.args.token.now.id c.word_of-word.result
      c.args.me.now c.args.to.now (log_in c.args.token.now.me.0.part) c.args.token.now.me (sym (ap (λ b. b.shape) c.self.view_is) ∙ sym c.self.invariant.0) c.requires.me c.requires.to c.word_of-word.ensures.same c.requires.rests,
)

pub returns-clause-claimed : goal.returns-clause-claimed
returns-clause-claimed c =
    on_found c.compare_exchange-found.result 0 _ (λ e. (claim_told c.args.self.now.shape c.args.self.now.shape c.self.inside.memory.shared.table_id.slots 0 c.word_of-word.result
    c.args.me.now c.args.to.now (log_in c.args.token.now.me.0.part) c.args.token.now.me refl c.requires.me c.requires.to c.compare_exchange-found.result c.compare_exchange-found.new.seat.me
    c.word_of-word.ensures.same c.requires.rests c.compare_exchange-found.ensures.2).0 e)

pub returns-clause-missed : goal.returns-clause-missed
returns-clause-missed c =
    on_missed c.compare_exchange-found.result 0 _ (λ e. (claim_told c.args.self.now.shape c.args.self.now.shape c.self.inside.memory.shared.table_id.slots 0 c.word_of-word.result
    c.args.me.now c.args.to.now (log_in c.args.token.now.me.0.part) c.args.token.now.me refl c.requires.me c.requires.to c.compare_exchange-found.result c.compare_exchange-found.new.seat.me
    c.word_of-word.ensures.same c.requires.rests c.compare_exchange-found.ensures.2).1 e)
