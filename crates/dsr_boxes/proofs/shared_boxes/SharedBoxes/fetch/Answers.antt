use Rattle.std.proofs.Common.{ap, sym, ◌∙◌, refl, rules}
use Rattle.dsr_boxes.specs.View.{log_in}
use Rattle.dsr_boxes.proofs.Told.{fetches_as, fetch_told, on_found, on_missed}
use Rattle.dsr_boxes.proofs.shared_boxes.SharedBoxes.fetch.Goals as goal

pub compare_exchange-found-requires : goal.compare_exchange-found-requires
compare_exchange-found-requires c = (
  search rules,
  search rules,
  fetches_as c.args.self.now.shape c.self.inside.memory.shared.key c.self.inside.memory.shared.table_id.slots c.args.token.now.id c.word_of-word.result
      c.args.me.now c.args.from.now (log_in c.args.token.now.me.0.part) c.args.token.now.me (sym (ap (λ b. b.shape) c.self.view_is) ∙ sym c.self.invariant.0) c.requires.me c.requires.from c.requires.conduct c.word_of-word.ensures.same c.requires.rests,
)

pub returns-clause-fetched : goal.returns-clause-fetched
returns-clause-fetched c =
    on_found c.compare_exchange-found.result 2 _ (λ e. (fetch_told c.args.self.now.shape c.args.self.now.shape c.self.inside.memory.shared.table_id.slots 0 c.word_of-word.result
    c.args.me.now c.args.from.now (log_in c.args.token.now.me.0.part) c.args.token.now.me refl c.requires.me c.requires.from c.compare_exchange-found.result c.compare_exchange-found.new.seat.me
    c.word_of-word.ensures.same c.requires.rests c.compare_exchange-found.ensures.2).0 e)

pub returns-clause-missed : goal.returns-clause-missed
returns-clause-missed c =
    on_missed c.compare_exchange-found.result 2 _ (λ e. (fetch_told c.args.self.now.shape c.args.self.now.shape c.self.inside.memory.shared.table_id.slots 0 c.word_of-word.result
    c.args.me.now c.args.from.now (log_in c.args.token.now.me.0.part) c.args.token.now.me refl c.requires.me c.requires.from c.compare_exchange-found.result c.compare_exchange-found.new.seat.me
    c.word_of-word.ensures.same c.requires.rests c.compare_exchange-found.ensures.2).1 e)
