use Rattle.std.proofs.Common.{◌≡◌, length, ap, sym, ◌∙◌, rules}
use Rattle.dsr_names.specs.Places.{place_of}
use Rattle.dsr_boxes.specs.declared.view.Doing.TheVariants.{Resting}
use Rattle.dsr_boxes.specs.View.{sitting, log_in, logs_kept}
use Rattle.dsr_boxes.proofs.Parts.{some_words, joins_as}
use Rattle.dsr_boxes.proofs.returned.Returned.take_back.Goals as goal

pub join_seat-requires : goal.join_seat-requires
join_seat-requires c =
    let shape = c.self.inside.token.me.0.shape in
    let same : shape ≡ c.args.boxes.now.shape = ap (λ r. r.shape) c.self.view_is ∙ c.requires.boxes.1 in
    let log = log_in c.pass.inside.token.me.0.part in (
      search rules,
      search rules,
      ap (λ m. m.1) c.pass.invariant.0,
      some_words c.boxes.inside.memory.shared.table_id.words _ c.boxes.invariant.1.0,
      joins_as shape c.boxes.inside.memory.shared.key c.self.inside.token.id c.pass.inside.token.id c.self.inside.token.me.0 c.pass.inside.token.me.0
          c.pass.inside.actor log (logs_kept c.self.inside.token.me.0.part)
          (same ∙ (sym (ap (λ b. b.shape) c.boxes.view_is) ∙ sym c.boxes.invariant.0))
          (ap (λ m. m.0) c.self.invariant)
          (ap (λ m. m.0) c.pass.invariant.0 ∙ ap (λ s. sitting s c.pass.inside.actor log Resting) (ap (λ p. p.shape) c.pass.view_is ∙ (c.requires.pass.1 ∙ sym same)))
          ((λ i. place_of (same i) (ap (λ p. p.actor) c.pass.view_is i)) ∙ (c.requires.next ∙ sym (ap (λ r. length r.logs) c.self.view_is))),
    )
