use Rattle.std.proofs.Common.{◌∙◌, None, Some, sym}
use Rattle.dsr_command.proofs.WishLemmas.{actor_words, slot_words}
use Rattle.dsr_command.proofs.narrowing.+further_wish.Goals as goal

pub returns-in_default-first_slot : goal.returns-in_default-first_slot
returns-in_default-first_slot g t c =
    sym (slot_words g.S.AsStr.text c.args.words.now c.word-item.result c.as_str-word.result.now c.args.so_far None c.in-len1-up.len_at_least c.word-item.is
    c.as_str-word.ensures c.if-eq.ensures c.if-is_none.ensures (sym c.in_default-first_slot.is ∙ c.first_slot.ensures))

pub returns-then-is_none : goal.returns-then-is_none
returns-then-is_none g t c =
    c.further_wish.ensures
    ∙ sym (slot_words g.S.AsStr.text c.args.words.now c.word-item.result c.as_str-word.result.now c.args.so_far (Some c.in-Some.slot) c.in-len1-up.len_at_least
    c.word-item.is c.as_str-word.ensures c.if-eq.ensures c.if-is_none.ensures (sym c.in-Some.is ∙ c.first_slot.ensures))

pub returns-in_default-first_actor : goal.returns-in_default-first_actor
returns-in_default-first_actor g t c =
    sym (actor_words g.S.AsStr.text c.args.words.now c.word-item.result c.as_str-word.result.now c.args.so_far None c.in-len1-up.len_at_least c.word-item.is
    c.as_str-word.ensures c.if-eq-2.ensures c.if-is_none-2.ensures (sym c.in_default-first_actor.is ∙ c.first_actor.ensures))

pub returns-then-is_none-2 : goal.returns-then-is_none-2
returns-then-is_none-2 g t c =
    c.further_wish-then-is_none-2.ensures
    ∙ sym (actor_words g.S.AsStr.text c.args.words.now c.word-item.result c.as_str-word.result.now c.args.so_far (Some c.in-Some-first_actor.actor)
    c.in-len1-up.len_at_least c.word-item.is c.as_str-word.ensures c.if-eq-2.ensures c.if-is_none-2.ensures (sym c.in-Some-first_actor.is ∙ c.first_actor.ensures))
