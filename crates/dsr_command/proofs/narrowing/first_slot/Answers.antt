use Rattle.std.proofs.Common.{◌∙◌, ap, sym}
use Rattle.std.specs.Option.{option_and_then}
use Rattle.dsr_command.specs.Values.{slot_of}
use Rattle.dsr_command.proofs.WishLemmas.{first_is, slot_read}
use Rattle.dsr_command.proofs.narrowing.first_slot.Goals as goal

pub returns-in-len1-up : goal.returns-in-len1-up
returns-in-len1-up g c =
    let first = first_is g.S.AsStr.text c.args.words.now c.word-item.result c.in-len1-up.len_at_least c.word-item.is in
    slot_read c.as_bytes.result.now c.read_num.result c.read_num.ensures
    ∙ ap slot_of (c.as_bytes.ensures.value ∙ c.as_str.ensures) ∙ ap (option_and_then slot_of) (sym first)
