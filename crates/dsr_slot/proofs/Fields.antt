-- A slot's fields are in order after one more chain is kept, over plain variables.
use Rattle.std.proofs.Common.{◌≡◌, ℕ, ◌+◌, ◌≤◌, true, Some, sym, ap, ◌∙◌}
use Rattle.std.specs.Option.{is_some}
use Rattle.std.proofs.lemmas.Bool.{false≢true}
use Rattle.dsr_chain.specs.Chain.{Chain}
use Rattle.dsr_slot.specs.Keeping.{kept_in, is_news}
use Rattle.dsr_slot.specs.Support.SlotState.{IsSlotFields, IsProperlyKept, slot_state_of}
use Rattle.dsr_slot.specs.declared.slot_state.SlotState.TheInside.{Inside}
use Rattle.dsr_slot.proofs.Keeps.{is_news-Decides}

-- what is news is properly kept
news_kept : (a : Inside) (round : ℕ) (chain : Chain) → round ≤ a.shape.f + 1 → is_news a.shape a.slot round (slot_state_of a).kept chain ≡ true
    → IsProperlyKept a.shape a.slot (kept_in round chain)
news_kept a round chain within news =
    record { within = within; proper = ((is_news-Decides a.shape a.slot round (slot_state_of a).kept chain).0 news).proper }

-- with news in the first field
pub first_filled : (a : Inside) (round : ℕ) (chain : Chain) → IsSlotFields a → round ≤ a.shape.f + 1
    → is_news a.shape a.slot round (slot_state_of a).kept chain ≡ true → IsSlotFields (record a { first = Some (kept_in round chain) })
first_filled a round chain h within news = record {
  in_order = λ e. cc;
  closed = h.closed;
  few = h.few;
  first = news_kept a round chain within news;
  second = h.second;
}

-- with news in the second field, if the first is taken
pub second_filled : (a : Inside) (round : ℕ) (chain : Chain) → IsSlotFields a → round ≤ a.shape.f + 1
    → is_news a.shape a.slot round (slot_state_of a).kept chain ≡ true → is_some a.first ≡ true
    → IsSlotFields (record a { second = Some (kept_in round chain) })
second_filled a round chain h within news taken = record {
  in_order = λ e. absurd (false≢true (sym (ap is_some e) ∙ taken));
  closed = h.closed;
  few = h.few;
  first = h.first;
  second = news_kept a round chain within news;
}
