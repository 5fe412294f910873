-- What the crates above use of the calendar: the number of closed slots, which they are, when slots begin, and that
-- none of it depends on who is a traitor.
pub use Rattle.dsr_rotation.proofs.Closing.{closed_slots_count, closed_below, closed_above, closed_stays, begins_at, begins_no_earlier, begin_in_order, begins_blind, closed_blind}
