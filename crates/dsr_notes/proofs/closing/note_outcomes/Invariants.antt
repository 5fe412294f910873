use Rattle.std.proofs.Common.{◌≡◌, List, ◌++◌, length, take, reverse}
use Rattle.dsr_request.specs.Request.{Request}
use Rattle.dsr_history.specs.History.{acting}
use Rattle.dsr_notes.specs.Closing.{outcomes}
use Rattle.dsr_notes.specs.Noting.{Adds}
use Rattle.dsr_notes.proofs.closing.note_outcomes.Given as goal

-- the requests so far are noted, and the place is that of the next one that acts
abbrev pub invariant-loop-request : goal.invariant-loop-request
invariant-loop-request l = (older : List Request) → l.acted ≡ length (acting older) → l.history ≡ reverse (acting (reverse l.requests ++ older))
    → (l.place ≡ length (acting (reverse (take l.request-index l.requests) ++ older)))
    × Adds l.initial.notes l.notes (outcomes l.slot older (take l.request-index l.requests))
