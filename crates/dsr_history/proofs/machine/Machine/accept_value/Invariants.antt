use Rattle.std.proofs.Common.{◌≡◌, ◌+◌, ◌≤◌, List, ◌++◌, length, take, reverse}
use Rattle.dsr_request.specs.Request.{Request}
use Rattle.dsr_history.specs.History.{acting, requests_of}
use Rattle.dsr_history.specs.Machine.{StandsFor}
use Rattle.dsr_history.proofs.machine.Machine.accept_value.Given as goal

-- the requests so far are processed, those that acted are counted, and they used no more room than their own, so it is
-- enough for the rest
abbrev pub invariant-loop-request : goal.invariant-loop-request
invariant-loop-request l =
    ((values : List (List Request)) → StandsFor l.initial.self values → l.self.history ≡ acting (reverse (take l.request-index l.requests) ++ requests_of values))
    × (length l.self.history ≡ length l.initial.self.history + l.count)
    × (l.count ≤ l.request-index)
    × (l.self.clients ≡ l.initial.self.clients)
    × (8 ≤ l.self.room + l.request-index)
    × (l.initial.self.room ≤ l.self.room + l.request-index)
