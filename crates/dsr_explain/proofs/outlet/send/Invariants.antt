use Rattle.std.proofs.Common.{◌≡◌, ◌+◌, ◌≤◌, length, take}
use Rattle.std.specs.Io.KnownBytes.{Appends}
use Rattle.dsr_explain.proofs.outlet.send.Given as goal

-- what is sent went out; each turn takes one call, and counts it down
abbrev pub invariant-loop : goal.invariant-loop
invariant-loop g l =
    (l.sent ≤ length l.bytes) × Appends (g.S.Sink.output l.initial.sink).contents (g.S.Sink.output l.sink).contents (take l.sent l.bytes)
    × (l.calls + l.counter ≡ l.initial.calls)
    × ((g.S.Sink.output l.sink).calls + l.calls ≤ (g.S.Sink.output l.initial.sink).calls + l.initial.calls)
