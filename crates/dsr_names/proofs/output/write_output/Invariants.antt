use Rattle.std.proofs.Common.{◌≡◌, ◌+◌, ◌≤◌, length, take, IfSome, ◌⊎◌}
use Rattle.std.specs.Io.KnownBytes.{Appends}
use Rattle.dsr_names.proofs.output.write_output.Given as goal

-- what is sent went out; each turn sends something, by one call; a sink with room for all takes all at once; and a steady
-- sink stays one
abbrev pub invariant-loop : goal.invariant-loop
invariant-loop g l =
    (l.sent ≤ length l.bytes) × Appends (g.S.Sink.output l.initial.sink).contents (g.S.Sink.output l.sink).contents (take l.sent l.bytes)
    × (l.counter ≤ l.sent) × (l.sent ≡ 0 → l.sink ≡ l.initial.sink)
    × IfSome (g.S.Sink.output l.initial.sink).room (λ most. length l.bytes ≤ most → (l.sent ≡ 0) ⊎ (l.sent ≡ length l.bytes))
    × ((g.S.Sink.output l.initial.sink).is_steady → (g.S.Sink.output l.sink).is_steady)
    × ((g.S.Sink.output l.sink).calls ≤ (g.S.Sink.output l.initial.sink).calls + l.counter)
