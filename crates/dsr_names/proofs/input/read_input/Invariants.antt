use Rattle.std.proofs.Common.{◌+◌, ◌≤◌, vec_len}
use Rattle.std.specs.Io.KnownBytes.{Consumes}
use Rattle.dsr_names.specs.Limits.{most_bytes}
use Rattle.dsr_names.proofs.input.read_input.Given as goal

-- the text is what was given, within the limit; each turn gave a byte, and made one call; a steady source stays one
abbrev pub invariant-loop : goal.invariant-loop
invariant-loop g l =
    Consumes (g.S.Source.input l.initial.source).left (g.S.Source.input l.source).left l.text.items × (vec_len l.text ≤ most_bytes)
    × (l.counter ≤ vec_len l.text) × ((g.S.Source.input l.initial.source).is_steady → (g.S.Source.input l.source).is_steady)
    × ((g.S.Source.input l.source).calls ≤ (g.S.Source.input l.initial.source).calls + l.counter)
