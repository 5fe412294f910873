use Rattle.std.proofs.Common.{◌≡◌, length, take}
use Rattle.std.specs.Prelude.{map}
use Rattle.dsr_script.proofs.said_text.content_of.Given as goal

abbrev pub invariant-loop-i : goal.invariant-loop-i
invariant-loop-i l = record {
  size : length l.requests ≡ 8;
  copied : take l.i l.requests ≡ map (λ s. s.request) (take l.i l.asks);
}
