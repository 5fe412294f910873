use Rattle.std.proofs.Common.{◌≡◌, ◌∙◌, ap, length, subst}
use Rattle.dsr_names.specs.Refusal.{refusal_line}
use Rattle.dsr_names.specs.Streams.{CanFailToTake, Sent, SentPrefix}
use Rattle.dsr_names.specs.declared.refusal.Refusal.TheVariants.{WriteFailed}
use Rattle.dsr_cli.specs.Status.{status_of}
use Rattle.dsr_cli.proofs.show.Goals as goal

pub returns-in-Err-clause-part : goal.returns-in-Err-clause-part
returns-in-Err-clause-part g c =
    let is : c.in-Err.refusal ≡ WriteFailed = c.in-Err.ensures.refusal in
    let room = g.O.Sink.output c.args.output.now in
    let sent = g.O.Sink.output c.write_output.new.sink in
    let before = g.E.Sink.output c.args.errors.now in
    let after = g.E.Sink.output c.refuse.new.errors in
    λ some. (
      c.refuse.ensures.status ∙ ap status_of is,
      subst (λ bytes. CanFailToTake (length bytes) room) c.as_bytes.ensures.value c.in-Err.ensures.failed,
      subst (λ bytes. SentPrefix bytes room sent) c.as_bytes.ensures.value c.in-Err.ensures.prefix,
      subst (λ e. Sent (refusal_line e) before after) is c.refuse.ensures.told,
    )
