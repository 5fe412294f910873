use Rattle.std.proofs.Common.{sym, subst}
use Rattle.dsr_base.specs.Reads.{Reads}
use Rattle.dsr_base.proofs.TwoParts.{at_byte, no_parts, no_front, no_rest, reads_parts}
use Rattle.dsr_request.specs.OpText.{op_text, IsOp}
use Rattle.dsr_script.proofs.ServeLemmas.{IsClient, client_text, client_spaceless, IsAsk, ask_text}
use Rattle.dsr_script.proofs.serve_line.read_ask.Goals as goal

pub returns-in_err-client : goal.returns-in_err-client
returns-in_err-client c =
    subst (Reads IsAsk ask_text c.args.bytes.now) (sym c.from_residual.ensures)
    (no_parts IsClient client_text IsOp (op_text 32) 32 (at_byte 32) client_spaceless c.args.bytes.now c.in_err-client.ensures.absent)

pub returns-in_err-client-2 : goal.returns-in_err-client-2
returns-in_err-client-2 c =
    subst (Reads IsAsk ask_text c.args.bytes.now) (sym c.from_residual-in_err-client-2.ensures)
    (no_front IsClient client_text IsOp (op_text 32) 32 (at_byte 32) client_spaceless c.args.bytes.now c.in_ok-client.client.now c.in_ok-client.op.now
    c.in_ok-client.ensures.found c.in_ok-client.ensures.first c.in_err-client-2.ensures)

pub returns-in_err-op : goal.returns-in_err-op
returns-in_err-op c =
    subst (Reads IsAsk ask_text c.args.bytes.now) (sym c.from_residual-in_err-op.ensures)
    (no_rest IsClient client_text IsOp (op_text 32) 32 (at_byte 32) client_spaceless c.args.bytes.now c.in_ok-client.client.now c.in_ok-client.op.now
    c.in_ok-client.ensures.found c.in_ok-client.ensures.first c.in_err-op.ensures)

pub returns : goal.returns
returns c =
    reads_parts IsClient client_text IsOp (op_text 32) 32 (at_byte 32) client_spaceless c.args.bytes.now c.in_ok-client.client.now c.in_ok-client.op.now
    c.in_ok-client.ensures.found c.in_ok-client.ensures.first c.in_ok-client-2.client c.in_ok-op.op c.in_ok-client-2.ensures c.in_ok-op.ensures
