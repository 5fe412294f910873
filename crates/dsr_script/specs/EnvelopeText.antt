-- How texts write an envelope (this project): `empty`, `round 0 0/c0#1:write:a:5~c0/r0`, `ask c0#1:read:a~c0`,
-- `reply 1 0 written`, `seen 1`.
use Rattle.std.specs.Prelude.{ℕ, List, ◌∷◌, ◌++◌, codes}
use Rattle.std.specs.Fmt.{decimal}
use Rattle.dsr_base.specs.Joined.{more_joined, AreUpTo}
use Rattle.dsr_request.specs.AnswerText.{answer_text, IsAnswer}
use Rattle.dsr_ledger.specs.declared.reply.Reply.{Reply as AReply}
use Rattle.dsr_envelope.specs.Limits.{IsCount, IsSigned, IsReply}
use Rattle.dsr_envelope.specs.declared.envelope.Envelope.{Envelope}
use Rattle.dsr_envelope.specs.declared.envelope.Envelope.TheVariants.{Empty, Round, Ask, Reply, Seen}
use Rattle.dsr_script.specs.ChainText.{signed_text, chain_text, IsSpelledChain}

-- the text of a reply: number, place and answer
abbrev pub reply_text : AReply → List ℕ
reply_text reply = decimal reply.number ++ 32 ∷ (decimal reply.place ++ 32 ∷ answer_text reply.answer)

-- the text of an envelope: a word, and what it carries; each chain has a space before it
abbrev pub envelope_text : Envelope → List ℕ
envelope_text Empty = codes "empty"
envelope_text (Round round chains) = codes "round " ++ (decimal round ++ more_joined 32 chain_text chains)
envelope_text (Ask request) = codes "ask " ++ signed_text request
envelope_text (Reply reply) = codes "reply " ++ reply_text reply
envelope_text (Seen front) = codes "seen " ++ decimal front

-- an envelope that a text can write: within the limits, with 1 to 8 requests in a value that is not idle,
-- and an answer that has a text
abbrev pub IsSpelledEnvelope : Envelope → Type 0
IsSpelledEnvelope Empty = Unit {0}
IsSpelledEnvelope (Round round chains) = IsCount round × AreUpTo IsSpelledChain 32 chains
IsSpelledEnvelope (Ask request) = IsSigned request
IsSpelledEnvelope (Reply reply) = IsReply reply × IsAnswer reply.answer
IsSpelledEnvelope (Seen front) = IsCount front
