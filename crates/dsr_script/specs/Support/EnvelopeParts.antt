-- Replies and rounds by their parts in a text.
use Rattle.std.specs.Prelude.{ℕ, ◌<◌, List, ◌++◌}
use Rattle.std.specs.Fmt.{decimal}
use Rattle.dsr_base.specs.Joined.{more_joined, AreUpTo}
use Rattle.dsr_request.specs.AnswerText.{IsAnswer}
use Rattle.dsr_request.specs.declared.answer.Answer.{Answer}
use Rattle.dsr_ledger.specs.declared.reply.Reply.{Reply}
use Rattle.dsr_chain.specs.Chain.{Chain}
use Rattle.dsr_envelope.specs.Limits.{IsCount, IsReply}
use Rattle.dsr_envelope.specs.declared.envelope.Envelope.{Envelope}
use Rattle.dsr_envelope.specs.declared.envelope.Envelope.TheVariants as envelope
use Rattle.dsr_script.specs.ChainText.{chain_text, IsSpelledChain}

-- a reply that a text can write
abbrev pub IsSpelledReply : Reply → Type 0
IsSpelledReply reply = IsReply reply × IsAnswer reply.answer

-- the number of a request
abbrev pub IsNumber : ℕ → Type 0
IsNumber n = (0 < n) × IsCount n

-- a reply's number, place and answer
abbrev pub reply_parts : Reply → ℕ × (ℕ × Answer)
reply_parts reply = (reply.number, (reply.place, reply.answer))

-- the number of a round, and chains that a text can write
abbrev pub IsRound : ℕ × List Chain → Type 0
IsRound p = IsCount p.0 × AreUpTo IsSpelledChain 32 p.1

-- the text of both
abbrev pub round_text : ℕ × List Chain → List ℕ
round_text p = decimal p.0 ++ more_joined 32 chain_text p.1

-- the envelope with both
abbrev pub round_of : ℕ × List Chain → Envelope
round_of p = envelope.Round p.0 p.1
