-- How lines of requests are answered (this project). Requests are listed newest first: the last line's request is the
-- first of the list.
use Rattle.std.specs.Prelude.{◌≡◌, ◌≢◌, ◌⊎◌, ℕ, ◌+◌, ◌≤◌, nat_lt, if◌then◌else◌, List, [], ◌∷◌, ◌++◌, length, map, codes, Option, None, Some}
use Rattle.std.specs.List.{AllByRecursion}
use Rattle.std.specs.Fmt.{decimal}
use Rattle.std.specs.Io.KnownBytes.{Keeps}
use Rattle.dsr_names.specs.Limits.{most_bytes}
use Rattle.dsr_names.specs.Streams.{Streams, CanFailToGive, CanFailToTake, SentAll, SentPrefix}
use Rattle.dsr_names.specs.declared.refusal.Refusal.{Refusal}
use Rattle.dsr_names.specs.declared.refusal.Refusal.TheVariants.{BadText, NoMemory, ReadFailed, WriteFailed}
use Rattle.dsr_request.specs.AnswerText.{answer_text}
use Rattle.dsr_ledger.specs.declared.reply.Reply.{Reply}
use Rattle.dsr_request.specs.Request.{Request}
use Rattle.dsr_history.specs.History.{reply}
use Rattle.dsr_request.specs.RequestText.{request_text, IsRequest}

-- the line of a request: its text with spaces, and a line feed
abbrev pub request_line : Request → List ℕ
request_line request = request_text 32 32 request ++ 10 ∷ []

-- the lines of the requests, the newest last
abbrev pub request_lines : List Request → List ℕ
request_lines [] = []
request_lines (request ∷ older) = request_lines older ++ request_line request

-- the values that lines of requests represent: one for each line, with its one request
abbrev pub values_of : List Request → List (List Request)
values_of requests = map (λ request. request ∷ []) requests

-- the answer to a request, given its client's last reply, which there always is after its own line: `old` if that has a
-- greater number, else its place and answer
abbrev pub told_by : Request → Option Reply → List ℕ
told_by request None = []
told_by request (Some last) =
    if nat_lt request.number last.number then codes "old" else decimal last.place ++ (codes " " ++ answer_text last.answer)

-- the line that answers the newest request, by the reply that its client has after it
abbrev pub answer_line : List Request → List ℕ
answer_line [] = []
answer_line (request ∷ older) = told_by request (reply (values_of (request ∷ older)) request.client) ++ 10 ∷ []

-- the answers to the requests' lines, a line for each
abbrev pub applied : List Request → List ℕ
applied [] = []
applied (request ∷ older) = applied older ++ answer_line (request ∷ older)

-- the text is the lines of these requests, then the rest; a text can write each of these requests
pub record BeginsWith (text : List ℕ) (requests : List Request) (rest : List ℕ) : Type 0 where
  pub each : AllByRecursion IsRequest requests
  pub lines : text ≡ request_lines requests ++ rest

-- the text does not begin with the line of a request
abbrev pub IsNoLine : List ℕ → Type 0
IsNoLine text = (request : Request) (after : List ℕ) → IsRequest request → text ≡ request_line request ++ after → ⊥

-- a rest that is not empty, and does not begin with the line of a request
pub record IsBad (rest : List ℕ) : Type 0 where
  pub some : rest ≢ []
  pub no_line : IsNoLine rest

-- the text is lines of requests, and these are the answers
pub record HasAnswered (text answers : List ℕ) : Type 0 where
  pub requests : List Request
  pub begins : BeginsWith text requests []
  pub answered : answers ≡ applied requests

-- the line with this number, counted from 1, is the first of the text that is not a request's, and these are the
-- answers to the lines before it
pub record HasAnsweredTo (line : ℕ) (text answers : List ℕ) : Type 0 where
  pub requests : List Request
  pub rest : List ℕ
  pub begins : BeginsWith text requests rest
  pub bad : IsBad rest
  pub counted : line ≡ length requests + 1
  pub answered : answers ≡ applied requests

-- the text that a source gives, if that is known
abbrev pub IsTextOf : Option (List ℕ) → List ℕ → Type 0
IsTextOf None text = Unit {0}
IsTextOf (Some bytes) text = text ≡ bytes

-- all lines were requests', and their answers went out
pub record AppliedAll (s : Streams) : Type 0 where
  pub text : List ℕ
  pub short : length text ≤ most_bytes
  pub requests : List Request
  pub given : IsTextOf s.input.left text
  pub begins : BeginsWith text requests []
  pub went_out : SentAll (applied requests) s.output s.written

-- the lines before the bad one, which has this number counted from 1, are answered
pub record AppliedToLine (line : ℕ) (s : Streams) : Type 0 where
  pub text : List ℕ
  pub short : length text ≤ most_bytes
  pub requests : List Request
  pub rest : List ℕ
  pub given : IsTextOf s.input.left text
  pub begins : BeginsWith text requests rest
  pub bad : IsBad rest
  pub counted : line ≡ length requests + 1
  pub went_out : SentAll (applied requests) s.output s.written

-- a prefix of the answers went out, and the sink is one that may not take them all
pub record AppliedPart (s : Streams) : Type 0 where
  pub text : List ℕ
  pub short : length text ≤ most_bytes
  pub requests : List Request
  pub rest : List ℕ
  pub given : IsTextOf s.input.left text
  pub begins : BeginsWith text requests rest
  pub ended : (rest ≡ []) ⊎ IsBad rest
  pub too_many : CanFailToTake (length (applied requests)) s.output
  pub went_out : SentPrefix (applied requests) s.output s.written

-- what was written after each refusal: after a bad line the answers to the lines before it; nothing if memory ran out,
-- or if reading failed, which a steady source does only for too many bytes; a prefix of the answers if writing failed;
-- no other refusal occurs
abbrev pub WrittenAfter : Refusal → Streams → Type 0
WrittenAfter (BadText line) s = AppliedToLine line s
WrittenAfter NoMemory s = Keeps s.output.contents s.written.contents
WrittenAfter ReadFailed s = CanFailToGive s.input × Keeps s.output.contents s.written.contents
WrittenAfter WriteFailed s = AppliedPart s
WrittenAfter other s = ⊥
