-- One more line of a run over lines of requests.
use Rattle.std.proofs.Common.{◌≡◌, ◌≢◌, ℕ, ◌+◌, ◌<◌, List, [], ◌∷◌, ◌++◌, length, refl, sym, ◌∙◌, ap, subst, arith, append_assoc, length-append, zero-lt-suc}
use Rattle.dsr_request.specs.Request.{Request}
use Rattle.dsr_history.specs.History.{acted}
use Rattle.dsr_history.specs.Support.Service.{Service, IsAfter}
use Rattle.dsr_request.specs.RequestText.{IsRequest}
use Rattle.dsr_history.specs.Applied.{request_line, request_lines, values_of, applied, BeginsWith, IsNoLine, HasAnswered, HasAnsweredTo}

-- the lines before the rest are answered
pub record AnsweredSoFar (text rest : List ℕ) (line : ℕ) (service : Service) (answers : List ℕ) : Type 0 where
  pub requests : List Request
  pub begins : BeginsWith text requests rest
  pub stands : IsAfter service (acted (values_of requests))
  pub answered : answers ≡ applied requests
  pub counted : line ≡ length requests

pub none_yet : (text : List ℕ) (service : Service) (answers : List ℕ) → IsAfter service [] → answers ≡ [] → AnsweredSoFar text text 0 service answers
none_yet text service answers new silent =
    record {
      requests = [];
      begins = record { each = tt; lines = refl };
      stands = new;
      answered = silent;
      counted = refl;
    }

pub one_more : (text rest after : List ℕ) (line : ℕ) (service later : Service) (answers more : List ℕ) (request : Request)
    → AnsweredSoFar text rest line service answers → IsRequest request → rest ≡ request_line request ++ after
    → ((older : List Request) → IsAfter service (acted (values_of older)) → answers ≡ applied older
    → IsAfter later (acted (values_of (request ∷ older))) × (more ≡ applied (request ∷ older)))
    → AnsweredSoFar text after (line + 1) later more
one_more text rest after line service later answers more request s h cut step =
    let next = step s.requests s.stands s.answered in
    record {
      requests = request ∷ s.requests;
      begins =
          record {
            each = (h, s.begins.each);
            lines =
                s.begins.lines
                ∙ (ap (λ r. request_lines s.requests ++ r) cut ∙ sym (append_assoc (request_lines s.requests) (request_line request) after));
          };
      stands = next.0;
      answered = next.1;
      counted = omega (arith, s.counted);
    }

pub all_answered : (text rest : List ℕ) (line : ℕ) (service : Service) (answers : List ℕ) → AnsweredSoFar text rest line service answers → rest ≡ []
    → HasAnswered text answers
all_answered text rest line service answers s e =
    record {
      requests = s.requests;
      begins = subst (BeginsWith text s.requests) e s.begins;
      answered = s.answered;
    }

pub answered_to : (text rest : List ℕ) (line : ℕ) (service : Service) (answers : List ℕ) → AnsweredSoFar text rest line service answers → rest ≢ [] → IsNoLine rest
    → HasAnsweredTo (line + 1) text answers
answered_to text rest line service answers s some no_line =
    record {
      requests = s.requests;
      rest = rest;
      begins = s.begins;
      bad = record { some = some; no_line = no_line };
      counted = omega (arith, s.counted);
      answered = s.answered;
    }

-- a line has at least one byte

longer : (xs ys : List ℕ) → 0 < length xs → length ys < length (xs ++ ys)
longer xs ys some = omega (arith, length-append xs ys)

pub shorter : (rest after : List ℕ) (request : Request) → rest ≡ request_line request ++ after → length after < length rest
shorter rest after request cut =
    subst (λ r. length after < length r) (sym cut) (longer (request_line request) after (zero-lt-suc _))
