-- How the fields of a machine hold what contracts see of it.
use Rattle.std.specs.Prelude.{◌≡◌, ◌-◌, min, List, [], ◌∷◌, length, reverse, vec_len, vec_capacity}
use Rattle.dsr_request.specs.declared.answer.Answer.{Answer}
use Rattle.dsr_register.specs.Values.{answer_after}
use Rattle.dsr_request.specs.Request.{Request}
use Rattle.dsr_history.specs.History.{operations}
use Rattle.dsr_history.specs.Support.Service.{IsAfter}
use Rattle.dsr_history.specs.declared.machine.Machine.TheInside.{Inside}
use Rattle.dsr_history.specs.Machine.{Machine}

-- the answers to the requests of a history
abbrev pub answers_of : List Request → List Answer
answers_of [] = []
answers_of (r ∷ older) = answer_after (operations older) r.op ∷ answers_of older

-- the history that the machine holds, newest first
abbrev pub history_of : Inside → List Request
history_of a = reverse a.history.items

-- the state in these fields; the room is the smaller one of the two lists
abbrev pub state_of : Inside → Machine
state_of a =
    record {
      history = history_of a;
      clients = length a.service.replies;
      room = min (vec_capacity a.history - vec_len a.history) (vec_capacity a.answers - vec_len a.answers);
    }

-- the service is that after the history, and the answers are those to its requests
pub record IsMachine (a : Inside) : Type 0 where
  pub service : IsAfter a.service (history_of a)
  pub answers : reverse a.answers.items ≡ answers_of (history_of a)
