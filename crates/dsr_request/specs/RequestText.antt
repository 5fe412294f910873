-- How texts write a request (this project): `c0#7:write:a:5`, and in a line of its own `c0 7 write a 5`.
use Rattle.std.specs.Prelude.{ℕ, ◌<◌, ◌^◌, List, ◌∷◌, ◌++◌}
use Rattle.std.specs.Fmt.{decimal}
use Rattle.dsr_names.specs.Actor.{actor_text}
use Rattle.dsr_names.specs.declared.actor.Actor.TheVariants.{Client}
use Rattle.dsr_request.specs.OpText.{op_text, IsOp}
use Rattle.dsr_request.specs.Request.{Request}

-- a request that a text can write
pub record IsRequest (request : Request) : Type 0 where
  pub client_exists : request.client < 32
  pub some_number : 0 < request.number
  pub small_number : request.number < 2 ^ 40
  pub is_op : IsOp request.op

-- client, number and operation, with `mark` after the client, and the separator between all other parts
abbrev pub request_text : ℕ → ℕ → Request → List ℕ
request_text mark separator request =
    actor_text (Client request.client) ++ mark ∷ (decimal request.number ++ separator ∷ op_text separator request.op)

-- the token of a request: `#` after the client, and colons
abbrev pub request_token : Request → List ℕ
request_token request = request_text 35 58 request
