-- What the fields of a client hold (this project).
use Rattle.std.specs.Prelude.{◌≡◌, suc, ◌^◌, ◌<◌, ◌≤◌, None, IfSome}
use Rattle.dsr_names.specs.declared.actor.Actor.TheVariants.{Client as AClient}
use Rattle.dsr_client.specs.declared.client.Client.TheInside.{Inside}
use Rattle.dsr_client.specs.Client.{Client}

-- the client in these fields, without its key
abbrev pub client_of : Inside → Client
client_of a = record {
  me = a.me;
  shape = a.shape;
  outstanding = a.outstanding;
  accepted = a.accepted;
  tally = a.tally;
  seen = a.seen;
}

-- the key is this client's, one of the shape; the tally is that of the shape; what is outstanding has the next number,
-- and no reply to it won yet; and the counts are below the limits
pub record IsClientFields (a : Inside) : Type 0 where
  pub holder : a.key ≡ AClient a.me
  pub inside : a.me < a.shape.m
  pub tally_f : a.tally.f ≡ a.shape.f
  pub tally_n : a.tally.n ≡ a.shape.n
  pub few : a.accepted < 2 ^ 40
  pub unanswered : IfSome a.outstanding (λ ask. a.tally.winner ≡ None)
  pub next : IfSome a.outstanding (λ ask. (ask.request.number ≡ suc a.accepted) × (suc a.accepted < 2 ^ 40))
  pub front : a.seen ≤ 2 ^ 40
