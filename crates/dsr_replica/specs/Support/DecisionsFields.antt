-- What the fields of the decisions hold (this project).
use Rattle.std.specs.Prelude.{◌-◌, ◌*◌, ◌≤◌, length, reverse, map, vec_len, vec_capacity}
use Rattle.dsr_chain.specs.Content.{requests_in}
use Rattle.dsr_history.specs.Machine.{StandsFor}
use Rattle.dsr_replica.specs.declared.decided.Decisions.TheInside.{Inside}
use Rattle.dsr_replica.specs.Support.Decisions.{Decisions}

-- the decisions in these fields, whose list is the oldest first
abbrev pub decisions_of : Inside → Decisions
decisions_of a = record {
  values = reverse a.list.items;
  clients = a.machine.clients;
  requests = a.machine.room;
  places = vec_capacity a.list - vec_len a.list;
}

-- the machine processed the requests of the values, and its history has at most 8 for each value
pub record IsDecisionsFields (a : Inside) : Type 0 where
  pub stands : StandsFor a.machine (map requests_in (reverse a.list.items))
  pub short : length a.machine.history ≤ 8 * length a.list.items
