-- What a loyal actor chooses if its protocol leaves it a choice (this project).
use Rattle.std.specs.Prelude.{◌≢◌, ℕ, ◌<◌, ◌≤◌, List, AllPairs, length}
use Rattle.dsr_envelope.specs.declared.pick.Pick.{Pick}
use Rattle.dsr_envelope.specs.declared.pick.Pick.TheVariants.{Plain, From, Begin}

-- 1 to 8 clients, all different
pub record IsClients (clients : List ℕ) : Type 0 where
  pub some : 0 < length clients
  pub few : length clients ≤ 8
  pub distinct : AllPairs (λ a b. a ≢ b) clients

-- a choice that can be made: the clients of `From` are 1 to 8 different ones
abbrev pub IsPick : Pick → Type 0
IsPick Plain = Unit {0}
IsPick (From clients) = IsClients clients
IsPick (Begin op) = Unit {0}
