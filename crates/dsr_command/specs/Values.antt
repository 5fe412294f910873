-- How words encode the values of options (this project).
use Rattle.std.specs.Prelude.{◌&&◌, ◌^◌, ℕ, List, Option, None, Some, drop, if◌then◌else◌, nat_lt}
use Rattle.std.specs.Fmt.{decimal}
use Rattle.std.specs.Str.{bytes_eq}
use Rattle.std.specs.Str.Parse.{digits_value}
use Rattle.dsr_names.specs.Actor.{client_text, replica_text}
use Rattle.dsr_names.specs.declared.actor.Actor.{Actor}
use Rattle.dsr_names.specs.declared.actor.Actor.TheVariants.{Client, Replica}

-- the slot that a word names: the number below 2 ^ 40 whose decimal is the word; `None` without one
abbrev pub slot_of : List ℕ → Option ℕ
slot_of word =
    let n = digits_value 10 word in
    if nat_lt n (2 ^ 40) && bytes_eq word (decimal n) then Some n else None

-- the actor whose token is the word: a replica from r0 to r15, or a client from c0 to c31
abbrev pub actor_of : List ℕ → Option Actor
actor_of word =
    let n = digits_value 10 (drop 1 word) in
    if nat_lt n 16 && bytes_eq word (replica_text n) then Some (Replica n)
    else (if nat_lt n 32 && bytes_eq word (client_text n) then Some (Client n) else None)
