-- The command that the program gives to `clap`, in the terms of `clap`'s contracts.
use Rattle.std.specs.Prelude.{Bool, List, ℕ, Option, None, Some, codes, if◌then◌else◌, false, true}
use Rattle.std.specs.Option.{option_map_or}
use Rattle.std.specs.Str.{bytes_eq}
use Rattle.clap.specs.Words.{App, Row, Rule, first_of, new_app, new_rule, with_rule, with_subcommand}
use Rattle.clap.specs.Simple.{on_top}
use Rattle.clap.specs.declared.builder.action.ArgAction.TheVariants.{SetTrue}
use Rattle.dsr_command.specs.declared.Task.{Task}
use Rattle.dsr_command.specs.declared.Task.TheVariants.{Apply, Check, Play, Serve}

-- the program `dsr` before its tasks are listed: the words begin after the program's name, and
-- `help` is not a subcommand
abbrev pub program : App
program = on_top (λ s. record s { no_binary_name = true; disable_help_subcommand = true })
    (new_app (codes "dsr"))

-- a flag with this name, which is given or not
abbrev pub flag_rule : List ℕ → Rule
flag_rule name = record (new_rule name) { long = Some name; action = Some SetTrue }

-- `play`, with its two flags
abbrev pub play_app : App
play_app = with_rule (with_rule (new_app (codes "play")) (flag_rule (codes "strict"))) (flag_rule (codes "transcript"))

-- `serve`, with its flag
abbrev pub serve_app : App
serve_app = with_rule (new_app (codes "serve")) (flag_rule (codes "transcript"))

-- the program with the tasks that keep a directory
abbrev pub keeping : App
keeping = with_subcommand (with_subcommand (with_subcommand program (new_app (codes "apply")).top) play_app.top) serve_app.top

-- the program with all of its tasks; `clap` does not read the words after `explain`
abbrev pub command_line : App
command_line = with_subcommand (with_subcommand keeping (new_app (codes "check")).top) (new_app (codes "explain")).top

-- whether `clap` reports the flag with this name as given
abbrev pub is_given : List ℕ → List Row → Bool
is_given name rows = option_map_or (λ given. bytes_eq given (codes "true")) (first_of name rows) false

-- the task of the subcommand that `clap` reports for the words; `apply` if it reports none
abbrev pub task_entered : Option (List ℕ × List Row) → Task
task_entered None = Apply
task_entered (Some entered) =
    if bytes_eq entered.0 (codes "play") then Play (is_given (codes "strict") entered.1) (is_given (codes "transcript") entered.1)
    else (if bytes_eq entered.0 (codes "serve") then Serve (is_given (codes "transcript") entered.1)
    else (if bytes_eq entered.0 (codes "check") then Check else Apply))
